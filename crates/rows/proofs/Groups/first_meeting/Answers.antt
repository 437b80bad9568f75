use native.Mathlib.Omega.{arith}
use mathlib.Core.Path.{◌≡◌, sym, ◌∙◌, subst}
use mathlib.Core.Bool.{not}
use Prim.Native.Nat.{ℕ, min}
use lib.Dec.{T}
use Rattle.sets.specs.Below.{any}
use Rattle.rows.proofs.Rows.{meets_at, overlaps_row, none_before, none_next, first_found, first_unmet}
use Rattle.rows.proofs.Groups.first_meeting.Goals as goal

pub loop-k-init : goal.loop-k-init
loop-k-init c = none_before (meets_at c.args.set.now c.args.self.rows.now)

pub returns-then-overlaps : goal.returns-then-overlaps
returns-then-overlaps c =
    let met = overlaps_row c.args.set.now c.args.self.rows.now _ c.loop-k.k (omega arith) (omega arith) c.row.ensures.table c.fits-set c.overlaps.ensures.fits c.row.ensures.words in
    sym (first_found c.args.set.now c.args.self.rows.now (min c.args.self.count 512) c.loop-k.k (omega arith) (sym met ∙ sym c.overlaps.ensures.told ∙ c.if-overlaps.true) c.loop-k.invariant)

pub loop-k-preserved : goal.loop-k-preserved
loop-k-preserved c =
    let met = overlaps_row c.args.set.now c.args.self.rows.now _ c.loop-k.k (omega arith) (omega arith) c.row.ensures.table c.fits-set c.overlaps.ensures.fits c.row.ensures.words in
    none_next (meets_at c.args.set.now c.args.self.rows.now) c.loop-k.k c.loop-k.invariant (sym met ∙ sym c.overlaps.ensures.told ∙ c.if-overlaps.false)

pub returns : goal.returns
returns c =
    let all : c.loop-k.k ≡ min c.args.self.count 512 = omega arith in
    sym (first_unmet c.args.set.now c.args.self.rows.now (min c.args.self.count 512)
    (subst (λ (n : ℕ). T (not (any n (meets_at c.args.set.now c.args.self.rows.now)))) all c.loop-k.invariant))
