use mathlib.Core.Path.{◌≡◌, sym, ap, ◌∙◌}
use Prim.Native.Nat.{ℕ}
use native.Mathlib.Omega.{arith}
use Rattle.community.specs.Network.{community_number}
use Rattle.rows.specs.Rows.{rows_of}
use Rattle.tables.proofs.Roles.{number_start, number_next, number_found}
use Rattle.tables.proofs.first_containing.Goals as goal

pub loop-k-init : goal.loop-k-init
loop-k-init c = number_start c.args.groups.rows.now c.args.v

pub returns-then-in_row : goal.returns-then-in_row
returns-then-in_row c = number_found c.args.groups.rows.now c.loop-k.k c.args.v c.args.groups.count (omega arith) c.loop-k.invariant (sym c.in_row.ensures ∙ c.if-in_row.true)

pub loop-k-preserved : goal.loop-k-preserved
loop-k-preserved c = number_next c.args.groups.rows.now c.loop-k.k c.args.v c.loop-k.invariant (sym c.in_row.ensures ∙ c.if-in_row.false)

pub returns : goal.returns
returns c =
    let e : c.loop-k.k ≡ c.args.groups.count = omega arith in
    ap (λ (k : ℕ). community_number c.args.v (rows_of c.args.groups.rows.now k)) (sym e) ∙ c.loop-k.invariant ∙ e
