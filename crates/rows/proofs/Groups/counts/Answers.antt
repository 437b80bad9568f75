use Prim.Native.Nat.{ℕ, ◌+◌, min}
use native.Mathlib.Omega.{arith}
use mathlib.Core.Path.{◌≡◌, sym, ap, ◌∙◌}
use lib.ListN.{length}
use Rattle.community.specs.Tables.{member_table}
use Rattle.rows.specs.Rows.{rows_of}
use Rattle.rows.proofs.Listing.{rows_length, members_none, members_length, members_small}
use Rattle.rows.proofs.Rows.{row_in_lem}
use Rattle.rows.proofs.Groups.counts.Goals as goal

pub loop-k-init : goal.loop-k-init
loop-k-init c = sym (ap length (members_none c.args.self.rows.now))

pub overflow_add-memberships : goal.overflow_add-memberships
overflow_add-memberships c =
    let k = c.loop-k.k in
    let rows = c.args.self.rows.now in
    omega (arith, members_length rows k, members_small rows (k + 1), ap length (row_in_lem rows k (omega arith)))

pub loop-k-preserved : goal.loop-k-preserved
loop-k-preserved c =
    let k = c.loop-k.k in
    let rows = c.args.self.rows.now in
    omega (arith, members_length rows k, ap length (row_in_lem rows k (omega arith)))

pub returns : goal.returns
returns c =
    let rows = c.args.self.rows.now in
    let few = min c.args.self.count 512 in
    let all : c.loop-k.k ≡ few = omega arith in
    let g : c.min-groups.result ≡ length (rows_of rows few) = c.min-groups.ensures ∙ sym (rows_length rows few) in
    let m : c.loop-k.memberships ≡ _ = c.loop-k.invariant ∙ ap (λ (n : ℕ). length (member_table (rows_of rows n))) all in
    λ i. record { groups = g i; memberships = m i }
