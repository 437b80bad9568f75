-- `tables::role_in` meets its contract, by the cases of a core, a border and an outlier.
use Prim.Native.Nat.{ℕ, min}
use native.Mathlib.Omega.{arith}
use mathlib.Core.Path.{◌≡◌, sym, ap, ◌∙◌}
use Rattle.std.specs.Prelude.{Option, Some, None, MatchOption}
use Rattle.std.specs.Option.{unwrap_or}
use Rattle.community.specs.Network.{community_number, membership_count, border_of, role_values}
use Rattle.rows.specs.Rows.{rows_of}
use Rattle.tables.proofs.Roles.{role_core, role_other, border_some}
use Rattle.tables.proofs.role_in.Goals as goal

-- the number that was found, or the count where none was
number_or : (r : Option ℕ) (n count : ℕ) → MatchOption r (n ≡ count) (λ k. n ≡ k) → unwrap_or r count ≡ n
number_or (Some k) n count e = sym e
number_or None n count e = sym e

pub returns-then-has : goal.returns-then-has
returns-then-has c =
    ap role_values (role_core c.args.cores.now c.args.groups.rows.now (min c.args.groups.count 512) c.args.v c.unwrap_or.result (sym c.has.ensures ∙ c.if-has.true)
    (c.unwrap_or.ensures ∙ number_or c.first_containing.result _ c.min-count.result c.first_containing.ensures
    ∙ ap (λ (k : ℕ). community_number c.args.v (rows_of c.args.groups.rows.now k)) c.min-count.ensures))

pub returns-in-0 : goal.returns-in-0
returns-in-0 c =
    ap role_values
    (ap border_of (sym c.in-0.is)
    ∙ role_other c.args.cores.now c.args.groups.rows.now (min c.args.groups.count 512) c.args.v c.count_containing.result (sym c.has.ensures ∙ c.if-has.false)
    (c.count_containing.ensures ∙ ap (λ (k : ℕ). membership_count c.args.v (rows_of c.args.groups.rows.now k)) c.min-count.ensures))

pub returns-in_default : goal.returns-in_default
returns-in_default c =
    ap role_values
    (border_some c.count_containing.result (omega arith)
    ∙ role_other c.args.cores.now c.args.groups.rows.now (min c.args.groups.count 512) c.args.v c.count_containing.result (sym c.has.ensures ∙ c.if-has.false)
    (c.count_containing.ensures ∙ ap (λ (k : ℕ). membership_count c.args.v (rows_of c.args.groups.rows.now k)) c.min-count.ensures))
