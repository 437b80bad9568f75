-- `rows::Groups::counts` meets its contract. The invariant: the count is the length of the member table of the rows passed.
use mathlib.Core.Path.{◌≡◌}
use lib.ListN.{length}
use Rattle.community.specs.Tables.{member_table}
use Rattle.rows.specs.Rows.{rows_of}
use Rattle.rows.proofs.Groups.counts.Given as goal

abbrev pub invariant-loop-k : goal.invariant-loop-k
invariant-loop-k l = l.memberships ≡ length (member_table (rows_of l.self.rows.now l.k))
