-- `tables::first_containing` meets its contract. The invariant: among the rows passed v has no number but their count, so it is in none.
use mathlib.Core.Path.{◌≡◌}
use Rattle.community.specs.Network.{community_number}
use Rattle.rows.specs.Rows.{rows_of}
use Rattle.tables.proofs.first_containing.Given as goal

abbrev pub invariant-loop-k : goal.invariant-loop-k
invariant-loop-k l = community_number l.v (rows_of l.groups.rows.now l.k) ≡ l.k
