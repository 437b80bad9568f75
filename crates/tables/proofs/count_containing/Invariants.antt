-- `tables::count_containing` meets its contract. The invariant: the count is how many of the rows passed contain v, and at most one for each.
use mathlib.Core.Path.{◌≡◌}
use Prim.Native.Nat.{◌≤◌}
use Rattle.community.specs.Network.{membership_count}
use Rattle.rows.specs.Rows.{rows_of}
use Rattle.tables.proofs.count_containing.Given as goal

abbrev pub invariant-loop-k : goal.invariant-loop-k
invariant-loop-k l = (l.times ≤ l.k) × (l.times ≡ membership_count l.v (rows_of l.groups.rows.now l.k))
