-- `tables::write_tables` meets its contract. The invariant: with the present place stored at k, the start table is that of the rows passed, and
-- the member table is theirs.
use mathlib.Core.Path.{◌≡◌}
use lib.ListN.{length, set}
use lib.Seq.{sets}
use Rattle.community.specs.Tables.{start_table, member_table}
use Rattle.rows.specs.Rows.{rows_of}
use Rattle.tables.proofs.write_tables.Given as goal

abbrev pub invariant-loop-k : goal.invariant-loop-k
invariant-loop-k l = (l.place ≡ length (member_table (rows_of l.groups.rows.now l.k)))
    × (set l.starts l.k l.place ≡ sets l.initial.starts 0 (start_table (rows_of l.groups.rows.now l.k))) × (l.members ≡ sets l.initial.members 0 (member_table (rows_of l.groups.rows.now l.k)))
