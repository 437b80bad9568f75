-- `tables::write_row` meets its contract. The invariant: the row's members below the word j are written, and the place is the one after them.
use mathlib.Core.Path.{◌≡◌}
use Prim.Native.Nat.{◌+◌, ◌*◌}
use lib.ListN.{length}
use lib.Seq.{sets}
use Rattle.sets.specs.Below.{select}
use Rattle.rows.proofs.Listing.{in_row}
use Rattle.tables.proofs.write_row.Given as goal

abbrev pub invariant-loop-j : goal.invariant-loop-j
invariant-loop-j l = (l.place ≡ l.at + length (select (l.j * 64) (in_row l.rows l.k))) × (l.members ≡ sets l.initial.members l.at (select (l.j * 64) (in_row l.rows l.k)))
