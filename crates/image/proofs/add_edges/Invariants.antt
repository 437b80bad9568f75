-- `image::add_edges` meets its contract. At k no edge before is at fault, and the table holds each handset with itself and the first k edges, counted.
-- A bit that is set already is the loop or the repeat.
use Rattle.std.proofs.Common.{◌≡◌, length}
use mathlib.Core.Bool.{not}
use lib.Dec.{T}
use Rattle.sets.specs.Below.{any}
use Rattle.sets.specs.Rows.{Table, Counted}
use Rattle.image.specs.ForProofs.{linked, faulty}
use Rattle.image.proofs.add_edges.Given as goal

abbrev pub invariant-loop-k : goal.invariant-loop-k
invariant-loop-k l = record {
  long : length l.rows ≡ 4096;
  none : T (not (any l.k (faulty l.records l.n)));
  table : Table l.rows (linked l.n l.records l.k);
  counted : Counted l.rows l.sizes;
}
