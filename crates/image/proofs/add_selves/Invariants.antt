-- `image::add_selves` meets its contract. At u the table holds each handset below u with itself, counted; the cleared table holds none.
use Rattle.std.proofs.Common.{◌≡◌, length}
use mathlib.Core.Bool.{◌&&◌}
use lib.Dec.{ltb, eqb}
use Rattle.sets.specs.Rows.{Table, Counted}
use Rattle.image.proofs.add_selves.Given as goal

abbrev pub invariant-loop-u : goal.invariant-loop-u
invariant-loop-u l = (length l.rows ≡ 4096) × (length l.sizes ≡ 512) × Table l.rows (λ x y. ltb x l.u && eqb x y) × Counted l.rows l.sizes
