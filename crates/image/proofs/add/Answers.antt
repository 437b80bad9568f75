-- `image::add` meets its contract: the row's size goes up by one with the bit.
use native.Mathlib.Omega.{arith}
use Rattle.image.proofs.Rows.{row_most, counted_add}
use Rattle.image.proofs.add.Goals as goal

pub overflow_add-sizes : goal.overflow_add-sizes
overflow_add-sizes c = record { fits = omega (arith, row_most c.requires.2 c.args.u c.requires.0) }

pub returns-clause-counted : goal.returns-clause-counted
returns-clause-counted c = rw c.mark.ensures (counted_add c.args.rows.now c.args.sizes.now c.args.u c.args.v c.requires.0 c.requires.1 (c.told-rows, c.told-sizes) c.requires.2 c.requires.3)
