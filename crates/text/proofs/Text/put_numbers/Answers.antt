use borrow.Author.Rules.{rules}
use native.Mathlib.Omega.{arith}
use Rattle.text.specs.Text.{numbers}
use Rattle.text.proofs.Writing.{then, numbers_one}
use Rattle.text.proofs.Text.put_numbers.Goals as goal

pub loop-number-init : goal.loop-number-init
unfolding numbers
loop-number-init c = search rules

pub loop-number-preserved : goal.loop-number-preserved
loop-number-preserved c = rw (numbers_one c.args.table.now c.loop-number.number-index (omega arith), ← c.from.ensures) (then c.loop-number.invariant c.put_number.ensures)
