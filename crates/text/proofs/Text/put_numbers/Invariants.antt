-- `text::Text::put_numbers` meets its contract: as many numbers as the loop has come are written.
use lib.ListN.{take}
use Rattle.text.specs.Text.{Writes, numbers}
use Rattle.text.proofs.Text.put_numbers.Given as goal

abbrev pub invariant-loop-number : goal.invariant-loop-number
invariant-loop-number l = Writes l.fn.self (numbers (take l.number-index l.table)) l.self
