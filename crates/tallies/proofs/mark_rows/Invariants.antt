-- `tallies::mark_rows` meets its contract. After i turns the words have the bits of the first i rows, and the table the sums of their degrees.
use Rattle.tallies.specs.ForProofs.{WordsHold, RowsSummed}
use Rattle.tallies.proofs.Words.{in_rows}
use Rattle.tallies.proofs.mark_rows.Given as goal

abbrev pub invariant-loop-i : goal.invariant-loop-i
invariant-loop-i l = record { marked : WordsHold (in_rows l.groups.rows.now l.first l.i) l.words; summed : RowsSummed l.groups.rows.now l.first l.i l.degrees l.initial.tallies l.tallies }
