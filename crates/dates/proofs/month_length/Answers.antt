-- `dates::month_length` meets its contract: 29 where the test of a leap February is met, else the table.
use Rattle.dates.specs.Dates.{month_length}
use Rattle.dates.proofs.month_length.Goals as goal

pub returns-then-month-is_leap : goal.returns-then-month-is_leap
unfolding month_length
returns-then-month-is_leap c = simp (← c.is_leap.ensures, c.if-month-is_leap.true)

pub returns : goal.returns
unfolding month_length
returns c = simp (← c.is_leap.ensures, c.if-month-is_leap.false)
