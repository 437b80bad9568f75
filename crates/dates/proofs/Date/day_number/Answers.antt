-- `dates::Date::day_number` meets its contract, by the test of the date.
use Rattle.dates.specs.Dates.{day_number_of, if_date}
use Rattle.dates.proofs.Date.day_number.Goals as goal

pub returns-then-exists : goal.returns-then-exists
unfolding day_number_of if_date
returns-then-exists c = simp (← c.exists.ensures, c.if-exists.true, c.count_days.ensures)

pub returns-else-exists : goal.returns-else-exists
unfolding day_number_of if_date
returns-else-exists c = simp (← c.exists.ensures, c.if-exists.false)
