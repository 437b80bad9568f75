-- `dates::Date::exists` meets its contract: a month out of limits is no month, and else the code is the rest of the test.
use borrow.Author.Tests.{le-leb, lt-leb}
use Rattle.dates.specs.Dates.{date_exists}
use Rattle.dates.proofs.Date.exists.Goals as goal

pub returns-then-self-lt1 : goal.returns-then-self-lt1
unfolding date_exists
returns-then-self-lt1 c = simp (lt-leb _ _ c.if-self-lt1.true)

pub returns-then-self-gt12 : goal.returns-then-self-gt12
unfolding date_exists
returns-then-self-gt12 c = simp (le-leb _ _ c.if-self-lt1.false, lt-leb _ _ c.if-self-gt12.true)

pub returns : goal.returns
unfolding date_exists
returns c = simp (le-leb _ _ c.if-self-lt1.false, le-leb _ _ c.if-self-gt12.false, c.month_length.ensures)
