-- `schedule::choose` meets its contract: each way through the tests is one case of the definition.
use Rattle.schedule.specs.Schedule.{date_fits, plan_at, choice_of}
use Rattle.schedule.proofs.choose.Goals as goal

pub returns-then-not-exists : goal.returns-then-not-exists
unfolding choice_of date_fits
returns-then-not-exists c = simp (← c.exists.ensures, c.if-not-exists.true, c.refused.ensures)

pub returns-then-not-minutes_fit : goal.returns-then-not-minutes_fit
unfolding choice_of date_fits
returns-then-not-minutes_fit c = simp (← c.exists.ensures, c.if-not-exists.false, ← c.minutes_fit.ensures, c.if-not-minutes_fit.true, c.refused-then-not-minutes_fit.ensures)

pub returns-then-is_working : goal.returns-then-is_working
unfolding choice_of date_fits plan_at
returns-then-is_working c =
    simp (← c.exists.ensures, c.if-not-exists.false, ← c.minutes_fit.ensures, c.if-not-minutes_fit.false, ← c.is_working.ensures, c.if-is_working.true)

pub returns-else-is_working : goal.returns-else-is_working
unfolding choice_of date_fits plan_at
returns-else-is_working c =
    simp (← c.exists.ensures, c.if-not-exists.false, ← c.minutes_fit.ensures, c.if-not-minutes_fit.false, ← c.is_working.ensures, c.if-is_working.false)
