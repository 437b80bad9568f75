-- `schedule::is_workday` meets its contract: the weekday of a date that exists, and none else.
use mathlib.Core.Path.{sym, ◌∙◌}
use Rattle.dates.specs.Dates.{weekday_of}
use Rattle.dates.proofs.IfDate.{held, none}
use Rattle.schedule.specs.Schedule.{is_workday}
use Rattle.schedule.proofs.is_workday.Goals as goal

pub returns-in-Some : goal.returns-in-Some
unfolding is_workday
returns-in-Some c =
    let h = held c.args.t.date.year c.args.t.date.month c.args.t.date.day _ _ (sym c.weekday.ensures ∙ c.in-Some.is) in
    rw h.1

pub returns-in-None : goal.returns-in-None
unfolding is_workday weekday_of
returns-in-None c =
    let h = none c.args.t.date.year c.args.t.date.month c.args.t.date.day _ (sym c.weekday.ensures ∙ c.in-None.is) in
    simp h
