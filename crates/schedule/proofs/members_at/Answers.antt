-- `schedule::members_at` meets its contract: each case of the choice has the part that the lookup gives in its plan.
use Rattle.schedule.specs.Schedule.{part_of}
use Rattle.schedule.proofs.members_at.Goals as goal

pub returns-in-Ok-Workday : goal.returns-in-Ok-Workday
unfolding part_of
returns-in-Ok-Workday c = rw (← c.choose.ensures, c.in-Ok-Workday.is, c.in-Ok-Workday.field-0-is) c.members.ensures

pub returns-in-Ok-Restday : goal.returns-in-Ok-Restday
unfolding part_of
returns-in-Ok-Restday c = rw (← c.choose.ensures, c.in-Ok-Restday.is, c.in-Ok-Restday.field-0-is) c.members-in-Ok-Restday.ensures

pub returns-in-Err : goal.returns-in-Err
unfolding part_of
returns-in-Err c = rw (← c.choose.ensures, c.in-Err.is)
