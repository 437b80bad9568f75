-- `schedule::is_working` meets its contract: the code is the definition.
use Rattle.schedule.specs.Schedule.{in_window, is_working}
use Rattle.schedule.proofs.is_working.Goals as goal

pub returns : goal.returns
unfolding in_window is_working
returns c = simp c.is_workday.ensures
