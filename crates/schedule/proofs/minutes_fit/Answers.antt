-- `schedule::minutes_fit` meets its contract: the code is the definition.
use mathlib.Core.Path.{refl}
use Rattle.schedule.specs.Schedule.{minutes_fit}
use Rattle.schedule.proofs.minutes_fit.Goals as goal

pub returns : goal.returns
unfolding minutes_fit
returns c = refl
