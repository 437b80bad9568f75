-- `dates::is_leap` meets its contract: the code is the definition.
use mathlib.Core.Path.{refl}
use Rattle.dates.specs.Dates.{is_leap}
use Rattle.dates.proofs.is_leap.Goals as goal

pub returns : goal.returns
unfolding is_leap
returns c = refl
