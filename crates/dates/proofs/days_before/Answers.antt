-- `dates::days_before` meets its contract: the code is the definition.
use mathlib.Core.Path.{refl}
use Rattle.dates.specs.Dates.{days_before}
use Rattle.dates.proofs.days_before.Goals as goal

pub returns : goal.returns
unfolding days_before
returns c = refl
