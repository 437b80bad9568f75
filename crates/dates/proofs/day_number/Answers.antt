-- `dates::day_number` meets its contract, by the answer of the method of this name.
use Rattle.std.specs.Option.{unwrap_or}
use mathlib.Core.Path.{ap, ◌∙◌}
use Rattle.dates.specs.Dates.{day_number, day_number_of}
use Rattle.dates.proofs.IfDate.{told}
use Rattle.dates.proofs.day_number.Goals as goal

pub returns : goal.returns
unfolding day_number_of
returns c =
    c.unwrap_or.ensures
    ∙ ap (λ o. unwrap_or o 0) c.day_number.ensures
    ∙ told c.args.year c.args.month c.args.day (day_number c.args.year c.args.month c.args.day) 0
