-- `dates::weekday` meets its contract, by the answer of the method of this name.
use Rattle.std.specs.Option.{unwrap_or}
use mathlib.Core.Path.{ap, ◌∙◌}
use Rattle.dates.specs.Dates.{day_number, weekday_number, weekday_of}
use Rattle.dates.proofs.IfDate.{told}
use Rattle.dates.proofs.weekday.Goals as goal

pub returns : goal.returns
unfolding weekday_of
returns c =
    c.unwrap_or.ensures
    ∙ ap (λ o. unwrap_or o 7) c.weekday.ensures
    ∙ told c.args.year c.args.month c.args.day (weekday_number (day_number c.args.year c.args.month c.args.day)) 7
