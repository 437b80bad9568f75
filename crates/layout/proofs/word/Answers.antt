-- `layout::word` meets its contract: a raised coordinate, shifted once more, is the coordinate's word.
use mathlib.Core.Path.{ap, ◌∙◌}
use mir.Facts.{to_z-of_z}
use Rattle.fields.specs.Fields.{shifted}
use Rattle.image.specs.Signed.{raised}
use Rattle.layout.proofs.Numbers.{shifted_raised}
use Rattle.layout.proofs.word.Goals as goal

pub returns : goal.returns
returns c = c.from.ensures ∙ ap shifted (c.raise.ensures ∙ ap raised (to_z-of_z c.ranges.x)) ∙ shifted_raised c.args.x c.ranges.x.sfits
