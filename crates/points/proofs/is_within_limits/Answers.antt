-- `points::is_within_limits` meets its contract: the raised coordinate keeps its limits just where the signed one does.
use Rattle.std.proofs.Common.{ap, ◌∙◌, to_z-of_z}
use Rattle.fields.specs.Fields.{in_limits}
use Rattle.image.specs.Signed.{raised}
use Rattle.image.proofs.Signed.{limits_raised}
use Rattle.points.proofs.is_within_limits.Goals as goal

pub returns : goal.returns
returns c = c.in_limits.ensures ∙ ap in_limits (c.raise.ensures ∙ ap raised (to_z-of_z c.ranges.x)) ∙ limits_raised c.args.x c.ranges.x.sfits
