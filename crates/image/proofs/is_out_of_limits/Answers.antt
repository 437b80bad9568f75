-- `image::is_out_of_limits` meets its contract: the slice is the handset's record.
use mathlib.Core.Path.{ap, ◌∙◌}
use Rattle.limits.specs.Limits.{out_of_limits}
use Rattle.image.proofs.Records.{handset_slice_lem}
use Rattle.image.proofs.is_out_of_limits.Goals as goal

pub returns : goal.returns
returns c = c.out_of_limits.ensures ∙ ap out_of_limits (handset_slice_lem c.args.records.now c.args.v)
