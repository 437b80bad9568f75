use mathlib.Core.Path.{ap, ap₂, ◌∙◌}
use mathlib.Core.Bool.{◌&&◌}
use Rattle.graph.specs.ForProofs.{in_set}
use Rattle.graph.proofs.Records.is_within.Goals as goal

pub returns : goal.returns
returns c =
    ap₂ ◌&&◌ (c.has.ensures ∙ ap (in_set c.args.within.now) c.ends_at-e.ensures.ends.0) (c.has-2.ensures ∙ ap (in_set c.args.within.now) c.ends_at-e.ensures.ends.1)
