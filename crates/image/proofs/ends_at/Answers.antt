-- `image::ends_at` meets its contract: the two numbers of a record are those at its place in the table.
use mathlib.Core.Path.{◌∙◌}
use native.Mathlib.Omega.{arith}
use Rattle.image.proofs.Records.{ends_slice}
use Rattle.image.proofs.ends_at.Goals as goal

pub returns : goal.returns
returns c = c.read_ends.ensures ∙ ends_slice c.args.records.now c.args.k (omega (arith, c.requires))
