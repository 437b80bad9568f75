-- `image::is_loop` meets its contract: the test of the ends that are read is the definition's.
use Rattle.std.proofs.Common.{rules}
use Rattle.image.specs.Questions.{is_loop}
use Rattle.image.proofs.is_loop.Goals as goal

pub returns : goal.returns
unfolding is_loop
returns c = search rules
