-- `image::has_bad_end` meets its contract: the test of the ends that are read is the definition's.
use Rattle.std.proofs.lemmas.Grind.{common_steps}
use native.Mathlib.Omega.{arith}
use Rattle.image.specs.Questions.{bad_end}
use Rattle.image.proofs.has_bad_end.Goals as goal

pub returns-then-e-n : goal.returns-then-e-n
unfolding bad_end
returns-then-e-n c = grind (arith, common_steps)

pub returns-else-e-n : goal.returns-else-e-n
unfolding bad_end
returns-else-e-n c = grind (arith, common_steps)
