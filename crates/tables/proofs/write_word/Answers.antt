use native.Mathlib.Omega.{arith}
use Rattle.sets.proofs.Ascending.{ones_step}
use Rattle.tables.proofs.write_word.Goals as goal

pub overflow_add-members : goal.overflow_add-members
overflow_add-members c = let s = ones_step _ _ _ c.in-Some.ensures.steps in omega (arith, s.below)

pub overflow_cast-members : goal.overflow_cast-members
overflow_cast-members c = let s = ones_step _ _ _ c.in-Some.ensures.steps in omega (arith, s.below)
