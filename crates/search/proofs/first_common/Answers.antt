use native.Mathlib.Omega.{arith}
use Rattle.sets.proofs.Ascending.{ones_step}
use Rattle.search.proofs.Growth.{none_more, common_found}
use Rattle.search.proofs.first_common.Goals as goal

pub overflow_add-result : goal.overflow_add-result
overflow_add-result c = let s = ones_step _ _ _ c.in-Some.ensures.steps in omega (arith, s.below)

pub returns-in-Some : goal.returns-in-Some
returns-in-Some c =
    common_found c.args.a.now c.args.b.now c.loop-j.j c.loop-j.invariant c.loop-j-test.true _ _ (rw c.set_bits.ensures at c.in-Some.ensures.steps)

pub loop-j-preserved : goal.loop-j-preserved
loop-j-preserved c = none_more c.args.a.now c.args.b.now c.loop-j.j c.loop-j.invariant (rw c.set_bits.ensures at c.in_default.ensures.steps.0)
