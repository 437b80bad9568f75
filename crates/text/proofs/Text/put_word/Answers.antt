use native.Mathlib.Omega.{arith}
use borrow.Author.Rules.{rules}
use mathlib.Core.List.{append_assoc}
use Rattle.sets.proofs.Ascending.{ones_step}
use Rattle.text.specs.Text.{numbers}
use Rattle.text.proofs.Writing.{chain, numbers_more}
use Rattle.text.proofs.Text.put_word.Goals as goal

pub loop-bit-init : goal.loop-bit-init
unfolding numbers
loop-bit-init c = search rules

pub overflow_add-base : goal.overflow_add-base
overflow_add-base c = let s = ones_step _ _ _ c.in-Some.ensures.steps in omega (arith, s.below)

pub put_short-position-requires : goal.put_short-position-requires
put_short-position-requires c = let s = ones_step _ _ _ c.in-Some.ensures.steps in omega (arith, s.below)

pub loop-bit-preserved : goal.loop-bit-preserved
loop-bit-preserved c = (
  (tt, tt),
  rw append_assoc (rw c.in-Some.ensures.steps at c.loop-bit.invariant.1),
  rw numbers_more (chain (omega arith) c.loop-bit.invariant.2 (chain (omega arith) c.put_at-position.ensures c.put_short-position.ensures)),
)
