use native.Mathlib.Omega.{arith}
use mathlib.Core.Logic.{inl, inr, ⊎_elim}
use Rattle.similarity.proofs.Shared.{in_both_most, shared_all, shared_step, shared_end}
use Rattle.similarity.proofs.common.Goals as goal

pub loop-x-init : goal.loop-x-init
loop-x-init c =
    let e = shared_all c.args.a.now c.args.b.now (λ i. (c.type_inv.a i).fits) (λ i. (c.type_inv.b i).fits) in
    rw (
      c.into_iter-x-iterator.ensures.into_iter_gives,
      c.take-x-items.ensures.source,
      c.take-x-items.ensures.count,
      c.zip.ensures.first,
      c.iter.ensures.rest,
      c.zip.ensures.second.0,
    ) (omega (arith, e))

pub overflow_add-n : goal.overflow_add-n
overflow_add-n c =
    let s = c.in-Some.ensures.steps in
    omega (arith, c.loop-x.invariant, shared_step _ s.0.0 s.0.1 s.1, in_both_most c.args.a.now c.args.b.now)

pub loop-x-preserved : goal.loop-x-preserved
loop-x-preserved c =
    let s = c.in-Some.ensures.steps in
    omega (arith, c.loop-x.invariant, shared_step _ s.0.0 s.0.1 s.1)

pub returns : goal.returns
returns c =
    omega (arith, c.loop-x.invariant, shared_end _ _ _ (λ p. ⊎_elim (λ x. inl x.1.0) (λ x. inr x.1.0) (c.in-None.ensures.steps p)))
