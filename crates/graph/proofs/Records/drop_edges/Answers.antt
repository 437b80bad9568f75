use native.Mathlib.Omega.{arith}
use Rattle.sets.proofs.Ascending.{ones_step}
use Rattle.graph.proofs.Edges.{dropping_bit, dropping_on, dropping_end}
use Rattle.graph.proofs.Records.drop_edges.Goals as goal

pub overflow_add-base : goal.overflow_add-base
overflow_add-base c =
    let s = ones_step _ _ _ c.in-Some.ensures.steps in
    omega (arith, c.requires.1 _ (dropping_bit _ _ _ _ s c.loop-k.invariant.1), c.args.self.now.few_edges)

pub ends_at-e-requires : goal.ends_at-e-requires
ends_at-e-requires c = let s = ones_step _ _ _ c.in-Some.ensures.steps in c.requires.1 _ (dropping_bit _ _ _ _ s c.loop-k.invariant.1)

pub loop-k-preserved : goal.loop-k-preserved
loop-k-preserved c =
    let s = ones_step _ _ _ c.in-Some.ensures.steps in (
      (tt, tt),
      rw (c.take_out-in-loop-k.ensures.taken, c.take_out.ensures.taken, c.ends_at-e.ensures.ends.0, c.ends_at-e.ensures.ends.1)
          (dropping_on _ _ _ _ c.ranges.word.fits s (rw c.ends_at-e.ensures.ends.0 at c.ends_at-e.ensures.below.0) (rw c.ends_at-e.ensures.ends.1 at c.ends_at-e.ensures.below.1)
          (omega arith) c.loop-k.invariant.1),
      c.take_out-in-loop-k.ensures.counted,
    )

pub returns-clause-dropped : goal.returns-clause-dropped
returns-clause-dropped c = dropping_end _ _ _ _ c.ranges.word.fits c.in-None.ensures.steps.0 c.loop-k.invariant.1
