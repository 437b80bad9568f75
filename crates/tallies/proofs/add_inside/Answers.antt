use Rattle.std.proofs.Common.{ℕ, length-set, ◌+◌, ◌<◌, arith, ◌∙◌}
use Rattle.sets.proofs.Ascending.{ones_step}
use Rattle.tallies.proofs.Words.{bit_for_le, bit_for_first, bit_for_end, raised_more}
use Rattle.tallies.proofs.Reaching.{raised_to_more}
use Rattle.tallies.proofs.add_inside.Goals as goal

pub overflow_add-tallies : goal.overflow_add-tallies
overflow_add-tallies c =
    let s = ones_step _ _ _ c.in-Some.ensures.steps in
    omega (arith, c.loop-k.invariant.counts (c.args.base + c.in-Some.k), c.requires.room c.in-Some.k s.below, bit_for_first c.args.base s, bit_for_le c.args.base c.args.word (c.args.base + c.in-Some.k))

pub loop-k-preserved : goal.loop-k-preserved
loop-k-preserved c =
    let s = ones_step _ _ _ c.in-Some.ensures.steps in
    let room : c.args.base + c.in-Some.k < 512 = omega (arith, s.below) in
    record {
      next = tt;
      finite = tt;
      tallies_size = omega (arith, length-set {A = ℕ});
      reaches_size = omega (arith, length-set {A = ℕ});
      counts = λ i. raised_more c.loop-k.tallies c.args.base s (omega arith) i ∙ c.loop-k.invariant.counts i;
      entries = λ i. rw c.max.ensures (raised_to_more c.loop-k.reaches c.args.base c.args.reach s (omega arith) i ∙ c.loop-k.invariant.entries i);
    }

pub returns-clause-counted : goal.returns-clause-counted
returns-clause-counted c = record { size = omega arith; counts = λ i. omega (arith, c.loop-k.invariant.counts i, bit_for_end c.args.base _ c.in-None.ensures.steps.0 i) }

pub returns-clause-raised : goal.returns-clause-raised
returns-clause-raised c = record {
  size = omega arith;
  entries = λ i. let h = c.loop-k.invariant.entries i in let z = rw (bit_for_end c.args.base _ c.in-None.ensures.steps.0 i) at h in omega (arith, z);
}
