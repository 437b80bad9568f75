use Rattle.std.proofs.Common.{◌+◌, ◌<◌, arith, length, ap, ◌∙◌}
use Rattle.sets.proofs.Bits.{length_with_bit}
use Rattle.sets.proofs.Ascending.{ones_step}
use Rattle.tallies.specs.ForProofs.{bit_for}
use Rattle.tallies.proofs.Words.{bit_for_le, marked_more, marked_end}
use Rattle.tallies.proofs.Degrees.{degree_sum_le, sum_step, sum_end}
use Rattle.tallies.proofs.mark_word.Goals as goal

pub overflow_add-sum : goal.overflow_add-sum
overflow_add-sum c =
    let s = ones_step _ _ _ c.in-Some.ensures.steps in
    omega (arith, sum_step c.args.degrees.now c.args.base s (omega (arith, s.below)), degree_sum_le (bit_for c.args.base c.args.word) c.args.degrees.now (bit_for_le c.args.base c.args.word) c.requires.fits)

pub loop-k-preserved : goal.loop-k-preserved
loop-k-preserved c =
    let s = ones_step _ _ _ c.in-Some.ensures.steps in
    let room : c.args.base + c.in-Some.k < 512 = omega (arith, s.below) in
    record {
      next = tt;
      finite = tt;
      size = ap length c.mark.ensures ∙ length_with_bit c.loop-k.words _ ∙ c.loop-k.invariant.size;
      bits = λ v j h. rw c.mark.ensures (marked_more c.loop-k.words c.args.base c.args.i s c.requires.in_word (omega arith) v j h ∙ c.loop-k.invariant.bits v j h);
      sum = omega (arith, sum_step c.args.degrees.now c.args.base s room);
    }

pub returns-clause-marked : goal.returns-clause-marked
returns-clause-marked c = marked_end _ c.in-None.ensures.steps.0 c.loop-k.invariant.size c.loop-k.invariant.bits

pub returns-clause-summed : goal.returns-clause-summed
returns-clause-summed c = omega (arith, sum_end c.args.degrees.now c.args.base _ c.in-None.ensures.steps.0)
