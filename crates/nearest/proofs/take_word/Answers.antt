use Rattle.sets.proofs.Ascending.{ones_step}
use Rattle.nearest.specs.ForProofs.{wrapped}
use Rattle.nearest.proofs.Taking.{word_more, word_end}
use Rattle.nearest.proofs.take_word.Goals as goal

pub loop-k-preserved : goal.loop-k-preserved
loop-k-preserved c = record {
  next = tt;
  finite = tt;
  rest = λ last ws t.
      c.loop-k.invariant.rest last ws (word_more (wrapped c.args.point.now c.args.handsets.now) c.args.base (ones_step _ _ _ c.in-Some.ensures.steps) c.take_closer.ensures t);
}

pub returns : goal.returns
returns c = c.loop-k.invariant.rest _ _ (word_end (wrapped c.args.point.now c.args.handsets.now) c.args.base _ _ _ c.in-None.ensures.steps.0)
