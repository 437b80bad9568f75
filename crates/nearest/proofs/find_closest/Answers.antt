use Rattle.nearest.specs.ForProofs.{wrapped}
use Rattle.nearest.proofs.Taking.{passed_none, closest_none, closest_word}
use Rattle.nearest.proofs.find_closest.Goals as goal

pub loop-j-init : goal.loop-j-init
loop-j-init c = closest_none _ _ (passed_none (wrapped c.args.point.now c.args.handsets.now) c.args.set.now)

pub loop-j-preserved : goal.loop-j-preserved
loop-j-preserved c =
    closest_word (wrapped c.args.point.now c.args.handsets.now) c.args.set.now c.loop-j.j c.loop-j.least c.loop-j.closest _ _ c.loop-j.invariant c.take_word-least.ensures
