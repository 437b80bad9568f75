-- `scores::scores_of` meets its contract: each score is made of the tally's numbers as its definition has them.
use Rattle.std.proofs.Common.{rules}
use Rattle.scores.specs.Scored.{scores_for}
use Rattle.scores.proofs.scores_of.Goals as goal

pub returns : goal.returns
unfolding scores_for
returns c = search rules
