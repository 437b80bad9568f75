-- `scores::score_list` meets its contract: the tally's refusal, or the scores of an answered tally.
use Rattle.std.specs.Prelude.{Ok}
use mathlib.Core.Path.{sym, ap, ◌∙◌}
use Rattle.scores.specs.Scored.{tallied_of, scored_for, scored_of}
use Rattle.scores.specs.Answers.{score_answer}
use Rattle.scores.proofs.Answers.{tally_same}
use Rattle.scores.proofs.score_list.Goals as goal

pub returns-in-Ok : goal.returns-in-Ok
unfolding scored_of
returns-in-Ok c = ap score_answer (ap Ok c.scores_of.ensures ∙ ap scored_for (sym c.in-Ok.is ∙ tally_same c.tally_list.result (tallied_of c.args.image.now c.args.list.now) c.tally_list.ensures))

pub returns-in-Err : goal.returns-in-Err
unfolding scored_of
returns-in-Err c = ap score_answer (ap scored_for (sym c.in-Err.is ∙ tally_same c.tally_list.result (tallied_of c.args.image.now c.args.list.now) c.tally_list.ensures))
