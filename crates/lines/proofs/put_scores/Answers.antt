-- `lines::put_scores` meets its contract: five writes, one after another.
use Rattle.text.proofs.Writing.{then}
use Rattle.lines.specs.Lines.{scores_text}
use Rattle.lines.proofs.put_scores.Goals as goal

pub returns : goal.returns
unfolding scores_text
returns c =
    rw (← c.scores_of-scores.ensures)
    (then c.put_labelled.ensures (then c.put_all.ensures (then c.put_score.ensures (then c.put_all-2.ensures c.put_score-2.ensures))))
