-- `lines::put_score` meets its contract: the two cases of a score.
use Rattle.text.proofs.Writing.{then}
use Rattle.lines.specs.Lines.{score_text}
use Rattle.lines.proofs.put_score.Goals as goal

pub returns-in-Some : goal.returns-in-Some
unfolding score_text
returns-in-Some c = rw c.in-Some.is (then c.put_decimal.ensures c.put_labelled.ensures)

pub returns-in-None : goal.returns-in-None
unfolding score_text
returns-in-None c = rw c.in-None.is c.put.ensures
