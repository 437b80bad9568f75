-- `lines::put_reach` meets its contract: the two cases of a reach.
use Rattle.lines.specs.Lines.{reach_text}
use Rattle.lines.proofs.put_reach.Goals as goal

pub returns-in-Some : goal.returns-in-Some
unfolding reach_text
returns-in-Some c = rw c.in-Some.is c.put_decimal.ensures

pub returns-in-None : goal.returns-in-None
unfolding reach_text
returns-in-None c = rw c.in-None.is c.put_all.ensures
