-- `lines::put_group` meets its contract: the number and the scores, the reach, and the members after a colon.
use Rattle.text.proofs.Writing.{then}
use Rattle.lines.specs.Lines.{group_line, list_line}
use Rattle.lines.proofs.put_group.Goals as goal

pub returns : goal.returns
unfolding group_line list_line
returns c = then c.put_scores.ensures (then c.put_all.ensures (then c.put_reach.ensures c.put_set.ensures))
