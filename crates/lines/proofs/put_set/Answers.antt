-- `lines::put_set` meets its contract: the word, the members, byte 10.
use Rattle.text.proofs.Writing.{then}
use Rattle.lines.specs.Lines.{list_line}
use Rattle.lines.proofs.put_set.Goals as goal

pub returns : goal.returns
unfolding list_line
returns c = then c.put_all.ensures (then c.put_members.ensures c.end_line.ensures)
