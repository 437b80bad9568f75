-- `lines::put_labelled` meets its contract: the label, then the digits.
use Rattle.text.proofs.Writing.{then}
use Rattle.lines.proofs.put_labelled.Goals as goal

pub returns : goal.returns
returns c = then c.put_all.ensures c.put_decimal.ensures
