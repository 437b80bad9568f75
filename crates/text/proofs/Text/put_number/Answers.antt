-- `text::Text::put_number` meets its contract: the space, then the digits.
use Rattle.text.proofs.Writing.{then}
use Rattle.text.proofs.Text.put_number.Goals as goal

pub returns : goal.returns
returns c = then c.put.ensures c.put_decimal.ensures
