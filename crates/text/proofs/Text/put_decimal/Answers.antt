-- `text::Text::put_decimal` meets its contract: its digits are those of `put_short`, or those that `itoa` writes.
use native.Mathlib.Omega.{arith}
use Rattle.text.proofs.Decimal.{decimal_is}
use Rattle.text.proofs.Text.put_decimal.Goals as goal

pub returns-else-n-lt1000 : goal.returns-else-n-lt1000
returns-else-n-lt1000 c = rw (decimal_is c.args.n (omega arith), ← c.format.ensures.text, ← c.as_bytes.ensures.value) c.put_all.ensures
