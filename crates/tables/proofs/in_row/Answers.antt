-- `tables::in_row` meets its contract: below 512 a row contains what its bits say, and from 512 on nothing.
use native.Mathlib.Omega.{arith}
use mathlib.Core.Path.{sym, ◌∙◌}
use Rattle.std.proofs.lemmas.Bool.Decides.{nat_tests}
use Rattle.rows.proofs.Rows.{contains_row, contains_past}
use Rattle.tables.proofs.in_row.Goals as goal

pub returns-then-v-lt512 : goal.returns-then-v-lt512
returns-then-v-lt512 c = c.has.ensures ∙ sym (contains_row c.args.rows.now c.args.k c.args.v c.if-v-lt512.true)

pub returns-else-v-lt512 : goal.returns-else-v-lt512
returns-else-v-lt512 c = grind (arith, nat_tests, contains_past c.args.rows.now c.args.k c.args.v c.if-v-lt512.false)
