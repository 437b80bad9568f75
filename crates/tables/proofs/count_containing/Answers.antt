use mathlib.Core.Path.{sym, ap, ◌∙◌}
use native.Mathlib.Omega.{arith}
use Rattle.sets.specs.Below.{bit}
use Rattle.rows.proofs.Rows.{times_none, times_more}
use Rattle.tables.proofs.count_containing.Goals.{then-in_row, else-in_row}
use Rattle.tables.proofs.count_containing.Goals as goal

pub loop-k-init : goal.loop-k-init
loop-k-init c = (omega arith, sym (times_none c.args.groups.rows.now c.args.v))

pub loop-k-preserved : goal.loop-k-preserved
loop-k-preserved c =
    let more = times_more c.args.groups.rows.now c.loop-k.k c.args.v in
    elim c.if-in_row.branch [
      | then-in_row w ↦ (omega arith, omega (arith, more, ap bit (sym c.in_row.ensures ∙ w.if-in_row.true)))
      | else-in_row w ↦ (omega arith, omega (arith, more, ap bit (sym c.in_row.ensures ∙ w.if-in_row.false)))
    ]
