-- `reporting::report_groups` meets its contract: the tables that its calls make are those of the image, and the text from them is the report's.
use Rattle.reporting.proofs.Whole.{rows_counted, text_held}
use Rattle.reporting.proofs.Answers.{filled_same}
use Rattle.reporting.proofs.report_groups.Goals as goal

pub write_text-requires : goal.write_text-requires
write_text-requires c = rows_counted c.args.groups.rows.now c.args.groups.count c.counts.result c.counts.ensures

pub returns : goal.returns
returns c =
    filled_same
    (text_held c.requires c.counts.result c.count_roles-totals.result _ _ _ c.counts.ensures (rw c.from-m.ensures at c.count_groups.ensures.counted)
    (rw (c.from-n.ensures, c.from-m.ensures) at c.count_groups.ensures.raised) (rw c.from-n.ensures at c.count_roles-totals.ensures))
    c.write_text.ensures
