-- `lines::put_report` meets its contract: line one, the groups, the cores, the outliers, the totals. After k steps of the loop the lines of the first k
-- groups are written.
use Rattle.text.specs.Text.{Writes}
use Rattle.lines.specs.Lines.{table_lines}
use Rattle.lines.proofs.put_report.Given as goal

abbrev pub invariant-loop-k : goal.invariant-loop-k
invariant-loop-k l = Writes l.initial.text (table_lines l.rows l.tallies l.reaches l.k) l.text
