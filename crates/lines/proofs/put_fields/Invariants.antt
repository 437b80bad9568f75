-- `lines::put_fields` meets its contract: what writes the rest of the line after the fields passed has written the line.
use lib.ListN.{drop}
use Rattle.text.specs.Text.{Writes}
use Rattle.text.specs.declared.Text.{Text}
use Rattle.lines.specs.ForProofs.{fields_line}
use Rattle.lines.proofs.put_fields.Given as goal

abbrev pub invariant-loop-label : goal.invariant-loop-label
invariant-loop-label l = (after : Text) → Writes l.text (fields_line (drop l.label-index l.fields)) after → Writes l.fn.text (fields_line l.fields) after
