use native.Mathlib.Omega.{arith}
use lib.ListN.{drop_of_length-le}
use Rattle.lines.proofs.Lines.{fields_more}
use Rattle.lines.proofs.put_fields.Goals as goal

pub loop-label-preserved : goal.loop-label-preserved
loop-label-preserved c =
    λ after rest. c.loop-label.invariant after (fields_more c.args.fields.now c.loop-label.label-index _ (omega arith) c.put_labelled.ensures rest)

pub returns : goal.returns
returns c = c.loop-label.invariant _ (rw (drop_of_length-le c.args.fields.now {i = c.loop-label.label-index} (omega arith)) c.put.ensures)
