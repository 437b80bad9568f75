use native.Mathlib.Omega.{arith}
use native.Mathlib.Numerals.{add-one}
use Rattle.little_endian.proofs.Writing.{table_none, table_more}
use Rattle.fields.specs.Fields.{end_bytes}
use Rattle.layout.proofs.put_ends.Goals as goal

pub loop-i-init : goal.loop-i-init
loop-i-init c = (c.requires, table_none end_bytes c.args.s.now c.args.from c.args.ends.now)

pub loop-i-preserved : goal.loop-i-preserved
loop-i-preserved c =
    rw (add-one c.loop-i.i)
    (c.loop-i.invariant.0, table_more end_bytes c.args.s.now c.args.from c.args.ends.now c.loop-i.i _ _ _ c.loop-i.invariant.0 (omega arith) c.from.ensures c.loop-i.invariant.1 c.write.ensures)
