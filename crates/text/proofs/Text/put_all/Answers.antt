use native.Mathlib.Omega.{arith}
use mathlib.Core.Path.{refl, ap, ◌∙◌}
use lib.ListN.{take}
use Rattle.std.proofs.lemmas.List.{take_all}
use lib.Seq.{sets}
use Rattle.text.proofs.Writing.{copied_part, byte_more}
use Rattle.text.proofs.Text.put_all.Goals as goal

pub loop-i-preserved : goal.loop-i-preserved
loop-i-preserved c = byte_more _ _ _ c.loop-i.i (omega arith) c.loop-i.invariant

pub returns : goal.returns
returns c = record {
  same_reference = refl;
  short = omega arith;
  wrote = record {
    list = copied_part c.args.self.now.buffer.now c.args.bytes.now c.args.self.now.position c.min-start.result c.min-count.result c.loop-i.room (omega arith) (omega arith)
        (c.loop-i.invariant ∙ ap (sets _ 0) (take_all c.loop-i.i (take c.min-count.result c.args.bytes.now) (omega arith)));
    next = omega arith;
  };
}
