-- `graph::take_out` meets its contract: the word written is the one without the bit, and the row's size goes down by it.
use native.Mathlib.Omega.{arith}
use Prim.Native.Nat.{◌*◌, ◌+◌}
use Rattle.sets.specs.Bits.{bit_of, bit_at}
use Rattle.sets.proofs.Bits.{stored_without}
use Rattle.graph.proofs.Rows.{row_bit, counted_out}
use Rattle.graph.proofs.take_out.Goals as goal

pub overflow_sub-sizes : goal.overflow_sub-sizes
unfolding bit_at bit_of
overflow_sub-sizes c = row_bit c.args.table.now c.args.sizes.now c.args.u c.args.v c.requires.0 c.requires.1 (omega arith, omega arith) c.requires.2

pub returns : goal.returns
unfolding bit_at bit_of
returns c =
    record {
      taken = let e = stored_without c.args.table.now (c.args.u * 512 + c.args.v) in
          e;
      counted = let e = stored_without c.args.table.now (c.args.u * 512 + c.args.v) in
          rw e (counted_out c.args.table.now c.args.sizes.now c.args.u c.args.v c.requires.0 c.requires.1 (omega arith, omega arith) c.requires.2);
    }
