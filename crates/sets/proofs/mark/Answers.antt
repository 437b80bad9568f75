-- `sets::mark` meets its contract: where the word is there the store is that of `with_bit`, and past the last word a store is none.
use mathlib.Core.Path.{sym}
use Prim.Native.Nat.{◌/◌}
use native.Mathlib.Omega.{arith}
use lib.Seq.{set_out}
use Rattle.sets.specs.Bits.{with_bit}
use Rattle.sets.proofs.Bits.{stored_with}
use Rattle.sets.proofs.mark.Goals as goal

pub returns-then-i-words : goal.returns-then-i-words
returns-then-i-words c = stored_with c.args.words.now c.args.i

pub returns-else-i-words : goal.returns-else-i-words
unfolding with_bit
returns-else-i-words c = sym (set_out c.args.words.now (c.args.i / 64) _ (omega arith))
