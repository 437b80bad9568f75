-- `sets::unmark` meets its contract: where the word is there the store is that of `without_bit`, and past the last word a store is none.
use Rattle.std.proofs.Common.{sym, arith, ◌/◌}
use lib.Seq.{set_out}
use Rattle.sets.specs.Bits.{without_bit}
use Rattle.sets.proofs.Bits.{stored_masked}
use Rattle.sets.proofs.unmark.Goals as goal

pub returns-then-i-words : goal.returns-then-i-words
returns-then-i-words c = stored_masked c.args.words.now c.args.i (omega arith)

pub returns-else-i-words : goal.returns-else-i-words
unfolding without_bit
returns-else-i-words c = sym (set_out c.args.words.now (c.args.i / 64) _ (omega arith))
