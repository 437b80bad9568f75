-- `sets::has` meets its contract: a bit past the last word is 0.
use Rattle.std.proofs.Common.{arith}
use Rattle.std.proofs.lemmas.Grind.{common_steps}
use Rattle.std.proofs.lemmas.Nat.Bits.{shr_and_one}
use Rattle.sets.specs.Bits.{bit_at, bit_of}
use Rattle.sets.proofs.Bits.{bit_at_past}
use Rattle.sets.proofs.has.Goals as goal

pub returns : goal.returns
unfolding bit_at bit_of
returns c = grind (arith, common_steps, shr_and_one, bit_at_past)
