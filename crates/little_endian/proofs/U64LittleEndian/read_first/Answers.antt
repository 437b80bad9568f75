-- A u64 is the number in eight bytes, or 0 where fewer stand.
use Rattle.std.proofs.Common.{arith}
use Rattle.std.proofs.lemmas.Grind.{common_steps}
use Rattle.little_endian.specs.Bytes.{number}
use Rattle.little_endian.proofs.U64LittleEndian.read_first.Goals as goal

pub returns : goal.returns
unfolding number
returns c = grind (arith, common_steps)
