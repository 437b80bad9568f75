use Rattle.std.proofs.Common.{arith}
use Rattle.tallies.proofs.Degrees.{taken_more}
use Rattle.tallies.proofs.take_inside.Goals as goal

pub loop-k-preserved : goal.loop-k-preserved
loop-k-preserved c = taken_more c.loop-k.k c.args.tallies.now c.loop-k.tallies c.requires.fits.size (omega arith) c.loop-k.invariant
