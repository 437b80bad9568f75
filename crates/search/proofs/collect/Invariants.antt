-- `search::collect` meets its contract. The set has the row of each number taken out of left, and nothing else, so when no number of the set is left the
-- set is closed. The measure is how many numbers are left.
use Rattle.sets.specs.Below.{sum}
use Rattle.sets.specs.Bits.{bit_at}
use Rattle.search.proofs.Growth.{Growing}
use Rattle.search.proofs.collect.Given as goal

abbrev pub invariant-loop-w : goal.invariant-loop-w
invariant-loop-w l = Growing l.table l.initial.left l.u l.set l.left

abbrev pub decreases-loop-w : goal.decreases-loop-w
decreases-loop-w l = sum 512 (bit_at l.left)
