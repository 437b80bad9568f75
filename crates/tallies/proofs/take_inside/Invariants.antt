-- `tallies::take_inside` meets its contract. After k turns the edges inside the first k groups are taken out.
use Rattle.tallies.specs.ForProofs.{InsideTaken}
use Rattle.tallies.proofs.take_inside.Given as goal

abbrev pub invariant-loop-k : goal.invariant-loop-k
invariant-loop-k l = InsideTaken l.k l.initial.tallies l.tallies
