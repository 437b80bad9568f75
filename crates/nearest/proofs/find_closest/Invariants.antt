-- `nearest::find_closest` meets its contract. After j turns the handsets of the first j words have been measured.
use Rattle.nearest.specs.ForProofs.{wrapped, Closest}
use Rattle.nearest.proofs.Taking.{passed}
use Rattle.nearest.proofs.find_closest.Given as goal

abbrev pub invariant-loop-j : goal.invariant-loop-j
invariant-loop-j l = Closest (wrapped l.point l.handsets) (passed (wrapped l.point l.handsets) l.set l.j) l.least l.closest
