use Rattle.sets.specs.Rows.{Counted}
use Rattle.graph.specs.ForProofs.{SelfTaken}
use Rattle.graph.proofs.take_outside.Given as goal

abbrev pub invariant-loop-v : goal.invariant-loop-v
invariant-loop-v l = SelfTaken l.within l.v l.initial.table l.table × Counted l.table l.sizes
