-- `search::join_all` meets its contract. The rows of the bits passed are added to the set, and nothing else.
use Rattle.search.proofs.Growth.{Adding}
use Rattle.search.proofs.join_all.Given as goal

abbrev pub invariant-loop-k : goal.invariant-loop-k
invariant-loop-k l =
    ((goal.iterator-loop-k).can_next l.k-iterator × (goal.iterator-loop-k).is_finite l.k-iterator)
    × Adding l.table l.word l.base l.initial.set l.k-iterator.word l.set
