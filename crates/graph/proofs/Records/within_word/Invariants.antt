use Prim.Native.Nat.{◌+◌}
use Rattle.graph.specs.ForProofs.{both_within}
use Rattle.graph.proofs.Words.{Filtering}
use Rattle.graph.proofs.Records.within_word.Given as goal

abbrev pub invariant-loop-k : goal.invariant-loop-k
invariant-loop-k l = ((goal.iterator-loop-k).can_next l.k-iterator × (goal.iterator-loop-k).is_finite l.k-iterator)
    × Filtering l.word (λ k. both_within l.within l.self.edges.now (l.base + k)) l.k-iterator.word l.inside
