use Prim.Native.Nat.{◌+◌}
use mathlib.Core.Path.{◌≡◌}
use mathlib.Core.Bool.{not}
use lib.ListN.{length}
use Rattle.sets.specs.Bits.{ones_of}
use Rattle.graph.specs.ForProofs.{enough_at}
use Rattle.graph.proofs.Words.{Filtering}
use Rattle.graph.proofs.Records.dissimilar_word.Given as goal

abbrev pub invariant-loop-k : goal.invariant-loop-k
invariant-loop-k l = ((goal.iterator-loop-k).can_next l.k-iterator × (goal.iterator-loop-k).is_finite l.k-iterator)
    × Filtering l.word (λ k. not (enough_at l.table l.sizes l.self.h.p l.self.h.q l.self.edges.now (l.base + k))) l.k-iterator.word l.dissimilar
    × (l.tests + length (ones_of l.k-iterator.word) ≡ l.initial.tests + length (ones_of l.word))
