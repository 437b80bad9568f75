use Prim.Native.Nat.{◌*◌}
use mathlib.Core.Path.{◌≡◌}
use mathlib.Core.Bool.{not}
use Rattle.sets.specs.Below.{sum}
use Rattle.sets.specs.Bits.{bit_at}
use Rattle.graph.specs.Graph.{EdgeSet}
use Rattle.graph.specs.ForProofs.{enough_at}
use Rattle.graph.proofs.Words.{partly}
use Rattle.graph.proofs.Records.keep_dissimilar.Given as goal

abbrev pub invariant-loop-j : goal.invariant-loop-j
invariant-loop-j l = EdgeSet l.set (partly l.initial.set (λ k. not (enough_at l.table l.sizes l.self.h.p l.self.h.q l.self.edges.now k)) l.j) × (l.tests ≡ sum (l.j * 64) (bit_at l.initial.set))
