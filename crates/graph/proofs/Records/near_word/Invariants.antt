use Prim.Native.Nat.{ℕ, ◌+◌, ◌-◌, ◌^◌, ◌<◌}
use mathlib.Core.Path.{◌≡◌}
use mathlib.Core.Bool.{◌&&◌}
use lib.Dec.{ltb}
use Rattle.sets.specs.Below.{bit}
use Rattle.sets.specs.Bits.{bit_of}
use Rattle.graph.specs.ForProofs.{passes_near}
use Rattle.graph.proofs.Records.near_word.Given as goal

abbrev pub invariant-loop-k : goal.invariant-loop-k
invariant-loop-k l = (l.word < 2 ^ (l.count - l.k)) × ((i : ℕ) → bit_of l.word i ≡ bit (ltb (l.k + i) l.count && passes_near l.self.handsets.now l.self.edges.now l.self.h.limit (l.base + (l.k + i))))
