use Prim.Native.Nat.{◌*◌}
use mathlib.Core.Bool.{◌&&◌}
use lib.Dec.{ltb, eqb}
use Rattle.sets.specs.Bits.{bit_at}
use Rattle.sets.specs.Rows.{Counted}
use Rattle.graph.specs.ForProofs.{Dropped}
use Rattle.graph.proofs.Records.drop_set.Given as goal

abbrev pub invariant-loop-j : goal.invariant-loop-j
invariant-loop-j l = Dropped l.self.edges.now (λ k. ltb k (64 * l.j) && eqb (bit_at l.set k) 1) l.initial.table l.table × Counted l.table l.sizes
