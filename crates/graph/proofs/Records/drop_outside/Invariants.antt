use Prim.Native.Nat.{◌*◌}
use mathlib.Core.Bool.{◌&&◌, not}
use lib.Dec.{ltb, eqb}
use Rattle.sets.specs.Bits.{bit_at}
use Rattle.sets.specs.Rows.{Counted}
use Rattle.graph.specs.Graph.{EdgeSet}
use Rattle.graph.specs.ForProofs.{both_within, Dropped}
use Rattle.graph.proofs.Words.{partly}
use Rattle.graph.proofs.Records.drop_outside.Given as goal

abbrev pub invariant-loop-j : goal.invariant-loop-j
invariant-loop-j l = EdgeSet l.near (partly l.initial.near (both_within l.within l.self.edges.now) l.j)
    × Dropped l.self.edges.now (λ k. ltb k (64 * l.j) && (eqb (bit_at l.initial.near k) 1 && not (both_within l.within l.self.edges.now k))) l.initial.table l.table
    × Counted l.table l.sizes
