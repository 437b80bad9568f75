use Prim.Native.Nat.{◌*◌}
use mathlib.Core.Bool.{◌&&◌, not}
use lib.Dec.{ltb}
use Rattle.sets.specs.Rows.{Counted}
use Rattle.graph.specs.Graph.{EdgeSet}
use Rattle.graph.specs.ForProofs.{passes_near, Dropped}
use Rattle.graph.proofs.Records.drop_far.Given as goal

abbrev pub invariant-loop-j : goal.invariant-loop-j
invariant-loop-j l = EdgeSet l.near (λ k. ltb k (64 * l.j) && (ltb k l.self.h.m && passes_near l.self.handsets.now l.self.edges.now l.self.h.limit k))
    × Dropped l.self.edges.now (λ k. ltb k (64 * l.j) && (ltb k l.self.h.m && not (passes_near l.self.handsets.now l.self.edges.now l.self.h.limit k))) l.initial.table l.table
    × Counted l.table l.sizes
