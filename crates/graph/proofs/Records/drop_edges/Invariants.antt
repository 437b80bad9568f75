use Rattle.sets.specs.Rows.{Counted}
use Rattle.graph.proofs.Edges.{Dropping}
use Rattle.graph.proofs.Records.drop_edges.Given as goal

abbrev pub invariant-loop-k : goal.invariant-loop-k
invariant-loop-k l = ((goal.iterator-loop-k).can_next l.k-iterator × (goal.iterator-loop-k).is_finite l.k-iterator)
    × Dropping l.self.edges.now l.word l.base l.initial.table l.k-iterator.word l.table × Counted l.table l.sizes
