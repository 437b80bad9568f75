use native.Mathlib.Omega.{arith}
use lib.Dec.{eqb, eqb→eq}
use Rattle.sets.specs.Bits.{bit_at}
use Rattle.graph.proofs.Words.{own_set, set_word}
use Rattle.graph.proofs.Edges.{word_passes, dropped_word}
use Rattle.graph.proofs.Records.drop_set.Goals as goal

pub drop_edges-requires : goal.drop_edges-requires
drop_edges-requires c = (
  c.loop-j.invariant.1,
  λ k t.
      c.requires.1 k (eqb→eq (bit_at c.args.set.now k) 1
      (word_passes _ c.loop-j.j (λ k. eqb (bit_at c.args.set.now k) 1) (omega arith) (set_word _ c.loop-j.j (omega arith) (own_set c.args.set.now (omega arith))) k t).2),
)

pub loop-j-preserved : goal.loop-j-preserved
loop-j-preserved c = (
  dropped_word _ c.loop-j.j (λ k. eqb (bit_at c.args.set.now k) 1) (omega arith) (set_word _ c.loop-j.j (omega arith) (own_set c.args.set.now (omega arith)))
      c.loop-j.invariant.0 c.drop_edges.ensures.dropped,
  c.drop_edges.ensures.counted,
)
