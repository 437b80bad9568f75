use Prim.Native.Nat.{ℕ, ◌*◌, ◌<◌, ◌^◌}
use native.Mathlib.Omega.{arith}
use mathlib.Core.Path.{refl, ◌∙◌}
use mathlib.Core.Bool.{Bool, not}
use lib.Dec.{eqb, eqb→eq}
use lib.ListN.{get_or}
use Rattle.sets.specs.Below.{sum}
use Rattle.sets.specs.Bits.{bit_at}
use Rattle.sets.proofs.Bits.{bit_at_lt}
use Rattle.limits.specs.Limits.{edges_most}
use Rattle.graph.specs.ForProofs.{enough_at}
use Rattle.graph.proofs.Words.{partly_start, partly_word, partly_on, partly_end}
use Rattle.graph.proofs.Counts.{bits_most, partly_sum, sum_set}
use Rattle.graph.proofs.Edges.{word_passes}
use Rattle.graph.proofs.Records.keep_dissimilar.Goals as goal

pub loop-j-init : goal.loop-j-init
unfolding sum
loop-j-init c = (partly_start _ _ (omega arith), refl)

pub dissimilar_word-requires : goal.dissimilar_word-requires
dissimilar_word-requires c = (
  c.requires.0,
  λ k t.
      c.requires.1 k (eqb→eq (bit_at c.args.set.now k) 1
      (word_passes _ c.loop-j.j (λ k. eqb (bit_at c.args.set.now k) 1) (omega arith) (partly_word _ _ c.loop-j.j (omega arith) c.loop-j.invariant.0) k t).2),
  omega (arith, c.loop-j.invariant.1, bits_most (c.loop-j.j * 64) (bit_at c.args.set.now) (λ k. bit_at_lt c.args.set.now k)),
)

pub loop-j-preserved : goal.loop-j-preserved
loop-j-preserved c =
    let f : ℕ → Bool = λ k. not (enough_at c.args.table.now c.args.sizes.now c.args.self.now.h.p c.args.self.now.h.q c.args.self.now.edges.now k) in
    let low : c.loop-j.j < 64 = omega arith in
    let fits : get_or c.loop-j.set c.loop-j.j 0 < 2 ^ 64 = omega arith in (
      partly_on c.args.set.now f c.loop-j.j c.dissimilar_word.result low c.loop-j.invariant.0 c.dissimilar_word.ensures.sifted,
      omega (arith, c.loop-j.invariant.1, c.dissimilar_word.ensures.counted, partly_sum c.args.set.now f c.loop-j.j low fits c.loop-j.invariant.0),
    )

pub returns : goal.returns
returns c = record {
  kept =
      partly_end c.args.set.now (λ k. not (enough_at c.args.table.now c.args.sizes.now c.args.self.now.h.p c.args.self.now.h.q c.args.self.now.edges.now k)) c.args.self.now.h.m c.loop-j.j
      (omega arith) c.requires.1 c.loop-j.invariant.0;
  counted = c.loop-j.invariant.1 ∙ sum_set c.args.set.now c.args.self.now.h.m (c.loop-j.j * 64) edges_most (omega arith) (omega arith) c.requires.1;
}
