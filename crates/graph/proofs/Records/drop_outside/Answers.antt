use Prim.Native.Nat.{ℕ, ◌<◌, ◌^◌}
use native.Mathlib.Omega.{arith}
use mathlib.Core.Bool.{Bool, ◌&&◌, not}
use lib.Bits.{xor_lt}
use lib.Dec.{eqb, eqb→eq}
use lib.ListN.{get_or}
use Rattle.sets.specs.Bits.{bit_at}
use Rattle.sets.proofs.Tests.{and_left}
use Rattle.graph.specs.ForProofs.{both_within}
use Rattle.graph.proofs.Words.{partly_start, partly_word, partly_other, partly_on, partly_end}
use Rattle.graph.proofs.Edges.{word_passes, dropped_start, dropped_word}
use Rattle.graph.proofs.Records.drop_outside.Goals as goal

pub loop-j-init : goal.loop-j-init
loop-j-init c = (partly_start _ _ (omega arith), dropped_start _ _ _, c.requires.0)

pub within_word-inside-requires : goal.within_word-inside-requires
within_word-inside-requires c =
    λ k t.
    c.requires.1 k (eqb→eq (bit_at c.args.near.now k) 1
    (word_passes _ c.loop-j.j (λ k. eqb (bit_at c.args.near.now k) 1) (omega arith) (partly_word _ _ c.loop-j.j (omega arith) c.loop-j.invariant.0) k t).2)

pub drop_edges-requires : goal.drop_edges-requires
drop_edges-requires c =
    let f : ℕ → Bool = both_within c.args.within.now c.args.self.now.edges.now in
    let fits : get_or c.loop-j.near c.loop-j.j 0 < 2 ^ 64 = omega arith in (
      c.loop-j.invariant.2,
      λ k t.
          let p = word_passes _ c.loop-j.j (λ k. eqb (bit_at c.args.near.now k) 1 && not (f k)) (xor_lt 64 c.within_word-inside.result _ (omega arith) fits)
          (partly_other c.args.near.now f c.loop-j.j (omega arith) c.loop-j.invariant.0 c.within_word-inside.ensures) k t in
          c.requires.1 k (eqb→eq (bit_at c.args.near.now k) 1 (and_left (eqb (bit_at c.args.near.now k) 1) (not (f k)) p.2)),
    )

pub loop-j-preserved : goal.loop-j-preserved
loop-j-preserved c =
    let f : ℕ → Bool = both_within c.args.within.now c.args.self.now.edges.now in
    let low : c.loop-j.j < 64 = omega arith in
    let fits : get_or c.loop-j.near c.loop-j.j 0 < 2 ^ 64 = omega arith in (
      partly_on c.args.near.now f c.loop-j.j c.within_word-inside.result low c.loop-j.invariant.0 c.within_word-inside.ensures,
      dropped_word _ c.loop-j.j (λ k. eqb (bit_at c.args.near.now k) 1 && not (f k)) (xor_lt 64 c.within_word-inside.result _ (omega arith) fits)
          (partly_other c.args.near.now f c.loop-j.j low c.loop-j.invariant.0 c.within_word-inside.ensures) c.loop-j.invariant.1 c.drop_edges.ensures.dropped,
      c.drop_edges.ensures.counted,
    )

pub returns-clause-kept : goal.returns-clause-kept
returns-clause-kept c = partly_end c.args.near.now (both_within c.args.within.now c.args.self.now.edges.now) c.args.self.now.h.m c.loop-j.j (omega arith) c.requires.1 c.loop-j.invariant.0
