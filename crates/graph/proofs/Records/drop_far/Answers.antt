use Prim.Native.Nat.{ℕ, ◌*◌, ◌<◌}
use native.Mathlib.Omega.{arith}
use mathlib.Core.Bool.{Bool, ◌&&◌, not}
use lib.Dec.{ltb, ltb→lt}
use Rattle.sets.proofs.Tests.{and_left}
use Rattle.graph.specs.ForProofs.{passes_near}
use Rattle.graph.proofs.Words.{passing, failing, failing_lt, filled_none, filled_more}
use Rattle.graph.proofs.Edges.{word_passes, dropped_start, dropped_word}
use Rattle.graph.proofs.Records.drop_far.Goals as goal

pub loop-j-init : goal.loop-j-init
loop-j-init c = (rw c.requires.0 (filled_none _), dropped_start _ _ _, c.requires.1)

pub drop_edges-requires : goal.drop_edges-requires
drop_edges-requires c =
    let m : ℕ = c.args.self.now.h.m in
    let b : ℕ = 64 * c.loop-j.j in
    let f : ℕ → Bool = passes_near c.args.self.now.handsets.now c.args.self.now.edges.now c.args.self.now.h.limit in (
      c.loop-j.invariant.2,
      λ k t.
          let p = word_passes _ c.loop-j.j (λ k. ltb k m && not (f k)) (failing_lt b m _ _ f c.min-count.ensures c.near_word-word.ensures (omega arith))
          (failing b m _ _ f c.min-count.ensures c.near_word-word.ensures) k t in
          ltb→lt k m (and_left (ltb k m) (not (f k)) p.2),
    )

pub loop-j-preserved : goal.loop-j-preserved
loop-j-preserved c =
    let m : ℕ = c.args.self.now.h.m in
    let b : ℕ = 64 * c.loop-j.j in
    let low : c.loop-j.j < 64 = omega arith in
    let f : ℕ → Bool = passes_near c.args.self.now.handsets.now c.args.self.now.edges.now c.args.self.now.h.limit in (
      filled_more c.loop-j.near c.near_word-word.result (λ k. ltb k m && f k) c.loop-j.j low (passing b m _ _ f c.min-count.ensures c.near_word-word.ensures) c.loop-j.invariant.0,
      dropped_word _ c.loop-j.j (λ k. ltb k m && not (f k)) (failing_lt b m _ _ f c.min-count.ensures c.near_word-word.ensures (omega arith))
          (failing b m _ _ f c.min-count.ensures c.near_word-word.ensures) c.loop-j.invariant.1 c.drop_edges.ensures.dropped,
      c.drop_edges.ensures.counted,
    )
