use Rattle.std.proofs.Common.{ℕ, ◌≡◌, ◌+◌, arith, bit_and, get_or, ap, ap₂, ◌∙◌}
use Rattle.fields.specs.declared.Ends.{Ends}
use Rattle.near.specs.Near.{ends_proximity}
use Rattle.tallies.specs.Tallies.{reach_entry}
use Rattle.tallies.specs.ForProofs.{inside_word}
use Rattle.tallies.proofs.Tallying.{edges_none, edges_more, edges_room}
use Rattle.tallies.proofs.Reaching.{reaches_none, raised_inside, reaches_more}
use Rattle.tallies.proofs.count_edges.Goals as goal

pub loop-k-init : goal.loop-k-init
loop-k-init c = record {
  counted = edges_none c.args.words.now c.args.edges.now c.args.base c.args.tallies.now;
  raised = reaches_none c.args.words.now c.args.handsets.now c.args.edges.now c.args.limit c.args.base c.args.reaches.now;
}

pub add_inside-requires-clause-room : goal.add_inside-requires-clause-room
add_inside-requires-clause-room c = λ i h.
    omega (arith, edges_room c.args.words.now c.args.edges.now c.loop-k.k c.args.base c.args.tallies.now c.loop-k.tallies c.loop-k.invariant.counted (c.args.base + i), c.requires.zeros i h)

pub loop-k-preserved : goal.loop-k-preserved
loop-k-preserved c =
    let inside : bit_and c.word_of.result c.word_of-in-loop-k.result ≡ inside_word c.args.words.now c.args.edges.now c.loop-k.k =
    ap₂ bit_and (c.word_of.ensures ∙ ap (λ (e : Ends). get_or c.args.words.now e.a 0) c.ends_at-ends.ensures)
    (c.word_of-in-loop-k.ensures ∙ ap (λ (e : Ends). get_or c.args.words.now e.b 0) c.ends_at-ends.ensures) in
    let entry : Ends → ℕ = λ (e : Ends). reach_entry (ends_proximity c.args.handsets.now e.a e.b c.args.limit) in
    record {
      counted = edges_more c.args.words.now c.args.edges.now c.loop-k.k c.args.base c.args.tallies.now c.loop-k.tallies _ c.loop-k.invariant.counted inside c.add_inside.ensures.counted;
      raised =
          reaches_more c.args.words.now c.args.handsets.now c.args.edges.now c.loop-k.k c.args.limit c.args.base c.args.reaches.now c.loop-k.reaches _ c.loop-k.invariant.raised inside
          (ap entry c.ends_at-ends.ensures)
          (raised_inside c.args.base _ _ (entry c.ends_at-ends.result) c.reach_inside-reach.ensures c.add_inside.ensures.raised);
    }
