use native.Mathlib.Omega.{arith}
use mathlib.Core.Path.{ap, ◌∙◌}
use mathlib.Core.Bool.{Bool, not}
use lib.ListN.{length}
use Rattle.sets.specs.Below.{bit}
use Rattle.sets.proofs.Ascending.{ones_step}
use Rattle.graph.proofs.Words.{bit_from, filtering_start, filtering_bit, filtering_on, filtering_end}
use Rattle.graph.proofs.Counts.{ones_length}
use Rattle.graph.proofs.Edges.{word_in_at}
use Rattle.graph.proofs.Records.dissimilar_word.Goals as goal

pub loop-k-init : goal.loop-k-init
loop-k-init c = ((tt, tt), filtering_start _ _ (cc), (cc))

pub overflow_add-base : goal.overflow_add-base
overflow_add-base c =
    let s = ones_step _ _ _ c.in-Some.ensures.steps in
    omega (arith, c.requires.1 _ (word_in_at _ _ _ (filtering_bit _ _ s c.loop-k.invariant.1)), c.args.self.now.few_edges)

pub is_similar-similar-requires : goal.is_similar-similar-requires
is_similar-similar-requires c =
    let s = ones_step _ _ _ c.in-Some.ensures.steps in
    (c.requires.1 _ (word_in_at _ _ _ (filtering_bit _ _ s c.loop-k.invariant.1)), c.requires.0)

pub overflow_shl-dissimilar : goal.overflow_shl-dissimilar
overflow_shl-dissimilar c = let s = ones_step _ _ _ c.in-Some.ensures.steps in s.below

pub overflow_add-tests : goal.overflow_add-tests
overflow_add-tests c = omega (arith, c.loop-k.invariant.2, c.requires.2, (ones_length c.args.word).1)

pub loop-k-preserved : goal.loop-k-preserved
loop-k-preserved c =
    let s = ones_step _ _ _ c.in-Some.ensures.steps in (
      (tt, tt),
      filtering_on _ _ _ s (c.from.ensures ∙ bit_from _ ∙ ap (λ (b : Bool). bit (not b)) c.is_similar-similar.ensures) c.loop-k.invariant.1,
      omega (arith, c.loop-k.invariant.2, ap length c.in-Some.ensures.steps),
    )

pub returns : goal.returns
returns c = record {
  sifted = filtering_end _ _ c.in-None.ensures.steps.0 c.loop-k.invariant.1;
  counted = omega (arith, c.loop-k.invariant.2, ap length c.in-None.ensures.steps.0);
}
