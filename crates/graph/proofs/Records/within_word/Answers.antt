use native.Mathlib.Omega.{arith}
use mathlib.Core.Path.{ap, ◌∙◌}
use Rattle.sets.specs.Below.{bit}
use Rattle.sets.proofs.Ascending.{ones_step}
use Rattle.graph.proofs.Words.{bit_from, filtering_start, filtering_bit, filtering_on, filtering_end}
use Rattle.graph.proofs.Edges.{word_in_at}
use Rattle.graph.proofs.Records.within_word.Goals as goal

pub loop-k-init : goal.loop-k-init
loop-k-init c = ((tt, tt), filtering_start _ _ (cc))

pub overflow_add-base : goal.overflow_add-base
overflow_add-base c =
    let s = ones_step _ _ _ c.in-Some.ensures.steps in
    omega (arith, c.requires _ (word_in_at _ _ _ (filtering_bit _ _ s c.loop-k.invariant.1)), c.args.self.now.few_edges)

pub is_within-requires : goal.is_within-requires
is_within-requires c = let s = ones_step _ _ _ c.in-Some.ensures.steps in c.requires _ (word_in_at _ _ _ (filtering_bit _ _ s c.loop-k.invariant.1))

pub overflow_shl-inside : goal.overflow_shl-inside
overflow_shl-inside c = let s = ones_step _ _ _ c.in-Some.ensures.steps in s.below

pub loop-k-preserved : goal.loop-k-preserved
loop-k-preserved c =
    let s = ones_step _ _ _ c.in-Some.ensures.steps in
    ((tt, tt), filtering_on _ _ _ s (c.from.ensures ∙ bit_from _ ∙ ap bit c.is_within.ensures) c.loop-k.invariant.1)

pub returns : goal.returns
returns c = filtering_end _ _ c.in-None.ensures.steps.0 c.loop-k.invariant.1
