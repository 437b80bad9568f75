use Rattle.std.proofs.Common.{arith, rules}
use Rattle.sets.proofs.Entries.{counts_none, counts_more, counts_past, counts_room, counts_all, multiplicity_few}
use Rattle.sets.proofs.count_entries.Goals as goal

pub loop-v-init : goal.loop-v-init
loop-v-init c = ((tt, tt), search rules, counts_none _ _ _ (cc) (cc))

pub overflow_add-table : goal.overflow_add-table
overflow_add-table c =
    omega (arith, multiplicity_few 65535 c.args.list.now c.in-Some.v.now, counts_room _ _ _ _ _ _ _ c.loop-v.invariant.2 c.in-Some.ensures.steps.0 c.in-Some.ensures.steps.1 c.if-v-lt-HANDSETS.true)

pub loop-v-preserved-then-v-lt-HANDSETS : goal.loop-v-preserved-then-v-lt-HANDSETS
loop-v-preserved-then-v-lt-HANDSETS c =
    ((tt, tt), search rules, counts_more _ _ _ _ _ _ _ c.loop-v.invariant.2 c.in-Some.ensures.steps.0 c.in-Some.ensures.steps.1 c.loop-v.invariant.1 c.if-v-lt-HANDSETS.true)

pub loop-v-preserved : goal.loop-v-preserved
loop-v-preserved c =
    ((tt, tt), c.loop-v.invariant.1, counts_past _ _ _ _ _ _ _ c.loop-v.invariant.2 c.in-Some.ensures.steps.0 c.in-Some.ensures.steps.1 c.if-v-lt-HANDSETS.false)

pub returns : goal.returns
returns c = counts_all _ _ _ _ c.loop-v.invariant.2 c.loop-v.invariant.1 (λ h. (c.in-None.ensures.steps h).0)
