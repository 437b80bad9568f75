use native.Mathlib.Omega.{arith}
use Rattle.sets.proofs.Ascending.{ones_step}
use Rattle.search.proofs.Growth.{adding_on, adding_end}
use Rattle.search.proofs.join_all.Goals as goal

pub overflow_add-base : goal.overflow_add-base
overflow_add-base c = let s = ones_step _ _ _ c.in-Some.ensures.steps in omega (arith, s.below)

pub join_row-requires : goal.join_row-requires
join_row-requires c = let s = ones_step _ _ _ c.in-Some.ensures.steps in omega (arith, s.below)

pub loop-k-preserved : goal.loop-k-preserved
loop-k-preserved c = (
  (tt, tt),
  adding_on c.args.table.now c.args.word c.args.base c.args.set.now c.loop-k.k-iterator.word c.loop-k.set c.loop-k.invariant.1 c.in-Some.ensures.steps c.join_row.ensures,
)

pub returns : goal.returns
returns c =
    adding_end c.args.table.now c.args.word c.args.base c.args.set.now c.loop-k.k-iterator.word c.loop-k.set c.loop-k.invariant.1 c.in-None.ensures.steps.0
