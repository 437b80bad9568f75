-- `tallies::reach_inside` meets its contract. A near test tells no more than the limit, so that there is room for one more.
use native.Mathlib.Omega.{arith}
use mathlib.Core.Path.{sym, ◌∙◌}
use Rattle.near.proofs.Edges.{ends_most}
use Rattle.tallies.proofs.reach_inside.Goals as goal

pub overflow_add-result : goal.overflow_add-result
overflow_add-result c = omega (arith, c.requires, ends_most c.args.handsets.now c.args.u c.args.v c.args.limit c.in-Some.d (sym c.test_ends.ensures ∙ c.in-Some.is))
