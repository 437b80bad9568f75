use native.Mathlib.Omega.{arith}
use Rattle.image.proofs.Rows.{cleared_counted}
use Rattle.image.proofs.Edges.{selves_none, selves_more, selves_new}
use Rattle.image.proofs.add_selves.Goals as goal

pub loop-u-init : goal.loop-u-init
loop-u-init c = (c.told-rows, c.told-sizes, selves_none c.requires.1, cleared_counted c.requires.1)

pub add-requires : goal.add-requires
add-requires c = (omega arith, omega arith, c.loop-u.invariant.3, selves_new c.loop-u.rows c.loop-u.u (omega arith) c.loop-u.invariant.2)

pub loop-u-preserved : goal.loop-u-preserved
loop-u-preserved c = (
  c.add.array_long,
  c.add.array_long2,
  rw c.add.ensures.added (selves_more c.loop-u.rows c.loop-u.u (omega arith) c.loop-u.invariant.0 c.loop-u.invariant.2),
  c.add.ensures.counted,
)
