use native.Mathlib.Omega.{arith}
use Rattle.search.proofs.Growth.{storing_start, storing_on, storing_end}
use Rattle.search.proofs.store_row.Goals as goal

pub loop-j-init : goal.loop-j-init
loop-j-init c = storing_start _ _ _

pub loop-j-preserved : goal.loop-j-preserved
loop-j-preserved c = storing_on c.args.rows.now c.args.k c.args.set.now c.loop-j.rows c.loop-j.j c.loop-j.invariant (omega arith) (omega arith)

pub returns : goal.returns
returns c = storing_end c.args.rows.now c.args.k c.args.set.now c.loop-j.rows c.loop-j.j c.loop-j.invariant (omega arith)
