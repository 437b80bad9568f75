use Rattle.search.proofs.Growth.{joining_end}
use Rattle.search.proofs.join_row.Goals as goal

pub returns : goal.returns
returns c = joining_end c.args.table.now c.args.u c.args.set.now c.loop-j.set c.loop-j.j c.loop-j.invariant c.loop-j-test.false
