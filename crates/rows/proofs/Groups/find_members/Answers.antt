use Rattle.rows.proofs.Rows.{found_none, found_more}
use Rattle.rows.proofs.Groups.find_members.Goals as goal

pub loop-k-init : goal.loop-k-init
loop-k-init c = found_none _

pub loop-k-preserved : goal.loop-k-preserved
loop-k-preserved c = found_more _ c.loop-k.k c.loop-k.once c.loop-k.twice _ _ c.loop-k.invariant c.add_row.ensures
