use native.Mathlib.Omega.{arith}
use Rattle.std.proofs.lemmas.Grind.{common_steps}
use Rattle.image.proofs.Scanning.{scan_none, scan_more, first_found, first_ended}
use Rattle.scores.specs.Scored.{bad_entry}
use Rattle.scores.proofs.first_bad_entry.Goals as goal

pub loop-i-init : goal.loop-i-init
loop-i-init c = scan_none _

pub returns-then-from-n : goal.returns-then-from-n
unfolding bad_entry
returns-then-from-n c = first_found _ _ c.loop-i.i (omega arith) c.loop-i.invariant (grind (arith, common_steps))

pub loop-i-preserved : goal.loop-i-preserved
unfolding bad_entry
loop-i-preserved c = scan_more _ c.loop-i.i c.loop-i.invariant (grind (arith, common_steps))

pub returns : goal.returns
returns c = first_ended _ _ _ (omega arith) c.loop-i.invariant
