-- `report_run::read_full` meets its contract: what is filled is never more than the buffer holds.
use Rattle.std.proofs.Common.{◌≤◌, length}
use Rattle.report_run.proofs.read_full.Given as goal

abbrev pub invariant-loop : goal.invariant-loop
invariant-loop g l = l.filled ≤ length l.buffer
