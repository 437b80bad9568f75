-- `reporting::program_text` meets its contract: an input that is too long, a text that is written, and a refusal.
use native.Mathlib.Omega.{arith}
use Prim.Native.Nat.{◌<◌}
use lib.ListN.{length}
use Rattle.reporting.proofs.Answers.{program_long, program_written, program_refused}
use Rattle.reporting.proofs.program_text.Goals as goal

pub returns-then-input-gt65536 : goal.returns-then-input-gt65536
returns-then-input-gt65536 c = rw (program_long c.args.input.now (length c.args.out.now) c.if-input-gt65536.true) (rw c.refused-refusal.ensures at c.put_refusal.ensures)

pub returns-in-Ok : goal.returns-in-Ok
returns-in-Ok c =
    let small : length c.args.out.now < 9223372036854775808 = omega (arith, c.well_formed.1.0.1) in
    program_written c.args.input.now c.args.out.now c.if-input-gt65536.false _ _ _ small c.in-Ok.is c.report-reported.ensures

pub returns-in-Err : goal.returns-in-Err
returns-in-Err c = program_refused c.args.input.now c.args.out.now c.if-input-gt65536.false _ _ _ _ _ c.in-Err.is c.report-reported.ensures c.put_refusal-in-Err.ensures
