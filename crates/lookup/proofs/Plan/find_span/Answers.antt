-- `lookup::Plan::find_span` meets its contract: each way through the tests is one case of question 14.
use native.Mathlib.Omega.{arith}
use Prim.Native.Nat.{◌+◌, ◌<◌}
use mathlib.Core.Path.{sym}
use lib.ListN.{length}
use Rattle.lookup.proofs.Agreement as cases
use Rattle.lookup.proofs.Plan.find_span.Goals as goal
use Rattle.lookup.proofs.Plan.find_span.Goals.{else-first-past-via-then-first-past+else-past-self, else-first-past-via-else-first-past}

pub returns-in_err-first-clause-found : goal.returns-in_err-first-clause-found
returns-in_err-first-clause-found c =
    let h = c.in_err-first.ensures.lookup in
    let e = cases.span_short c.args.self.starts.now (length c.args.self.members.now) c.args.k (omega (arith, h)) in
    cc

pub returns-in_err-past-clause-found : goal.returns-in_err-past-clause-found
returns-in_err-past-clause-found c =
    let h = c.in_err-past.ensures.lookup in
    let next = c.in_ok-checked_add.ensures in
    let e = cases.span_short c.args.self.starts.now (length c.args.self.members.now) c.args.k (omega (arith, h, next)) in
    cc

pub returns-then-past-self-clause-found : goal.returns-then-past-self-clause-found
returns-then-past-self-clause-found c =
    let starts = c.args.self.starts.now in
    let size = length c.args.self.members.now in
    let first = c.in_ok-first.ensures.lookup.3.1 0 in
    let past = c.in_ok-past.ensures.lookup.3 in
    let next = c.in_ok-checked_add.ensures.1 in
    let inside : c.args.k + 1 < length starts = omega (arith, next, past.0) in
    let end = rw next at (past.1 0) in
    let e = cases.span_yes starts size c.args.k (cases.placed_yes starts size c.args.k inside (omega (arith, first, end)) (omega (arith, first, end))) in
    cc

pub returns-else-first-past-clause-found : goal.returns-else-first-past-clause-found
returns-else-first-past-clause-found c =
    let starts = c.args.self.starts.now in
    let size = length c.args.self.members.now in
    let first = c.in_ok-first.ensures.lookup.3.1 0 in
    let past = c.in_ok-past.ensures.lookup.3 in
    let next = c.in_ok-checked_add.ensures.1 in
    let inside : c.args.k + 1 < length starts = omega (arith, next, past.0) in
    let end = rw next at (past.1 0) in
    elim c.else-first-past.branch [
      | else-first-past-via-then-first-past+else-past-self w ↦ sym (cases.span_beyond starts size c.args.k inside (omega (arith, first, end)) (omega (arith, first, end)))
      | else-first-past-via-else-first-past w ↦ sym (cases.span_falling starts size c.args.k inside (omega (arith, first, end)))
    ]
