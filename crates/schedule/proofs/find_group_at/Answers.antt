-- `schedule::find_group_at` meets its contract: each case of the choice has the answer of the lookup's companion in its plan.
use Rattle.std.proofs.lemmas.Result.{err_from_is_err_and}
use Rattle.lookup.proofs.Answers.{looked_same}
use Rattle.lookup.specs.Lookup.{looked_of}
use Rattle.schedule.specs.Schedule.{scheduled_of}
use Rattle.schedule.proofs.find_group_at.Goals as goal

pub returns-in_err-day : goal.returns-in_err-day
unfolding scheduled_of
returns-in_err-day c =
    let p = err_from_is_err_and c.from_residual.result c.from_residual.ensures.1 in
    rw (p.1, p.2, ← c.choose.ensures, c.in_err-day.was)

pub returns-in_err-count-in-Workday : goal.returns-in_err-count-in-Workday
unfolding scheduled_of
returns-in_err-count-in-Workday c =
    let p = err_from_is_err_and c.from_residual-in_err-count-in-Workday.result c.from_residual-in_err-count-in-Workday.ensures.1 in
    let found = looked_same c.find_group.result (looked_of c.args.workday.starts.now c.args.workday.members.now c.args.k) c.find_group.ensures in
    rw (p.1, p.2, ← c.choose.ensures, c.in_ok-day.was, c.in-Workday.is, ← found, c.in_err-count-in-Workday.was)

pub returns-in_err-count-in-Restday : goal.returns-in_err-count-in-Restday
unfolding scheduled_of
returns-in_err-count-in-Restday c =
    let p = err_from_is_err_and c.from_residual-in_err-count-in-Restday.result c.from_residual-in_err-count-in-Restday.ensures.1 in
    let found = looked_same c.find_group-in-Restday.result (looked_of c.args.restday.starts.now c.args.restday.members.now c.args.k) c.find_group-in-Restday.ensures in
    rw (p.1, p.2, ← c.choose.ensures, c.in_ok-day.was, c.in-Restday.is, ← found, c.in_err-count-in-Restday.was)

pub returns-in_ok-count-in-Workday : goal.returns-in_ok-count-in-Workday
unfolding scheduled_of
returns-in_ok-count-in-Workday c =
    let found = looked_same c.find_group.result (looked_of c.args.workday.starts.now c.args.workday.members.now c.args.k) c.find_group.ensures in
    rw (← c.choose.ensures, c.in_ok-day.was, c.in-Workday.is, ← found, c.in_ok-count-in-Workday.was)

pub returns-in_ok-count-in-Restday : goal.returns-in_ok-count-in-Restday
unfolding scheduled_of
returns-in_ok-count-in-Restday c =
    let found = looked_same c.find_group-in-Restday.result (looked_of c.args.restday.starts.now c.args.restday.members.now c.args.k) c.find_group-in-Restday.ensures in
    rw (← c.choose.ensures, c.in_ok-day.was, c.in-Restday.is, ← found, c.in_ok-count-in-Restday.was)
