-- `planner::plan` meets its contract: a refused image ends the call with its refusal, and of an accepted one the rows that are written are its
-- communities.
use Rattle.planner.proofs.Calls.{told_yes, told_no, plan_refused, plan_found}
use Rattle.planner.proofs.plan.Goals as goal

pub returns-in_default : goal.returns-in_default
returns-in_default c =
    let e = told_no c.find_rows-found.ensures.site c.in_default.field-0 c.refusal_of.result c.in_default.is c.refusal_of.ensures in
    plan_refused c.args.image.now c.refusal_of.result e c.args.starts.now c.args.members.now

pub returns : goal.returns
returns c = plan_found c.args.image.now (told_yes c.find_rows-found.ensures.site c.in-Ok.field-0 c.in-Ok.is).0 c.find_rows-found.ensures.site c.args.starts.now c.args.members.now _ _ _ c.write_plan.ensures
