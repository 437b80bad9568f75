-- `planner::role` meets its contract: a refused image ends the call with its refusal, and so does a number past the handsets; of a handset the size of its
-- row is its near count, and the rows found are the communities.
use Prim.Native.Nat.{◌<◌}
use native.Mathlib.Omega.{arith}
use mathlib.Core.Path.{ap, ◌∙◌}
use Rattle.image.specs.Image.{handset_count}
use Rattle.community.specs.Network.{role_values}
use Rattle.planner.specs.Plan.{known_answer}
use Rattle.planner.proofs.Calls.{told_yes, told_no, known_refused, handsets_most_lem, known_past, role_found, known_found}
use Rattle.planner.proofs.role.Goals as goal

pub returns-in_default : goal.returns-in_default
returns-in_default c =
    ap known_answer (known_refused c.args.image.now c.refusal_of.result
    (told_no c.find_site-found.ensures c.in_default.field-0 c.refusal_of.result c.in_default.is c.refusal_of.ensures) c.args.v)

pub returns-then-from-v : goal.returns-then-from-v
returns-then-from-v c =
    let told = told_yes c.find_site-found.ensures c.in-Ok.h c.in-Ok.is in
    rw c.refused.ensures (ap known_answer (known_past c.args.image.now told.0 c.args.v (omega (arith, c.if-from-v.true, told.1))))

pub bounds-sizes-v : goal.bounds-sizes-v
bounds-sizes-v c =
    let told = told_yes c.find_site-found.ensures c.in-Ok.h c.in-Ok.is in
    omega (arith, c.if-from-v.false, told.1, handsets_most_lem c.args.image.now told.0)

pub returns : goal.returns
returns c =
    let told = told_yes c.find_site-found.ensures c.in-Ok.h c.in-Ok.is in
    let below : c.args.v < handset_count c.args.image.now = omega (arith, c.if-from-v.false, told.1) in
    known_found c.args.image.now told.0 c.args.v below _
    ((c.find_site-found.ensures.found c.in-Ok.h c.in-Ok.is).counts.each c.args.v below)
    (c.role_in-role.ensures ∙ ap role_values (role_found c.args.image.now told.0 c.find_site-found.ensures c.args.v below))
