-- `nearest::nearest_of` meets its contract: with no handset in a row there is no group, and else the first row that meets the closest handsets is the nearest group.
use Rattle.std.proofs.Common.{ℕ, ◌≡◌, min, ap, ◌∙◌, arith}
use Rattle.nearest.specs.ForProofs.{wrapped}
use Rattle.nearest.specs.Nearest.{group_found}
use Rattle.rows.proofs.Rows.{met_some}
use Rattle.nearest.proofs.Rows.{none_seen, no_rows, rows_nearest, not_unmet}
use Rattle.nearest.proofs.nearest_of.Goals as goal

pub returns-in_default : goal.returns-in_default
returns-in_default c =
    let far : ℕ → ℕ = wrapped c.args.point.now c.args.handsets.now in
    let all : min c.args.groups.count 512 ≡ c.args.groups.count = omega (arith, c.requires.few) in
    let found = rw all at c.find_members.ensures in
    no_rows far c.args.groups.rows.now c.args.groups.count (none_seen far c.args.groups.rows.now c.args.groups.count c.requires _ _ found c.in_default.ensures.standing)

pub returns-in-Some-first_meeting : goal.returns-in-Some-first_meeting
returns-in-Some-first_meeting c =
    let far : ℕ → ℕ = wrapped c.args.point.now c.args.handsets.now in
    let all : min c.args.groups.count 512 ≡ c.args.groups.count = omega (arith, c.requires.few) in
    let found = rw all at c.find_members.ensures in
    let met = met_some _ _ _ (rw all at c.in-Some-first_meeting.ensures) in
    ap (λ (g : ℕ). group_found g c.in-Some.least) met.0 ∙ rows_nearest far c.args.groups.rows.now c.args.groups.count c.requires _ _ found c.in-Some.least _ c.in-Some.ensures

pub returns-in-None : goal.returns-in-None
returns-in-None c =
    let far : ℕ → ℕ = wrapped c.args.point.now c.args.handsets.now in
    let all : min c.args.groups.count 512 ≡ c.args.groups.count = omega (arith, c.requires.few) in
    let found = rw all at c.find_members.ensures in
    absurd (not_unmet far c.args.groups.rows.now c.args.groups.count c.requires _ _ found c.in-Some.least _ c.in-Some.ensures (rw all at c.in-None.ensures))
