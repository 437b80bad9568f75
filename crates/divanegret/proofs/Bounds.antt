-- How large the numbers of an answer can be. An accepted image has at most 512 handsets and 4,096 edges, which bounds every count; a refusal is one of the
-- paper's questions, and its place is an index below those bounds.
--
--     highest                        the highest number of a refusal
--     Small r                        a refusal with a number from 1 to the highest, and a place of at most 4,096
--     OpenSmall, PlanSmall, ..       an answer whose numbers are small, by its cases
--     refused_small                  a refusal of an image is small
--     open_small, plan_small, role_small, tally_small, looked_small, scheduled_small, nearest_small, report_small, encoded_small
--                                    those of each call are
use Rattle.std.specs.Prelude.{Err, None, Ok, Result, Some}
use Prim.Native.Nat.{ℕ, zero, suc, ◌+◌, ◌*◌, ◌-◌, ◌≤◌, ◌<◌}
use native.Mathlib.Omega.{arith}
use native.Mathlib.Decide.{dec_le}
use mathlib.Core.Path.{◌≡◌, refl, sym, subst}
use mathlib.Core.Logic.{⊎_elim}
use mathlib.Core.Bool.{Bool, true, false, ◌&&◌, not, cond}
use mathlib.Core.List.{List, [], ◌∷◌}
use lib.Dec.{T, leb, ltb, eqb, leb→le, le→leb}
use lib.IntN.{ℤ}
use lib.ListN.{length, get_or, drop, length-take, length-drop}
use Rattle.sets.specs.Below.{any, find, count}
use Rattle.sets.proofs.Tests.{or_right, decide, find_law, find_none, not_any}
use Rattle.sets.proofs.Counting.{bit_le, count_le, sum_le, sum_const}
use Rattle.fields.specs.Fields.{coordinate_count, handset_bytes, header_bytes}
use Rattle.limits.specs.Limits.{counts_fit, thresholds_fit, out_of_limits}
use Rattle.image.specs.Image.{header_of, handset_count, edge_count, handset_records, edge_records, handset_record, end_a, end_b}
use Rattle.image.specs.Questions.{tables_fit, bad_end, is_loop, repeats_earlier, ask, ask_each, ask_edges, ask_records, ask_header, open_of, Accepted}
use Rattle.image.specs.Answers.{refusal}
use Rattle.image.specs.declared.Header.{Header}
use Rattle.image.specs.declared.Refusal.{Refusal}
use Rattle.image.proofs.Acceptance.{when_accepted, when_either, counts_limits, accepted_fits}
use Rattle.community.specs.Network.{Network, contains, community_number, membership_count, border_of, communities, neighbourhood_size, is_core, role}
use Rattle.community.specs.Scores.{count_pairs, pairs, every_edge, joined_by, joined_pairs, just_one, leaving}
use Rattle.community.specs.Site.{network, communities_of}
use Rattle.community.specs.Tables.{member_table}
use Rattle.community.specs.declared.Role.{Role}
use Rattle.community.specs.declared.Role.TheVariants.{Core, Border, Outlier}
use Rattle.community.proofs.Bound.{memberships_bound}
use Rattle.community.proofs.Communities.{communities_few, member_below}
use Rattle.tables.specs.Plan.{made}
use Rattle.planner.specs.Plan.{plan_of, standing, known_of}
use Rattle.scores.specs.Scored.{tally_of, bad_entry, ask_entries, tallied_of}
use Rattle.lookup.specs.Lookup.{start_of, placed, between, members_of, looked_of}
use Rattle.schedule.specs.Schedule.{date_fits, minutes_fit, is_working, plan_at, choice_of, in_plan, scheduled_of}
use Rattle.schedule.specs.declared.Time.{Time}
use Rattle.schedule.specs.declared.Window.{Window}
use Rattle.schedule.specs.declared.Day.{Day}
use Rattle.schedule.specs.declared.Day.TheVariants.{Workday, Restday}
use Rattle.schedule.specs.declared.Scheduled.{Scheduled}
use Rattle.points.specs.Points.{point_in_limits}
use Rattle.points.proofs.Distances.{gap_most, distance_most}
use Rattle.nearest.specs.Nearest.{Nearest, nearest_of}
use Rattle.nearest.proofs.Meaning.{nearest_means}
use Rattle.reporting.specs.Report.{report_text, written_of, report_of}
use Rattle.layout.specs.Layout.{header_for, handset_table, edge_table, lengths_fit}
use Rattle.layout.specs.ForProofs.{image_most}
use Rattle.layout.specs.declared.Parameters.{Parameters}
use Rattle.writer.specs.Writer.{tables_answer, encoded_of}
use Rattle.writer.proofs.Drafting.{encoded_either}
use Rattle.rows.specs.declared.Counts.{Counts}
use Rattle.community.specs.declared.Standing.{Standing}
use Rattle.scores.specs.declared.Tally.{Tally}
use Rattle.divanegret.specs.Lossless.{entry_limit}

-- the highest number of a refusal
abbrev highest : ℕ
highest = 20

pub record Small (r : Refusal) : Type 0 where
  pub some : 1 ≤ r.number
  pub number : r.number ≤ highest
  pub place : r.place ≤ 4096

-- ---- the reader

abbrev pub OpenSmall : Result Header Refusal → Type 0
OpenSmall (Ok h) = (h.n ≤ 512) × (h.m ≤ 4096)
OpenSmall (Err r) = Small r

ask_small : (b : Bool) (k p : ℕ) (next : Result Header Refusal) → 1 ≤ k → k ≤ highest → p ≤ 4096 → (T b → OpenSmall next) → OpenSmall (ask b k p next)
unfolding ask
ask_small true k p next some few near rest = rest tt
ask_small false k p next some few near rest = record { some = some; number = few; place = near }

find_le : (n : ℕ) (f : ℕ → Bool) → find n f ≤ n
find_le n f = ⊎_elim (λ t. omega (arith, (find_law n f t).0)) (λ t. omega (arith, find_none n f t)) (decide (any n f))

each_small : (n : ℕ) (bad : ℕ → Bool) (k : ℕ) (next : Result Header Refusal) → 1 ≤ k → k ≤ highest → n ≤ 4096 → OpenSmall next → OpenSmall (ask_each n bad k next)
unfolding ask_each
each_small n bad k next some few near rest = ask_small (not (any n bad)) k (find n bad) next some few (omega (arith, find_le n bad)) (λ t. rest)

-- questions 7 to 10, of any tables of records
records_small : (handsets edges : List ℕ) (h : Header) → h.n ≤ 512 → h.m ≤ 4096 → OpenSmall (ask_records handsets edges h)
unfolding ask_records ask_edges
records_small handsets edges h n m =
    each_small h.n (λ v. out_of_limits (handset_record handsets v)) 7 _ (omega arith) (omega arith) (omega arith)
    (each_small h.m (bad_end edges h.n) 8 _ (omega arith) (omega arith) m
    (each_small h.m (is_loop edges) 9 _ (omega arith) (omega arith) m
    (each_small h.m (repeats_earlier edges) 10 _ (omega arith) (omega arith) m (n, m))))

pub open_small : (s : List ℕ) → OpenSmall (open_of s)
unfolding open_of ask_header
open_small s =
    let h : Header = header_of s in
    ask_small (leb header_bytes (length s)) 1 0 _ (omega arith) (omega arith) (omega arith)
    (λ q1. ask_small (eqb h.len (length s)) 2 0 _ (omega arith) (omega arith) (omega arith)
    (λ q2. ask_small (counts_fit h.n h.m) 3 0 _ (omega arith) (omega arith) (omega arith)
    (λ q3.
    let c = counts_limits h.n h.m q3 in
    ask_small (eqb h.width handset_bytes) 4 0 _ (omega arith) (omega arith) (omega arith)
    (λ q4. ask_small (thresholds_fit h.limit h.p h.q h.mu) 5 0 _ (omega arith) (omega arith) (omega arith)
    (λ q5. ask_small (tables_fit h) 6 0 _ (omega arith) (omega arith) (omega arith)
    (λ q6. records_small (handset_records s) (edge_records s) h c.0 c.1))))))

-- a refusal with a number of ours, and place 0
own_small : (k : ℕ) → 1 ≤ k → k ≤ highest → Small (refusal k)
own_small k some few = record { some = some; number = few; place = omega arith }

-- a refusal of an image
refused_small : (s : List ℕ) (r : Refusal) → open_of s ≡ Err r → Small r
refused_small s r e = subst OpenSmall e (open_small s)

-- ---- the plan

abbrev pub PlanSmall : Result Counts Refusal → Type 0
PlanSmall (Ok c) = (c.groups ≤ 512) × (c.memberships ≤ 8704)
PlanSmall (Err r) = Small r

module _ (s : List ℕ) (ok : Accepted s) where
  handsets_at_most : handset_count s ≤ 512
  handsets_at_most = (accepted_fits s ok).n_limit

  edges_at_most : edge_count s ≤ 4096
  edges_at_most = (accepted_fits s ok).m_limit

  communities_at_most : length (communities (network s)) ≤ 512
  communities_at_most = omega (arith, communities_few (network s), handsets_at_most)

  memberships_at_most : length (member_table (communities (network s))) ≤ 8704
  memberships_at_most = omega (arith, memberships_bound s ok, handsets_at_most, edges_at_most)

pub plan_small : (s : List ℕ) (a b : ℕ) → PlanSmall (plan_of s a b)
unfolding plan_of communities_of
plan_small s a b =
    when_either s _ _ PlanSmall (room (ltb (length (communities_of s)) a) (leb (length (member_table (communities_of s))) b)) (refused_small s)
  where
    room : (x y : Bool) → Accepted s → PlanSmall (cond x (cond y (made (length (communities_of s)) (length (member_table (communities_of s)))) (Err (refusal 12))) (Err (refusal 11)))
    room true true ok = (communities_at_most s ok, memberships_at_most s ok)
    room true false ok = own_small 12 (omega arith) (omega arith)
    room false y ok = own_small 11 (omega arith) (omega arith)

-- ---- a handset's role

abbrev pub RoleSmall : Role → Type 0
RoleSmall (Core k) = k ≤ 512
RoleSmall (Border k) = k ≤ 512
RoleSmall Outlier = 0 ≤ 512

abbrev pub KnownSmall : Result Standing Refusal → Type 0
KnownSmall (Ok x) = RoleSmall x.role × (x.neighbours ≤ 512)
KnownSmall (Err r) = Small r

community_number_le : (v : ℕ) (gs : List (List ℕ)) → community_number v gs ≤ length gs
unfolding community_number
community_number_le v [] = omega arith
community_number_le v (x ∷ gs) = go (contains v x) (community_number_le v gs)
  where
    go : (b : Bool) → community_number v gs ≤ length gs → cond b 0 (suc (community_number v gs)) ≤ suc (length gs)
    go true h = omega arith
    go false h = omega arith

membership_count_le : (v : ℕ) (gs : List (List ℕ)) → membership_count v gs ≤ length gs
unfolding membership_count
membership_count_le v [] = omega arith
membership_count_le v (x ∷ gs) = omega (arith, bit_le (contains v x), membership_count_le v gs)

border_small : (k : ℕ) → k ≤ 512 → RoleSmall (border_of k)
border_small zero h = omega arith
border_small (suc k) h = h

pub role_small : (s : List ℕ) (v : ℕ) → KnownSmall (known_of s v)
unfolding known_of standing role neighbourhood_size
role_small s v = when_either s _ _ KnownSmall (of_handset (ltb v (handset_count s))) (refused_small s)
  where
    g : Network
    g = network s

    of_role : (b : Bool) → Accepted s → RoleSmall (cond b (Core (community_number v (communities g))) (border_of (membership_count v (communities g))))
    of_role true ok = omega (arith, community_number_le v (communities g), communities_at_most s ok)
    of_role false ok = border_small (membership_count v (communities g)) (omega (arith, membership_count_le v (communities g), communities_at_most s ok))

    of_handset : (b : Bool) → Accepted s → KnownSmall (cond b (Ok (standing s v)) (Err (refusal 13)))
    of_handset true ok = (of_role (is_core g v) ok, omega (arith, count_le g.n (g.neighbour v), handsets_at_most s ok))
    of_handset false ok = own_small 13 (omega arith) (omega arith)

-- ---- the tally of a list

abbrev pub TallySmall : Result Tally Refusal → Type 0
TallySmall (Ok x) = (x.pairs ≤ 262144) × (x.joined ≤ 262144) × (x.leaving ≤ 4096)
TallySmall (Err r) = Small r

-- a list of at most 512 places has at most 512 * 512 pairs of them
pairs_le : (n : ℕ) (f : ℕ → ℕ → Bool) → n ≤ 512 → count_pairs n f ≤ 262144
unfolding count_pairs
pairs_le n f h =
    omega (arith, sum_le n (λ j. count j (λ i. f i j)) (λ j. 512) (λ j l. omega (arith, count_le j (λ i. f i j))), sum_const n 512)

module _ (n : ℕ) (l : List ℕ) where
  -- place 512 is bad in every list
  late : T (bad_entry n l 512)
  unfolding bad_entry
  late = or_right (leb n (get_or l 512 0)) (leb 512 512) (le→leb 512 512 (omega arith))

  place_few : T (any (length l) (bad_entry n l)) → find (length l) (bad_entry n l) ≤ 4096
  place_few t = pick (dec_le (find (length l) (bad_entry n l)) 512)
    where
      pick : Dec (find (length l) (bad_entry n l) ≤ 512) → find (length l) (bad_entry n l) ≤ 4096
      pick (yes h) = omega arith
      pick (no h) = absurd (not_any (find (length l) (bad_entry n l)) (bad_entry n l) 512 (find_law (length l) (bad_entry n l) t).2 (omega arith) late)

  list_few : T (not (any (length l) (bad_entry n l))) → length l ≤ 512
  list_few t = pick (dec_le (length l) 512)
    where
      pick : Dec (length l ≤ 512) → length l ≤ 512
      pick (yes h) = h
      pick (no h) = absurd (not_any (length l) (bad_entry n l) 512 t (omega arith) late)

pub tally_small : (s l : List ℕ) → TallySmall (tallied_of s l)
unfolding tallied_of ask_entries tally_of pairs joined_pairs leaving
tally_small s l = when_either s _ _ TallySmall (entries (any (length l) (bad_entry (handset_count s) l)) refl) (refused_small s)
  where
    n : ℕ
    n = handset_count s

    entries : (b : Bool) → any (length l) (bad_entry n l) ≡ b → Accepted s
        → TallySmall (cond b (Err (record { number = 13; place = find (length l) (bad_entry n l) })) (Ok (tally_of s l)))
    entries true e ok = record { some = omega arith; number = omega arith; place = place_few n l (subst T (sym e) tt) }
    entries false e ok =
        let few : length l ≤ 512 = list_few n l (subst (λ (b : Bool). T (not b)) (sym e) tt) in
        let edges : List ℕ = edge_records s in (
          pairs_le (length l) (λ i j. true) few,
          pairs_le (length l) (λ i j. joined_by s every_edge (get_or l i 0) (get_or l j 0)) few,
          omega (arith, count_le (edge_count s) (λ k. every_edge k && just_one (contains (end_a edges k) l) (contains (end_b edges k) l)), edges_at_most s ok),
        )

-- ---- a group's members

abbrev pub LookedSmall : ℕ → Result ℕ Refusal → Type 0
LookedSmall room (Ok k) = k ≤ room
LookedSmall room (Err r) = Small r

pub looked_small : (starts table : List ℕ) (k : ℕ) → LookedSmall (length table) (looked_of starts table k)
unfolding looked_of members_of
looked_small starts table k = go (placed starts (length table) k)
  where
    a : ℕ
    a = start_of starts k

    b : ℕ
    b = start_of starts (k + 1)

    go : (q : Bool) → LookedSmall (length table) (cond q (Ok (length (cond q (between a b table) []))) (Err (refusal 14)))
    go true = omega (arith, length-take (b - a) (drop a table), length-drop a table)
    go false = own_small 14 (omega arith) (omega arith)

-- ---- a group's members at a time

abbrev pub ScheduledSmall : Result Scheduled Refusal → Type 0
ScheduledSmall (Ok s) = s.count < entry_limit
ScheduledSmall (Err r) = Small r

-- in either plan, since both have the lookup's answer with the plan's name
in_plan_lem : (day : Day) (l : Result ℕ Refusal) (room : ℕ) → room < entry_limit → LookedSmall room l → ScheduledSmall (in_plan day l)
in_plan_lem day (Ok k) room few small = omega arith
in_plan_lem day (Err r) room few small = small

pub scheduled_small : (t : Time) (w : Window) (k : ℕ) (starts table starts' table' : List ℕ) → length table < entry_limit → length table' < entry_limit
    → ScheduledSmall (scheduled_of (choice_of t w) (looked_of starts table k) (looked_of starts' table' k))
unfolding choice_of plan_at scheduled_of
scheduled_small t w k starts table starts' table' few few' = go (date_fits t) (minutes_fit t w) (is_working t w)
  where
    go : (a b c : Bool)
        → ScheduledSmall
        (scheduled_of (cond a (cond b (Ok (cond c Workday Restday)) (Err (refusal 19))) (Err (refusal 18))) (looked_of starts table k) (looked_of starts' table' k))
    go true true true = in_plan_lem Workday (looked_of starts table k) (length table) few (looked_small starts table k)
    go true true false = in_plan_lem Restday (looked_of starts' table' k) (length table') few' (looked_small starts' table' k)
    go true false c = own_small 19 (omega arith) (omega arith)
    go false b c = own_small 18 (omega arith) (omega arith)

-- ---- the nearest group

abbrev pub NearestSmall : Nearest → Type 0
NearestSmall (Ok (Some g)) = (g.group < 512) × (g.squared_distance ≤ coordinate_count * gap_most)
NearestSmall (Ok None) = 0 ≤ 512
NearestSmall (Err r) = Small r

pub nearest_small : (s : List ℕ) (p : List ℤ) → length p ≡ coordinate_count → NearestSmall (nearest_of s p)
unfolding nearest_of communities_of
nearest_small s p long = when_either s _ _ NearestSmall (λ ok. subst NearestSmall (when_accepted s _ Err ok) (told ok)) (refused_small s)
  where
    inside : Accepted s → T (point_in_limits p) → NearestSmall (nearest_of s p)
    inside ok t = of (nearest_of s p) refl
      where
        of : (a : Nearest) → nearest_of s p ≡ a → NearestSmall a
        of (Ok (Some g)) e =
            let n = (nearest_means.group s p (nearest_of s p) ok t refl g.group g.squared_distance).0 e in
            let v = n.stands.0 in
            let m = n.stands.1 in (
              omega (arith, m.0, communities_at_most s ok),
              omega (arith, n.stands.2, distance_most s ok p long t v (member_below (network s) g.group v m.0 m.1)),
            )
        of (Ok None) e = omega arith
        of (Err r) e = absurd (nearest_means.not_refused s p (nearest_of s p) ok t refl r e)

    told : Accepted s → NearestSmall (nearest_of s p)
    told ok =
        ⊎_elim (λ t. inside ok t)
        (λ t. subst NearestSmall (sym (nearest_means.out_of_limits_lem s p (nearest_of s p) ok t refl)) (own_small 17 (omega arith) (omega arith))) (decide (point_in_limits p))

-- ---- the report

abbrev pub ReportSmall : ℕ → Result ℕ Refusal → Type 0
ReportSmall room (Ok k) = k ≤ room
ReportSmall room (Err r) = Small r

pub report_small : (s : List ℕ) (room : ℕ) → ReportSmall room (report_of s room)
unfolding report_of written_of
report_small s room = when_either s _ _ (ReportSmall room) (λ ok. fitting (leb (length (report_text s)) room) refl) (refused_small s)
  where
    fitting : (b : Bool) → leb (length (report_text s)) room ≡ b → ReportSmall room (cond b (Ok (length (report_text s))) (Err (refusal 16)))
    fitting true e = leb→le (length (report_text s)) room (subst T (sym e) tt)
    fitting false e = own_small 16 (omega arith) (omega arith)

-- ---- an image that is written

abbrev pub EncodedSmall : Result ℕ Refusal → Type 0
EncodedSmall (Ok k) = k ≤ image_most
EncodedSmall (Err r) = Small r

tables_small : (x : Parameters) (coords : List ℤ) (ends : List ℕ) → OpenSmall (tables_answer x coords ends)
unfolding tables_answer
tables_small x coords ends =
    ask_small (counts_fit x.n x.m) 3 0 _ (omega arith) (omega arith) (omega arith)
    (λ q3.
    let c = counts_limits x.n x.m q3 in
    ask_small (thresholds_fit x.limit x.p x.q x.mu) 5 0 _ (omega arith) (omega arith) (omega arith)
    (λ q5. ask_small (lengths_fit x (length coords) (length ends)) 6 0 _ (omega arith) (omega arith) (omega arith)
    (λ q6. records_small (handset_table coords) (edge_table ends) (header_for x) c.0 c.1)))

pub encoded_small : (x : Parameters) (coords : List ℤ) (ends : List ℕ) (room : ℕ) → EncodedSmall (encoded_of x coords ends room)
encoded_small x coords ends room =
    encoded_either x coords ends room EncodedSmall (λ ok s. fitting (counts_limits x.n x.m ok.q3) (leb (header_for x).len room))
    (λ q s. subst OpenSmall s (tables_small x coords ends))
  where
    fitting : (x.n ≤ 512) × (x.m ≤ 4096) → (b : Bool) → EncodedSmall (cond b (Ok (header_for x).len) (Err (refusal 20)))
    fitting small true = omega (arith, small.0, small.1)
    fitting small false = own_small 20 (omega arith) (omega arith)
