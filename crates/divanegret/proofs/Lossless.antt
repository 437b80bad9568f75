-- What C takes out of a call's number is all of the answer. The numbers of an answer are small (Bounds), so that none is cut off where the code is made, and
-- each share of the code gives back its number.
--
--     lossless     the theorem of specs/Lossless
use Rattle.std.specs.Prelude.{Err, None, Ok, Result, Some}
use Prim.Native.Nat.{ℕ, zero, suc, ◌+◌, ◌*◌, ◌-◌, ◌%◌, ◌/◌, ◌≤◌, ◌<◌, min}
use native.Mathlib.Omega.{arith}
use mathlib.Core.Path.{◌≡◌, refl, ap, ap₂, ◌∙◌}
use mathlib.Core.Bool.{Bool, cond}
use mathlib.Core.List.{List, [], ◌∷◌}
use lib.IntN.{ℤ, pos, negsuc, neg_ℤ}
use lib.ListN.{length}
use borrow.Author.Tests.{lt-ltb}
use Rattle.image.specs.Answers.{refused, given}
use Rattle.image.specs.Questions.{open_of}
use Rattle.image.specs.Signed.{signed32}
use Rattle.image.specs.declared.Refusal.{Refusal}
use Rattle.community.specs.Network.{role_values}
use Rattle.community.specs.declared.Role.{Role}
use Rattle.community.specs.declared.Role.TheVariants.{Core, Border, Outlier}
use Rattle.tables.specs.Plan.{plan_answer}
use Rattle.planner.specs.Plan.{plan_of, known_of, known_answer}
use Rattle.scores.specs.Scored.{tallied_of}
use Rattle.scores.specs.Answers.{tally_answer}
use Rattle.lookup.specs.Lookup.{looked_of}
use Rattle.lookup.specs.Answers.{look_answer}
use Rattle.schedule.specs.Schedule.{choice_of, scheduled_of}
use Rattle.schedule.specs.Answers.{table_number, scheduled_answer}
use Rattle.schedule.specs.declared.Scheduled.{Scheduled}
use Rattle.schedule.specs.declared.Day.{Day}
use Rattle.schedule.specs.declared.Day.TheVariants.{Workday, Restday}
use Rattle.nearest.specs.Nearest.{Nearest, nearest_of, nearest_answer}
use Rattle.reporting.specs.Report.{report_of, report_answer}
use Rattle.layout.specs.ForProofs.{image_most}
use Rattle.writer.specs.Writer.{encoded_of, encoded_answer}
use Rattle.codes.specs.Codes.{open_code, plan_code, kind_code, role_code, tally_code, nearest_code, report_code}
use Rattle.refusals.specs.Refusals.{refusal_code}
use Rattle.table_codes.specs.Codes.{count_code, scheduled_code}
use Rattle.divanegret.specs.Lossless.{int32, open_macros, plan_macros, role_macros, scores_macros, scheduled_macros, nearest_macros, itself, Taken, taken_by, site_answer, number_only, whole, Lossless}
use Rattle.rows.specs.declared.Counts.{Counts}
use Rattle.image.specs.declared.Header.{Header}
use Rattle.community.specs.declared.Standing.{Standing}
use Rattle.scores.specs.declared.Tally.{Tally}
use Rattle.divanegret.proofs.Bounds.{Small, OpenSmall, PlanSmall, RoleSmall, KnownSmall, TallySmall, LookedSmall, ScheduledSmall, NearestSmall, ReportSmall, EncodedSmall, open_small, plan_small, role_small, tally_small, looked_small, scheduled_small, nearest_small, report_small, encoded_small}

-- a number below 2 ^ 31 is its int32_t
low32 : (k x : ℕ) → k ≡ x → x < 2147483648 → int32 k ≡ pos x
unfolding signed32
low32 k x e h =
    let q : k % 4294967296 ≡ x = omega arith in
    ap signed32 q ∙ ap (λ (b : Bool). cond b (pos x) (negsuc (4294967295 - x))) (lt-ltb x 2147483648 h)

-- ---- refusals

negative_taken : (macros : List (ℕ → ℤ)) (k : ℕ) → 1 ≤ k
    → taken_by macros (neg_ℤ (pos k)) ≡ record { number = int32 (k % 256); place = int32 (k / 256); values = [] }
unfolding taken_by
negative_taken macros zero h = absurd (omega arith)
negative_taken macros (suc k) h = refl

refusal_taken : (macros : List (ℕ → ℤ)) (r : Refusal) → Small r → taken_by macros (refusal_code r) ≡ whole (refused r)
refusal_taken macros r small =
    let k : ℕ = min r.number 255 + 256 * min r.place 4294967295 in
    let n : int32 (k % 256) ≡ pos r.number = low32 (k % 256) r.number (omega (arith, small.number, small.place)) (omega (arith, small.number)) in
    let p : int32 (k / 256) ≡ pos r.place = low32 (k / 256) r.place (omega (arith, small.number, small.place)) (omega (arith, small.place)) in
    negative_taken macros k (omega (arith, small.some)) ∙ (λ i. record { number = n i; place = p i; values = [] })

-- ---- successes

success : {vs ws : List ℤ} → vs ≡ ws → ◌≡◌ {A = Taken} (record { number = pos 0; place = pos 0; values = vs }) (record { number = pos 0; place = pos 0; values = ws })
success e = λ i. record { number = pos 0; place = pos 0; values = e i }

values_2 : {a b x y : ℤ} → a ≡ x → b ≡ y → ◌≡◌ {A = List ℤ} (a ∷ b ∷ []) (x ∷ y ∷ [])
values_2 p q = ap₂ (λ (a b : ℤ). a ∷ b ∷ []) p q

values_3 : {a b c x y z : ℤ} → a ≡ x → b ≡ y → c ≡ z → ◌≡◌ {A = List ℤ} (a ∷ b ∷ c ∷ []) (x ∷ y ∷ z ∷ [])
values_3 p q r = λ i. p i ∷ q i ∷ r i ∷ []

-- two numbers in one
pair_taken : (k x y : ℕ) → k ≡ x + 65536 * y → x < 65536 → y < 65536 → taken_by open_macros (pos k) ≡ whole (given (x ∷ y ∷ []))
unfolding taken_by
pair_taken k x y e h l = success (values_2 (low32 (k % 65536) x (omega arith) (omega arith)) (low32 (k / 65536) y (omega arith) (omega arith)))

open_taken : (o : Result Header Refusal) → OpenSmall o → taken_by open_macros (open_code o) ≡ whole (site_answer o)
open_taken (Ok h) small = pair_taken (h.n + 65536 * h.m) h.n h.m refl (omega (arith, small.0)) (omega (arith, small.1))
open_taken (Err r) small = refusal_taken open_macros r small

plan_taken : (p : Result Counts Refusal) → PlanSmall p → taken_by plan_macros (plan_code p) ≡ whole (plan_answer p)
plan_taken (Ok c) small =
    pair_taken (min c.groups 65535 + 65536 * min c.memberships 65535) c.groups c.memberships
    (omega (arith, small.0, small.1)) (omega (arith, small.0)) (omega (arith, small.1))
plan_taken (Err r) small = refusal_taken plan_macros r small

-- a near count, a kind and a value
role_of_lem : (k near x y : ℕ) → k ≡ x + 65536 * y + 4294967296 * near → near < 65536 → x < 65536 → y < 65536
    → taken_by role_macros (pos k) ≡ whole (given (near ∷ x ∷ y ∷ []))
unfolding taken_by
role_of_lem k near x y e j h l =
    let w : k / 65536 ≡ y + 65536 * near = omega arith in
    success (values_3 (low32 (k / 4294967296) near (omega arith) (omega arith)) (low32 (k % 65536) x (omega arith) (omega arith))
    (low32 (k / 65536 % 65536) y (omega (arith, w)) (omega arith)))

kind_taken : (x : Role) (near : ℕ) → RoleSmall x → near ≤ 512
    → taken_by role_macros (pos (kind_code x + 4294967296 * min near 65535)) ≡ whole (given (near ∷ role_values x))
kind_taken (Core k) near small h = role_of_lem _ near 0 k (omega arith) (omega arith) (omega arith) (omega arith)
kind_taken (Border k) near small h = role_of_lem _ near 1 k (omega arith) (omega arith) (omega arith) (omega arith)
kind_taken Outlier near small h = role_of_lem _ near 2 0 (omega arith) (omega arith) (omega arith) (omega arith)

role_taken : (x : Result Standing Refusal) → KnownSmall x → taken_by role_macros (role_code x) ≡ whole (known_answer x)
role_taken (Ok x) small = kind_taken x.role x.neighbours small.0 small.1
role_taken (Err r) small = refusal_taken role_macros r small

-- the middle share, and the upper
middle : (k t s : ℕ) → k ≡ t + 1048576 * s → t < 1048576 → k % 1048576 ≡ t
middle k t s e h = omega arith

upper : (k o s : ℕ) → k ≡ o + 68719476736 * s → o < 68719476736 → k / 68719476736 ≡ s
upper k o s e h = omega arith

tally_of_lem : (k s t o : ℕ) → k ≡ o + 65536 * t + 68719476736 * s → t < 1048576 → o < 65536
    → taken_by scores_macros (pos k) ≡ whole (given (s ∷ t ∷ o ∷ []))
unfolding taken_by
tally_of_lem k s t o e l h =
    let x : k % 65536 ≡ o = omega arith in
    let w : k / 65536 ≡ t + 1048576 * s = omega arith in
    success (values_3 (ap pos (upper k (o + 65536 * t) s e (omega arith))) (ap pos (middle (k / 65536) t s w l)) (ap pos x))

tally_taken : (x : Result Tally Refusal) → TallySmall x → taken_by scores_macros (tally_code x) ≡ whole (tally_answer x)
tally_taken (Ok x) small =
    tally_of_lem _ x.pairs x.joined x.leaving (omega (arith, small.0, small.1, small.2)) (omega (arith, small.1)) (omega (arith, small.2))
tally_taken (Err r) small = refusal_taken scores_macros r small

-- a count that is at most the length of what was lent
count_taken : (k room : ℕ) → room < 9223372036854775808 → k ≤ room → taken_by itself (pos (min k 9223372036854775807)) ≡ whole (given (k ∷ []))
unfolding taken_by
count_taken k room h l =
    let e : min k 9223372036854775807 ≡ k = omega arith in
    success (ap (λ (x : ℕ). pos x ∷ []) e)

looked_taken : (x : Result ℕ Refusal) (room : ℕ) → room < 9223372036854775808 → LookedSmall room x → taken_by itself (count_code x) ≡ whole (look_answer x)
looked_taken (Ok k) room h small = count_taken k room h small
looked_taken (Err r) room h small = refusal_taken itself r small

-- which table, and a count
scheduled_of_lem : (k x y : ℕ) → k ≡ x + 2 * y → x < 2 → taken_by scheduled_macros (pos k) ≡ whole (given (x ∷ y ∷ []))
unfolding taken_by
scheduled_of_lem k x y e h =
    let u : k / 2 ≡ y = omega arith in
    success (values_2 (low32 (k % 2) x (omega arith) (omega arith)) (ap pos u))

scheduled_taken : (x : Result Scheduled Refusal) → ScheduledSmall x → taken_by scheduled_macros (scheduled_code x) ≡ whole (scheduled_answer x)
scheduled_taken (Ok s) small = told s.day
  where
    told : (d : Day) → taken_by scheduled_macros (pos (table_number d + 2 * min s.count 4611686018427387903)) ≡ whole (given (table_number d ∷ s.count ∷ []))
    told Workday = scheduled_of_lem _ 0 s.count (omega arith) (omega arith)
    told Restday = scheduled_of_lem _ 1 s.count (omega arith) (omega arith)
scheduled_taken (Err r) small = refusal_taken scheduled_macros r small

-- whether there is a group, its number and its distance
nearest_of_lem : (k x y z : ℕ) → k ≡ x + 2 * y + 65536 * z → x < 2 → y < 32768 → taken_by nearest_macros (pos k) ≡ whole (given (x ∷ y ∷ z ∷ []))
unfolding taken_by
nearest_of_lem k x y z e h l =
    let w : k / 2 ≡ y + 32768 * z = omega arith in
    let m : k / 2 % 32768 ≡ y = omega (arith, w) in
    let u : k / 65536 ≡ z = omega arith in
    success (values_3 (low32 (k % 2) x (omega arith) (omega arith)) (low32 (k / 2 % 32768) y m (omega arith)) (ap pos u))

nearest_taken : (x : Nearest) → NearestSmall x → taken_by nearest_macros (nearest_code x) ≡ whole (nearest_answer x)
nearest_taken (Ok (Some g)) small = nearest_of_lem _ 1 g.group g.squared_distance (omega (arith, small.0, small.1)) (omega arith) (omega (arith, small.0))
nearest_taken (Ok None) small = nearest_of_lem 0 0 0 0 (omega arith) (omega arith) (omega arith)
nearest_taken (Err r) small = refusal_taken nearest_macros r small

report_taken : (x : Result ℕ Refusal) (room : ℕ) → room < 9223372036854775808 → ReportSmall room x → taken_by itself (report_code x) ≡ whole (number_only (report_answer x))
report_taken (Ok k) room h small = count_taken k room h small
report_taken (Err r) room h small =
    let n : int32 (r.number % 256) ≡ pos r.number = low32 (r.number % 256) r.number (omega (arith, small.number)) (omega (arith, small.number)) in
    let p : int32 (r.number / 256) ≡ pos 0 = low32 (r.number / 256) 0 (omega (arith, small.number)) (omega arith) in
    negative_taken itself r.number small.some ∙ (λ i. record { number = n i; place = p i; values = [] })

encoded_taken : (x : Result ℕ Refusal) → EncodedSmall x → taken_by itself (count_code x) ≡ whole (encoded_answer x)
encoded_taken (Ok k) small = count_taken k image_most (omega arith) small
encoded_taken (Err r) small = refusal_taken itself r small

pub lossless : Lossless
lossless = record {
  opened = λ s. open_taken (open_of s) (open_small s);
  planned = λ s a b. plan_taken (plan_of s a b) (plan_small s a b);
  role = λ s v. role_taken (known_of s v) (role_small s v);
  scores = λ s l. tally_taken (tallied_of s l) (tally_small s l);
  members = λ starts table k h. looked_taken (looked_of starts table k) (length table) h (looked_small starts table k);
  scheduled = λ t w k starts table starts' table' few few'.
      scheduled_taken (scheduled_of (choice_of t w) (looked_of starts table k) (looked_of starts' table' k)) (scheduled_small t w k starts table starts' table' few few');
  nearest = λ s p long. nearest_taken (nearest_of s p) (nearest_small s p long);
  report = λ s room h. report_taken (report_of s room) room h (report_small s room);
  written = λ x coords ends room. encoded_taken (encoded_of x coords ends room) (encoded_small x coords ends room);
}
