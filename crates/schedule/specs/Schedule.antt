-- The members of group k in one of a site's two plans, by date and minute (paper 02, order 4).
--
--     day_minutes            1,440
--     date_fits t            question 18: the date exists, in a year from 1600 to 9999
--     minutes_fit t w        question 19: the minute is one of the day's, and opening ≤ closing ≤ 1,440
--     is_workday t           Monday to Friday
--     in_window t w          opening ≤ minute < closing
--     is_working t w         both: a working minute
--     plan_at t w            the plan for a time: the first, the workday plan, in a working minute, else the second, the rest-day plan
--     choice_of t w          the plan for any time and window, or 18, or 19, asked in this order
--     part_of c a b          of the parts that the lookup gives in each plan that of the chosen one; empty where 18 or 19 applies
--     found_in plan n        n members found in a plan
--     in_plan plan l         what the lookup's companion answers in a plan, with the plan's name
--     scheduled_of c a b     of what the lookup's companion answers in each plan that of the chosen one, with its name; or 18, or 19
--     Agree                 what a part and the companion's answer on the same arguments have to do with each other
--     Agreement             the theorem: what the two calls answer, by their contracts, agrees (proved in proofs/Agreement)
--
-- The dates are those of dates/specs/Dates, the lookup in one plan and its question 14 those of lookup/specs/Lookup.
use Rattle.std.specs.Prelude.{ℕ, ◌≡◌, Bool, ◌&&◌, cond, List, [], ◌⊎◌, T, leb, ltb, length, Err, Ok, Result}
use Rattle.image.specs.Answers.{refusal}
use Rattle.image.specs.declared.Refusal.{Refusal}
use Rattle.dates.specs.Dates.{date_exists, weekday_of}
use Rattle.lookup.specs.Lookup.{members_of, looked_of}
use Rattle.schedule.specs.declared.Time.{Time}
use Rattle.schedule.specs.declared.Window.{Window}
use Rattle.schedule.specs.declared.Day.{Day}
use Rattle.schedule.specs.declared.Day.TheVariants.{Workday, Restday}
use Rattle.schedule.specs.declared.Scheduled.{Scheduled}

abbrev pub day_minutes : ℕ
day_minutes = 1440

unfoldable pub date_fits : Time → Bool
unfolding date_exists
date_fits t = date_exists t.date.year t.date.month t.date.day

unfoldable pub minutes_fit : Time → Window → Bool
minutes_fit t w = ltb t.minute day_minutes && (leb w.closing day_minutes && leb w.opening w.closing)

-- weekdays 0 to 4
unfoldable pub is_workday : Time → Bool
unfolding weekday_of
is_workday t = ltb (weekday_of t.date.year t.date.month t.date.day) 5

unfoldable pub in_window : Time → Window → Bool
in_window t w = leb w.opening t.minute && ltb t.minute w.closing

unfoldable pub is_working : Time → Window → Bool
unfolding is_workday in_window
is_working t w = is_workday t && in_window t w

unfoldable pub plan_at : Time → Window → Day
plan_at t w = cond (is_working t w) Workday Restday

unfoldable pub choice_of : Time → Window → Result Day Refusal
choice_of t w = cond (date_fits t) (cond (minutes_fit t w) (Ok (plan_at t w)) (Err (refusal 19))) (Err (refusal 18))

-- a is the part in the first plan, b that in the second
unfoldable pub part_of : Result Day Refusal → List ℕ → List ℕ → List ℕ
part_of (Ok Workday) a b = a
part_of (Ok Restday) a b = b
part_of (Err r) a b = []

abbrev pub found_in : Day → ℕ → Result Scheduled Refusal
found_in day n = Ok (record { day = day; count = n })

abbrev pub in_plan : Day → Result ℕ Refusal → Result Scheduled Refusal
in_plan day (Ok n) = found_in day n
in_plan day (Err r) = Err r

-- a is the companion's answer in the first plan, b that in the second
unfoldable pub scheduled_of : Result Day Refusal → Result ℕ Refusal → Result ℕ Refusal → Result Scheduled Refusal
scheduled_of (Ok Workday) a b = in_plan Workday a
scheduled_of (Ok Restday) a b = in_plan Restday b
scheduled_of (Err r) a b = Err r

-- the call and its companion agree: 18 and 19 in this order, then the lookup and its companion in the plan for the time alone, whatever the tables of the
-- other plan are. The first plan's tables are starts and members, the second's starts' and members'
pub record Agree (t : Time) (w : Window) (k : ℕ) (starts members starts' members' : List ℕ) (part : List ℕ) (answer : Result Scheduled Refusal) : Type 0 where
  pub no_date : (T (date_fits t) → ⊥) → answer ≡ Err (refusal 18)
  pub no_minutes : T (date_fits t) → (T (minutes_fit t w) → ⊥) → answer ≡ Err (refusal 19)
  pub workday : T (date_fits t) → T (minutes_fit t w) → plan_at t w ≡ Workday
      → (part ≡ members_of starts members k) × (answer ≡ in_plan Workday (looked_of starts members k))
  pub restday : T (date_fits t) → T (minutes_fit t w) → plan_at t w ≡ Restday
      → (part ≡ members_of starts' members' k) × (answer ≡ in_plan Restday (looked_of starts' members' k))
  -- and back: a plan is named only where it is the one for the time, with the count of the part's members; a refusal is one of three and leaves the part empty
  pub in_workday : (n : ℕ) → answer ≡ found_in Workday n → (choice_of t w ≡ Ok Workday) × (n ≡ length part)
  pub in_restday : (n : ℕ) → answer ≡ found_in Restday n → (choice_of t w ≡ Ok Restday) × (n ≡ length part)
  pub refused : (r : Refusal) → answer ≡ Err r → (part ≡ []) × ((r ≡ refusal 18) ⊎ ((r ≡ refusal 19) ⊎ (r ≡ refusal 14)))

abbrev pub Agreement : Type 0
Agreement =
    (t : Time) (w : Window) (k : ℕ) (starts members starts' members' : List ℕ)
    → Agree t w k starts members starts' members' (part_of (choice_of t w) (members_of starts members k) (members_of starts' members' k))
    (scheduled_of (choice_of t w) (looked_of starts members k) (looked_of starts' members' k))
