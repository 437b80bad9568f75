-- The day number follows the calendar: everything that specs/Calendar states.
--
--     calendar     all of `Calendar`, field by field
use Prim.Native.Nat.{ℕ, ◌+◌, ◌%◌, ◌≤◌}
use native.Mathlib.Omega.{arith}
use mathlib.Core.Path.{◌≡◌, refl}
use mathlib.Core.Bool.{Bool, true, false}
use lib.Dec.{T, eqb, not_T}
use borrow.Author.Tests.{eqb-true, eqb-false}
use Rattle.sets.proofs.Tests.{T_true, T_false}
use Rattle.dates.specs.Dates.{is_leap, month_length, last_year, date_exists, days_before, day_number, weekday_number, day_number_of, weekday_of}
use Rattle.dates.specs.Calendar.{ends_month, next_year, next_month, next_day, Calendar}
use Rattle.dates.proofs.Limits.{Exists, exists_parts, parts_exist, length_1}
use Rattle.dates.proofs.Months.{month_turns, later, one_date}

-- The next day

module _ (y m d : ℕ) (s : Exists y m d) where
  within : ends_month y m d ≡ false → day_number (next_year y m d) (next_month y m d) (next_day y m d) ≡ day_number y m d + 1
  unfolding next_year next_month next_day day_number
  within e = simp e (omega arith)

  at_the_end : ends_month y m d ≡ true → day_number (next_year y m d) (next_month y m d) (next_day y m d) ≡ day_number y m d + 1
  unfolding next_year next_month next_day ends_month
  at_the_end e =
      let l : d ≡ month_length y m = eqb-true _ _ e in
      simp e (rw l (month_turns y m (omega (arith, s)) s.month_from s.month_to))

  by_cases : (b : Bool) → ends_month y m d ≡ b → day_number (next_year y m d) (next_month y m d) (next_day y m d) ≡ day_number y m d + 1
  by_cases true e = at_the_end e
  by_cases false e = within e

pub next_number : (y m d : ℕ) → T (date_exists y m d) → day_number (next_year y m d) (next_month y m d) (next_day y m d) ≡ day_number y m d + 1
next_number y m d t = by_cases y m d (exists_parts y m d t) (ends_month y m d) refl

module _ (y m d : ℕ) (s : Exists y m d) (last : next_year y m d ≤ last_year) where
  within_exists : ends_month y m d ≡ false → Exists (next_year y m d) (next_month y m d) (next_day y m d)
  unfolding next_year next_month next_day ends_month
  within_exists e =
      let l : d ≡ month_length y m → ⊥ = eqb-false _ _ e in
      simp e (record {
        month_from = s.month_from;
        month_to = s.month_to;
        day_from = omega arith;
        day_to = omega (arith, s);
        year_from = s.year_from;
        year_to = s.year_to;
      })

  end_exists : ends_month y m d ≡ true → (b : Bool) → eqb m 12 ≡ b → Exists (next_year y m d) (next_month y m d) (next_day y m d)
  unfolding next_year next_month next_day ends_month
  end_exists e true f =
      let h = simp (e, f) at last in
      simp (e, f) (record {
        month_from = omega arith;
        month_to = omega arith;
        day_from = omega arith;
        day_to = length_1 (y + 1) 1 (omega arith) (omega arith);
        year_from = omega (arith, s);
        year_to = h;
      })
  end_exists e false f =
      let l : m ≡ 12 → ⊥ = eqb-false _ _ f in
      simp (e, f) (record {
        month_from = omega arith;
        month_to = omega (arith, s);
        day_from = omega arith;
        day_to = length_1 y (m + 1) (omega arith) (omega (arith, s));
        year_from = s.year_from;
        year_to = s.year_to;
      })

  next_date : (b : Bool) → ends_month y m d ≡ b → Exists (next_year y m d) (next_month y m d) (next_day y m d)
  next_date true e = end_exists e (eqb m 12) refl
  next_date false e = within_exists e

pub next_exists : (y m d : ℕ) → T (date_exists y m d) → next_year y m d ≤ last_year → T (date_exists (next_year y m d) (next_month y m d) (next_day y m d))
next_exists y m d t last = parts_exist _ _ _ (next_date y m d (exists_parts y m d t) last (ends_month y m d) refl)

weekday_is : (y m d : ℕ) → T (date_exists y m d) → weekday_of y m d ≡ weekday_number (day_number y m d)
unfolding weekday_of
weekday_is y m d t = simp (T_true (date_exists y m d) t)

pub next_weekday : (y m d : ℕ) → T (date_exists y m d) → next_year y m d ≤ last_year
    → weekday_of (next_year y m d) (next_month y m d) (next_day y m d) ≡ (weekday_of y m d + 1) % 7
next_weekday y m d t last = rw (weekday_is y m d t, weekday_is _ _ _ (next_exists y m d t last), next_number y m d t) (omega arith)

number_is : (y m d : ℕ) → T (date_exists y m d) → day_number_of y m d ≡ day_number y m d
unfolding day_number_of
number_is y m d t = simp (T_true (date_exists y m d) t)

no_number : (y m d : ℕ) → (T (date_exists y m d) → ⊥) → day_number_of y m d ≡ 0
unfolding day_number_of
no_number y m d t = simp (T_false (date_exists y m d) (not_T (date_exists y m d) t))

no_weekday : (y m d : ℕ) → (T (date_exists y m d) → ⊥) → weekday_of y m d ≡ 7
unfolding weekday_of
no_weekday y m d t = simp (T_false (date_exists y m d) (not_T (date_exists y m d) t))

-- the dates that are named are computed
pub calendar : Calendar
unfolding is_leap month_length date_exists days_before day_number day_number_of weekday_of
calendar = record {
  number = number_is;
  weekday = weekday_is;
  no_number = no_number;
  no_weekday = no_weekday;
  first_number = refl;
  numbers = (refl, refl, refl, refl, refl);
  next_number = next_number;
  next_exists = next_exists;
  next_weekday = next_weekday;
  later = λ y m d y' m' d' t t' e. later y m d y' m' d' (exists_parts y m d t) (exists_parts y' m' d' t') e;
  one_date = λ y m d y' m' d' t t' e. one_date y m d y' m' d' (exists_parts y m d t) (exists_parts y' m' d' t') e;
  thursday = refl;
  saturday = refl;
  no_such_day = λ t. t;
  firsts = refl;
}
