-- What is proved of the dates (proofs/Calendar, as `calendar`).
--
--     ends_month y m d                      the date is the last of its month
--     next_year, next_month, next_day y m d   the date after it, as a calendar has it: month ends, 28 and 29 February, the year's end
--     Earlier y m d y' m' d'               the first date comes before the second
--     Calendar                             the theorems: the next date has the next number and the next weekday, the weekday follows from the number, dates
--                                          and numbers go in the same order, the dates that paper 02 names, some day numbers, the months of one year
use Rattle.std.specs.Prelude.{ℕ, ◌+◌, ◌%◌, ◌<◌, ◌≤◌, ◌≡◌, Bool, ◌&&◌, cond, [], ◌∷◌, map, ◌⊎◌, T, eqb}
use Rattle.dates.specs.Dates.{last_year, month_length, date_exists, day_number, weekday_number, day_number_of, weekday_of}

unfoldable pub ends_month : ℕ → ℕ → ℕ → Bool
unfolding month_length
ends_month y m d = eqb d (month_length y m)

unfoldable pub next_year : ℕ → ℕ → ℕ → ℕ
unfolding ends_month
next_year y m d = cond (ends_month y m d && eqb m 12) (y + 1) y

unfoldable pub next_month : ℕ → ℕ → ℕ → ℕ
unfolding ends_month
next_month y m d = cond (ends_month y m d) (cond (eqb m 12) 1 (m + 1)) m

unfoldable pub next_day : ℕ → ℕ → ℕ → ℕ
unfolding ends_month
next_day y m d = cond (ends_month y m d) 1 (d + 1)

abbrev pub Earlier : ℕ → ℕ → ℕ → ℕ → ℕ → ℕ → Type 0
Earlier y m d y' m' d' = (y < y') ⊎ ((y ≡ y') × ((m < m') ⊎ ((m ≡ m') × (d < d'))))

pub record Calendar : Type 0 where
  -- the answers for a date that exists: its day number, and the weekday that follows from that number; and for one that does not
  pub number : (y m d : ℕ) → T (date_exists y m d) → day_number_of y m d ≡ day_number y m d
  pub weekday : (y m d : ℕ) → T (date_exists y m d) → weekday_of y m d ≡ weekday_number (day_number y m d)
  pub no_number : (y m d : ℕ) → (T (date_exists y m d) → ⊥) → day_number_of y m d ≡ 0
  pub no_weekday : (y m d : ℕ) → (T (date_exists y m d) → ⊥) → weekday_of y m d ≡ 7
  -- 1 March of the year 0 has number 1; the first date, 1 January 2000, 29 February 2024 with the day after it, and the last date
  pub first_number : day_number 0 3 1 ≡ 1
  pub numbers : (day_number_of 1600 1 1 ≡ 584329) × (day_number_of 2000 1 1 ≡ 730426) × (day_number_of 2024 2 29 ≡ 739251) × (day_number_of 2024 3 1 ≡ 739252)
      × (day_number_of 9999 12 31 ≡ 3652365)
  -- the calendar's next date has the next day number
  pub next_number : (y m d : ℕ) → T (date_exists y m d)
      → day_number (next_year y m d) (next_month y m d) (next_day y m d) ≡ day_number y m d + 1
  -- and exists, except after the last year's end
  pub next_exists : (y m d : ℕ) → T (date_exists y m d) → next_year y m d ≤ last_year
      → T (date_exists (next_year y m d) (next_month y m d) (next_day y m d))
  -- and has the next weekday, Monday after Sunday
  pub next_weekday : (y m d : ℕ) → T (date_exists y m d) → next_year y m d ≤ last_year
      → weekday_of (next_year y m d) (next_month y m d) (next_day y m d) ≡ (weekday_of y m d + 1) % 7
  -- a later date has a higher number, and no number is that of two dates
  pub later : (y m d y' m' d' : ℕ) → T (date_exists y m d) → T (date_exists y' m' d') → Earlier y m d y' m' d' → day_number y m d < day_number y' m' d'
  pub one_date : (y m d y' m' d' : ℕ) → T (date_exists y m d) → T (date_exists y' m' d') → day_number y m d ≡ day_number y' m' d'
      → (y ≡ y') × (m ≡ m') × (d ≡ d')
  -- 29 February 2024 is a Thursday, 1 January 2000 a Saturday; 29 February 1900 does not exist
  pub thursday : weekday_of 2024 2 29 ≡ 3
  pub saturday : weekday_of 2000 1 1 ≡ 5
  pub no_such_day : T (date_exists 1900 2 29) → ⊥
  -- the first of each month of 2023, January to December: Sunday, Wednesday, Wednesday, Saturday, Monday, Thursday, Saturday, Tuesday, Friday, Sunday,
  -- Wednesday, Friday
  pub firsts : map (λ m. weekday_of 2023 m 1) (1 ∷ 2 ∷ 3 ∷ 4 ∷ 5 ∷ 6 ∷ 7 ∷ 8 ∷ 9 ∷ 10 ∷ 11 ∷ 12 ∷ []) ≡ 6 ∷ 2 ∷ 2 ∷ 5 ∷ 0 ∷ 3 ∷ 5 ∷ 1 ∷ 4 ∷ 6 ∷ 2 ∷ 4 ∷ []
