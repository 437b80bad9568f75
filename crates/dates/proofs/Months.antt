-- Day numbers, month by month.
--
--     year_step         from 1 March of a year to the next there are 337 days and the February between
--     month_turns       the first of a month has the day number after the last day of the month before
--     start, days       the day number of a month's first, and the month's length, the months counted on from January of the year 0
--     start_later       a later month starts after the last day of an earlier one
--     later, one_date   of two dates that exist the later has the higher number, and no number is that of two dates
use Prim.Native.Nat.{ℕ, zero, suc, ◌+◌, ◌*◌, ◌-◌, ◌/◌, ◌%◌, ◌≤◌, ◌<◌}
use native.Mathlib.Nat.{div-add-mod', suc-mul, mod-lt}
use native.Mathlib.Omega.{arith}
use native.Mathlib.Decide.{dec_le}
use mathlib.Core.Path.{◌≡◌, refl, ◌∙◌}
use mathlib.Core.Bool.{Bool, true, false, cond}
use mathlib.Core.Logic.{◌⊎◌, ⊎_elim}
use lib.Arith.{digits_div, digits_mod}
use lib.Dec.{eqb, ltb}
use borrow.Author.Tests.{eqb-true, eqb-false, ltb-true, ltb-false}
use Rattle.sets.specs.Below.{bit}
use Rattle.sets.proofs.Tests.{T_false, eqb_not}
use Rattle.dates.specs.Dates.{is_leap, month_length, days_before, day_number}
use Rattle.dates.specs.Calendar.{Earlier}
use Rattle.dates.proofs.Limits.{Exists, end, ◌⨾◌, months}

-- The years

-- a quotient goes up by one where the divisor divides the next number, and stays where it does not
quotient : (c x : ℕ) → 0 < c → suc x / c ≡ x / c + bit (eqb (suc x % c) 0)
quotient c x h = go (dec_le c (suc (x % c)))
  where
    whole : x / c * c + x % c ≡ x
    whole = div-add-mod' x c

    go : Dec (c ≤ suc (x % c)) → suc x / c ≡ x / c + bit (eqb (suc x % c) 0)
    go (yes l) =
        let e : suc x ≡ suc (x / c) * c + 0 = omega (arith, whole, suc-mul (x / c) c, mod-lt x h) in
        rw (e, digits_div (suc (x / c)) h, digits_mod (suc (x / c)) h) (omega arith)
    go (no l) =
        let e : suc x ≡ x / c * c + suc (x % c) = omega (arith, whole) in
        let r : suc (x % c) < c = omega arith in
        rw (e, digits_div (x / c) r, digits_mod (x / c) r, T_false (eqb (suc (x % c)) 0) (eqb_not (suc (x % c)) 0 (λ z. omega arith))) (omega arith)

multiple_4 : (y : ℕ) → y % 100 ≡ 0 → y % 4 ≡ 0
multiple_4 y h = omega arith

multiple_100 : (y : ℕ) → y % 400 ≡ 0 → y % 100 ≡ 0
multiple_100 y h = omega arith

fewer : (y : ℕ) → y / 100 ≤ y / 4
fewer y = omega arith

-- the sum of a year's quotients and that of the next's, over plain numbers
sums : (x a b c a' b' c' i j k february : ℕ) → b ≤ a → b' ≤ a' → a' ≡ a + i → b' ≡ b + j → c' ≡ c + k → february + j ≡ 28 + i + k
    → 365 * suc x + (a' + c' - b') ≡ 365 * x + (a + c - b) + (337 + february)
sums x a b c a' b' c' i j k february h h' ea eb ec e = omega arith

-- 29 in a leap year, over the three tests
february_29 : (y : ℕ) (a b c : Bool) → eqb (y % 4) 0 ≡ a → eqb (y % 100) 0 ≡ b → eqb (y % 400) 0 ≡ c → month_length y 2 + bit b ≡ 28 + bit a + bit c
unfolding is_leap month_length
february_29 y true true true p q r = simp (p, q, r)
february_29 y true true false p q r = simp (p, q, r)
february_29 y true false false p q r = simp (p, q, r)
february_29 y false false false p q r = simp (p, q, r)
february_29 y a false true p q r = absurd (eqb-false _ _ q (multiple_100 y (eqb-true _ _ r)))
february_29 y false true c p q r = absurd (eqb-false _ _ p (multiple_4 y (eqb-true _ _ q)))

pub year_step : (x : ℕ) → days_before (suc x) ≡ days_before x + (337 + month_length (suc x) 2)
unfolding days_before
year_step x =
    let a = eqb (suc x % 4) 0 in
    let b = eqb (suc x % 100) 0 in
    let c = eqb (suc x % 400) 0 in
    sums x (x / 4) (x / 100) (x / 400) (suc x / 4) (suc x / 100) (suc x / 400) (bit a) (bit b) (bit c) (month_length (suc x) 2) (fewer x) (fewer (suc x))
    (quotient 4 x (omega arith)) (quotient 100 x (omega arith)) (quotient 400 x (omega arith)) (february_29 (suc x) a b c refl refl refl)

-- The months

-- month m of the year y ends: the day number of the next month's first is one higher
abbrev pub Turn : ℕ → ℕ → Type 0
Turn y m = day_number (cond (eqb m 12) (y + 1) y) (cond (eqb m 12) 1 (m + 1)) 1 ≡ day_number y m (month_length y m) + 1

turn_february : (y : ℕ) → 1 ≤ y → Turn y 2
unfolding day_number
turn_february zero h = absurd (omega arith)
turn_february (suc x) h = let e : suc x - 1 ≡ x = omega arith in rw e (omega (arith, year_step x))

turn_december : (y : ℕ) → Turn y 12
unfolding day_number month_length
turn_december y = let e : y + 1 - 1 ≡ y = omega arith in rw e (omega arith)

pub month_turns : (y m : ℕ) → 1 ≤ y → 1 ≤ m → m ≤ 12 → Turn y m
unfolding day_number month_length
month_turns y m h a b =
    months (λ m. Turn y m)
    (turn_december y ⨾ omega arith ⨾ omega arith ⨾ omega arith ⨾ omega arith ⨾ omega arith ⨾ omega arith ⨾ omega arith ⨾ omega arith ⨾ omega arith
    ⨾ turn_february y h ⨾ omega arith ⨾ end)
    m a b

-- The order of the dates

-- month number i, from January of the year 0 on: the day number of its first, and its length
start : ℕ → ℕ
start i = day_number (i / 12) (i % 12 + 1) 1

days : ℕ → ℕ
days i = month_length (i / 12) (i % 12 + 1)

first_day : (y m d : ℕ) → day_number y m d + 1 ≡ day_number y m 1 + d
unfolding day_number
first_day y m d = omega arith

start_suc : (i : ℕ) → 12 ≤ i → start (suc i) ≡ start i + days i
unfolding start days
start_suc i h = go (eqb (i % 12 + 1) 12) refl
  where
    t : Turn (i / 12) (i % 12 + 1)
    t = month_turns (i / 12) (i % 12 + 1) (omega arith) (omega arith) (omega arith)

    go : (b : Bool) → eqb (i % 12 + 1) 12 ≡ b → start (suc i) ≡ start i + days i
    go true e =
        let l : i % 12 + 1 ≡ 12 = eqb-true _ _ e in
        let y : suc i / 12 ≡ i / 12 + 1 = omega arith in
        let m : suc i % 12 + 1 ≡ 1 = omega arith in
        rw (y, m) (simp e at t ∙ first_day (i / 12) (i % 12 + 1) (month_length (i / 12) (i % 12 + 1)))
    go false e =
        let l : i % 12 + 1 ≡ 12 → ⊥ = eqb-false _ _ e in
        let y : suc i / 12 ≡ i / 12 = omega arith in
        let m : suc i % 12 + 1 ≡ i % 12 + 1 + 1 = omega arith in
        rw (y, m) (simp e at t ∙ first_day (i / 12) (i % 12 + 1) (month_length (i / 12) (i % 12 + 1)))

start_later : (i k : ℕ) → 12 ≤ i → start i + days i ≤ start (i + suc k)
start_later i zero h = let e : i + 1 ≡ suc i = omega arith in rw e (omega (arith, start_suc i h))
start_later i (suc k) h =
    let e : i + suc (suc k) ≡ suc (i + suc k) = omega arith in
    rw e (omega (arith, start_suc (i + suc k) (omega arith), start_later i k h))

-- the number of a date's month
abbrev month_of : ℕ → ℕ → ℕ
month_of y m = 12 * y + (m - 1)

module _ {y m d : ℕ} (s : Exists y m d) where
  month_named : (month_of y m / 12 ≡ y) × (month_of y m % 12 + 1 ≡ m)
  month_named = omega (arith, s)

  in_month : day_number y m d + 1 ≡ start (month_of y m) + d
  unfolding start
  in_month = rw (month_named.0, month_named.1) (first_day y m d)

  to_the_end : d ≤ days (month_of y m)
  unfolding days
  to_the_end = rw (month_named.0, month_named.1) s.day_to

earlier_month : {y m d y' m' d' : ℕ} → Exists y m d → Exists y' m' d' → month_of y m < month_of y' m' → day_number y m d < day_number y' m' d'
earlier_month {y} {m} {d} {y'} {m'} {d'} s s' h =
    let k = month_of y' m' - month_of y m - 1 in
    let e : month_of y m + suc k ≡ month_of y' m' = omega arith in
    let l : start (month_of y m) + days (month_of y m) ≤ start (month_of y' m') = rw e at (start_later (month_of y m) k (omega (arith, s.year_from))) in
    omega (arith, in_month s, to_the_end s, in_month s', s'.day_from, l)

earlier_day : (y m d d' : ℕ) → d < d' → day_number y m d < day_number y m d'
earlier_day y m d d' h = omega (arith, first_day y m d, first_day y m d')

pub later : (y m d y' m' d' : ℕ) → Exists y m d → Exists y' m' d' → Earlier y m d y' m' d' → day_number y m d < day_number y' m' d'
later y m d y' m' d' s s' e = ⊎_elim
    (λ (h : y < y'). earlier_month s s' (omega (arith, s.month_to, s'.month_from)))
    (λ (p : (y ≡ y') × ((m < m') ⊎ ((m ≡ m') × (d < d')))). ⊎_elim
    (λ (h : m < m'). earlier_month s s' (omega (arith, s.month_from, s'.month_from, p.0)))
    (λ (q : (m ≡ m') × (d < d')). rw (← p.0, ← q.0) (earlier_day y m d d' q.1))
    p.1)
    e

-- two months, or the same
by_month : {y m d y' m' d' : ℕ} (s : Exists y m d) (s' : Exists y' m' d') → day_number y m d ≡ day_number y' m' d'
    → (a b : Bool) → ltb (month_of y m) (month_of y' m') ≡ a → ltb (month_of y' m') (month_of y m) ≡ b → (y ≡ y') × (m ≡ m') × (d ≡ d')
by_month {y} {m} {d} {y'} {m'} {d'} s s' e true b p q = absurd (omega (arith, earlier_month s s' (ltb-true _ _ p)))
by_month {y} {m} {d} {y'} {m'} {d'} s s' e false true p q = absurd (omega (arith, earlier_month s' s (ltb-true _ _ q)))
by_month {y} {m} {d} {y'} {m'} {d'} s s' e false false p q =
    let same : month_of y m ≡ month_of y' m' = omega (arith, ltb-false (month_of y m) (month_of y' m') p, ltb-false (month_of y' m') (month_of y m) q) in
    let i : day_number y m d + 1 ≡ start (month_of y' m') + d = rw same at (in_month s) in (
      omega (arith, s.month_from, s.month_to, s'.month_from, s'.month_to),
      omega (arith, s.month_from, s.month_to, s'.month_from, s'.month_to),
      omega (arith, i, in_month s'),
    )

pub one_date : (y m d y' m' d' : ℕ) → Exists y m d → Exists y' m' d' → day_number y m d ≡ day_number y' m' d' → (y ≡ y') × (m ≡ m') × (d ≡ d')
one_date y m d y' m' d' s s' e = by_month s s' e (ltb (month_of y m) (month_of y' m')) (ltb (month_of y' m') (month_of y m)) refl refl
