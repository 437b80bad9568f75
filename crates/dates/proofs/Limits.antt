-- What the test of a date shows, and the bounds of the tables.
--
--     Exists, exists_parts, parts_exist    the six parts of `date_exists`, that they hold where it does, and the other way
--     exists_true                          they hold where the code's test says so
--     Each, months                         a fact of each of the twelve months is a fact of every month
--     length_1, length_31, day_31          each month has from 1 to 31 days, so no day is above 31
--     count_337                            no day count is above 337
--     march_year_le                        the year that begins with March is no later one
--     number_small                         the day number of a date that exists fits 32 bits, and so does one more
use Prim.Native.Nat.{ℕ, zero, suc, ◌-◌, ◌≤◌, ◌<◌}
use native.Mathlib.Omega.{arith}
use mathlib.Core.Path.{◌≡◌, sym, subst}
use mathlib.Core.Logic.{⊎_elim}
use mathlib.Core.Bool.{Bool, true, false, ◌&&◌, cond}
use lib.Dec.{T, leb, ltb, leb→le, le→leb}
use borrow.Author.Tests.{ltb-false}
use Rattle.sets.specs.Below.{any}
use Rattle.sets.proofs.Tests.{and_make, and_left, and_right, T_false, below, any_none}
use Rattle.dates.specs.Dates.{first_year, last_year, is_leap, month_length, date_exists, count_before, march_year, march_month, days_before, day_number}

pub record Exists (y m d : ℕ) : Type 0 where
  pub month_from : 1 ≤ m
  pub month_to : m ≤ 12
  pub year_from : first_year ≤ y
  pub year_to : y ≤ last_year
  pub day_from : 1 ≤ d
  pub day_to : d ≤ month_length y m

pub exists_parts : (y m d : ℕ) → T (date_exists y m d) → Exists y m d
unfolding date_exists
exists_parts y m d t1 =
    let t2 = and_right (leb 1 m) _ t1 in
    let t3 = and_right (leb m 12) _ t2 in
    let t4 = and_right (leb first_year y) _ t3 in
    let t5 = and_right (leb y last_year) _ t4 in
    record {
      month_from = leb→le 1 m (and_left (leb 1 m) _ t1);
      month_to = leb→le m 12 (and_left (leb m 12) _ t2);
      year_from = leb→le first_year y (and_left (leb first_year y) _ t3);
      year_to = leb→le y last_year (and_left (leb y last_year) _ t4);
      day_from = leb→le 1 d (and_left (leb 1 d) _ t5);
      day_to = leb→le d (month_length y m) (and_right (leb 1 d) _ t5);
    }

pub parts_exist : (y m d : ℕ) → Exists y m d → T (date_exists y m d)
unfolding date_exists
parts_exist y m d e =
    and_make (leb 1 m) _ (le→leb 1 m e.month_from)
    (and_make (leb m 12) _ (le→leb m 12 e.month_to)
    (and_make (leb first_year y) _ (le→leb first_year y e.year_from)
    (and_make (leb y last_year) _ (le→leb y last_year e.year_to)
    (and_make (leb 1 d) _ (le→leb 1 d e.day_from) (le→leb d (month_length y m) e.day_to)))))

infixr 5 ◌⨾◌
-- a fact of each number below n, the highest first
pub data Each (P : ℕ → Type 0) : ℕ → Type 0 where
  end : Each P zero
  ◌⨾◌ : {n : ℕ} → P n → Each P n → Each P (suc n)

each : (n : ℕ) (P : ℕ → Type 0) → Each P n → (k : ℕ) → k < n → P k
each zero P end k h = absurd (omega arith)
each (suc n) P (p ⨾ ps) k h = ⊎_elim (λ e. rw e p) (λ l. each n P ps k l) (below h)

-- December first
pub months : (P : ℕ → Type 0) → Each (λ k. P (suc k)) 12 → (m : ℕ) → 1 ≤ m → m ≤ 12 → P m
months P t zero a b = absurd (omega arith)
months P t (suc k) a b = each 12 (λ k. P (suc k)) t k (omega arith)

-- between 1 and 31, by the test
abbrev fits_month : ℕ → Bool
fits_month n = leb 1 n && leb n 31

february_fits : (b : Bool) → T (fits_month (cond b 29 28))
february_fits true = tt
february_fits false = tt

length_fits : (y m : ℕ) → 1 ≤ m → m ≤ 12 → T (fits_month (month_length y m))
unfolding month_length
length_fits y m a b =
    months (λ m. T (fits_month (month_length y m))) (tt ⨾ tt ⨾ tt ⨾ tt ⨾ tt ⨾ tt ⨾ tt ⨾ tt ⨾ tt ⨾ tt ⨾ february_fits (is_leap y) ⨾ tt ⨾ end) m a b

pub length_1 : (y m : ℕ) → 1 ≤ m → m ≤ 12 → 1 ≤ month_length y m
length_1 y m a b = leb→le 1 (month_length y m) (and_left (leb 1 (month_length y m)) (leb (month_length y m) 31) (length_fits y m a b))

pub length_31 : (y m : ℕ) → 1 ≤ m → m ≤ 12 → month_length y m ≤ 31
length_31 y m a b = leb→le (month_length y m) 31 (and_right (leb 1 (month_length y m)) (leb (month_length y m) 31) (length_fits y m a b))

pub count_337 : (k : ℕ) → k < 12 → count_before k ≤ 337
unfolding any
count_337 k h = ltb-false _ _ (T_false _ (any_none 12 (λ k. ltb 337 (count_before k)) tt k h))

pub exists_true : (y m d : ℕ) → date_exists y m d ≡ true → Exists y m d
exists_true y m d e = exists_parts y m d (subst T (sym e) tt)

pub day_31 : (y m d : ℕ) → Exists y m d → d ≤ 31
day_31 y m d e = omega (arith, e, length_31 y m e.month_from e.month_to)

pub march_year_le : (y m : ℕ) → march_year y m ≤ y
march_year_le y m = go (ltb m 3)
  where
    go : (b : Bool) → cond b (y - 1) y ≤ y
    go true = omega arith
    go false = omega arith

days_before_small : (y : ℕ) → y ≤ last_year → days_before y ≤ 3700000
unfolding days_before
days_before_small y h = omega arith

pub number_small : (y m d : ℕ) → date_exists y m d ≡ true → day_number y m d ≤ 3800000
unfolding day_number
number_small y m d t =
    let e = exists_true y m d t in
    let h = days_before_small (march_year y m) (omega (arith, e, march_year_le y m)) in
    omega (arith, h, day_31 y m d e, count_337 (march_month m) (omega arith))
