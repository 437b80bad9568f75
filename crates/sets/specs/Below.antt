-- Tests over the numbers below a bound.
--
--     any n f       whether some v below n passes f
--     bit b         1 for a test that passes, 0 for one that does not
--     count n f     how many v below n pass f
--     sum n f       f 0 + .. + f (n - 1)
--     select n f    the v below n that pass f, ascending
--     find n f      the least v below n that passes f, or n where none does
--     first n f     the same as an option: Some of the least v below n that passes f, None where none does
--
-- Each over a bound goes from the top, so that a loop that has come to n goes on to n + 1 by one clause. The laws are in proofs/: Tests, Counting, Selecting.
use Rattle.std.specs.Prelude.{ℕ, zero, suc, ◌+◌, Bool, true, false, ◌||◌, cond, List, [], ◌∷◌, ◌++◌, Option, Some, None}

unfoldable pub any : ℕ → (ℕ → Bool) → Bool
any zero f = false
any (suc n) f = f n || any n f

abbrev pub bit : Bool → ℕ
bit true = 1
bit false = 0

unfoldable pub count : ℕ → (ℕ → Bool) → ℕ
count zero f = 0
count (suc n) f = bit (f n) + count n f

unfoldable pub sum : ℕ → (ℕ → ℕ) → ℕ
sum zero f = 0
sum (suc n) f = f n + sum n f

unfoldable pub select : ℕ → (ℕ → Bool) → List ℕ
select zero f = []
select (suc n) f = select n f ++ cond (f n) (n ∷ []) []

unfoldable pub find : ℕ → (ℕ → Bool) → ℕ
unfolding any
find zero f = 0
find (suc n) f = cond (any n f) (find n f) (cond (f n) n (suc n))

unfoldable pub first : ℕ → (ℕ → Bool) → Option ℕ
unfolding any find
first n f = cond (any n f) (Some (find n f)) None
