-- The decimal digits of a number of 64 bits are what the library writes of it.
--
--     decimal_is                                 the same digits
--     decimal_one, decimal_two, decimal_three    a number below 10, below 100 and below 1,000
use Prim.Native.Nat.{ℕ, ◌+◌, ◌/◌, ◌%◌, ◌^◌, ◌≤◌, ◌<◌}
use mathlib.Core.List.{List, [], ◌∷◌, ◌++◌}
use mathlib.Core.Path.{◌≡◌, sym, ap, ◌∙◌}
use native.Mathlib.Omega.{arith}
use borrow.Author.Tests.{lt-ltb, le-ltb}
use Rattle.std.specs.Fmt.{decimal as printed}
use Rattle.std.proofs.lemmas.Fmt.{AppendsLastDigit, decimal_from_appends, decimal_digit, decimal_step, length-decimal-le}
use Rattle.text.specs.Text.{digits_of, decimal}

appends : AppendsLastDigit digits_of
unfolding digits_of
appends = record { one = λ k n h. simp (lt-ltb _ _ h); more = λ k n h. simp (le-ltb _ _ h) }

pub decimal_is : (n : ℕ) → n < 2 ^ 64 → decimal n ≡ printed n
unfolding decimal
decimal_is n h = decimal_from_appends digits_of appends 20 n h (length-decimal-le 20 n (omega arith) (omega arith) h)

pub decimal_one : (n : ℕ) → n < 10 → decimal n ≡ (48 + n % 10) ∷ []
decimal_one n h = rw (decimal_is n (omega arith), decimal_digit n h) (ap (λ (d : ℕ). (48 + d) ∷ []) (omega arith))

pub decimal_two : (n : ℕ) → 10 ≤ n → n < 100 → decimal n ≡ ((48 + n / 10 % 10) ∷ []) ++ ((48 + n % 10) ∷ [])
decimal_two n l h =
    decimal_is n (omega arith) ∙ decimal_step n l (omega arith)
    ∙ ap (λ (d : List ℕ). d ++ ((48 + n % 10) ∷ [])) (sym (decimal_is (n / 10) (omega arith)) ∙ decimal_one (n / 10) (omega arith))

pub decimal_three : (n : ℕ) → 100 ≤ n → n < 1000 → decimal n ≡ ((48 + n / 100) ∷ []) ++ (((48 + n / 10 % 10) ∷ []) ++ ((48 + n % 10) ∷ []))
decimal_three n l h =
    let tens : n / 10 / 10 % 10 ≡ n / 100 = omega arith in
    decimal_is n (omega arith) ∙ decimal_step n (omega arith) (omega arith)
    ∙ ap (λ (d : List ℕ). d ++ ((48 + n % 10) ∷ [])) (sym (decimal_is (n / 10) (omega arith)) ∙ decimal_two (n / 10) (omega arith) (omega arith))
    ∙ ap (λ (d : ℕ). (48 + d) ∷ (48 + n / 10 % 10) ∷ (48 + n % 10) ∷ []) tens
