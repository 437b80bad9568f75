-- How long a text can be: a decimal, and the members of a set.
--
--     decimal_most      a decimal has at most 20 digits; decimal_short: one of a number below 1,000 at most 3
--     members_most      the members of a set, each after a space, take at most four bytes each
use Prim.Native.Nat.{ℕ, zero, suc, ◌+◌, ◌*◌, ◌%◌, ◌/◌, ◌≤◌, ◌<◌}
use native.Mathlib.Omega.{arith}
use native.Mathlib.Numerals.{add-one}
use mathlib.Core.Path.{sym, ap, ◌∙◌}
use mathlib.Core.Logic.{⊎_elim}
use mathlib.Core.Bool.{Bool, true, false, cond}
use mathlib.Core.List.{[], ◌∷◌, ◌++◌}
use lib.Dec.{ltb}
use lib.ListN.{length, length-append}
use Rattle.std.proofs.lemmas.Fmt.{length-decimal-le}
use Rattle.sets.specs.Below.{select}
use Rattle.sets.proofs.Tests.{decide}
use Rattle.sets.proofs.Selecting.{select_yes, select_no}
use Rattle.text.specs.Text.{digits_of, decimal, numbers}
use Rattle.text.proofs.Decimal.{decimal_is}
use Rattle.text.proofs.Writing.{members_yes, members_no}

digits_most : (k n : ℕ) → length (digits_of k n) ≤ k
unfolding digits_of
digits_most zero n = omega arith
digits_most (suc k) n = pick (ltb n 10) (digits_most k (n / 10))
  where
    pick : (b : Bool) → length (digits_of k (n / 10)) ≤ k → length (cond b ((48 + n) ∷ []) (digits_of k (n / 10) ++ ((48 + n % 10) ∷ []))) ≤ suc k
    pick true h = omega arith
    pick false h = omega (arith, length-append (digits_of k (n / 10)) ((48 + n % 10) ∷ []))

pub decimal_most : (n : ℕ) → length (decimal n) ≤ 20
unfolding decimal
decimal_most n = digits_most 20 n

pub decimal_short : (n : ℕ) → n < 1000 → length (decimal n) ≤ 3
decimal_short n h = rw (decimal_is n (omega arith)) (length-decimal-le 3 n (omega arith) (omega arith) (omega arith))

pub members_most : (n : ℕ) (f : ℕ → Bool) → n ≤ 1000 → length (numbers (select n f)) ≤ 4 * length (select n f)
unfolding numbers select
members_most zero f h = omega arith
members_most (suc n) f h =
    let before = members_most n f (omega arith) in
    ⊎_elim
    (λ t.
    omega (
      arith,
      before,
      decimal_short n (omega arith),
      ap length (ap (λ (k : ℕ). numbers (select k f)) (sym (add-one n)) ∙ members_yes f n t),
      length-append (numbers (select n f)) (32 ∷ decimal n),
      ap length (select_yes n f t),
      length-append (select n f) (n ∷ []),
    ))
    (λ t. omega (arith, before, ap length (ap (λ (k : ℕ). numbers (select k f)) (sym (add-one n)) ∙ members_no f n t), ap length (select_no n f t)))
    (decide (f n))
