-- Laws of a scan of the records from 0 up, which stops at the first bad one: what its loop keeps, and what the reader makes of its answer.
--
--     scan_none, scan_more                     no record passed was bad: at the start, and after one more
--     scan_found, scan_ended                   so the place where the scan stops is `find`; first_found, first_ended: the same as an option
--     first_some, first_nothing                what an option of `first` says
--     each_no, each_yes                        a question to each record, by its first no
use Rattle.std.specs.Prelude.{Err, Result, Option, Some, None}
use Prim.Native.Nat.{ℕ, ◌+◌, ◌<◌}
use native.Mathlib.Numerals.{add-one}
use mathlib.Core.Path.{◌≡◌, sym, ◌∙◌, subst}
use mathlib.Core.Bool.{Bool, true, false, ◌||◌, not, cond}
use lib.Dec.{T}
use Rattle.sets.specs.Below.{any, find, first}
use Rattle.sets.proofs.Tests.{any_make, none_any, find_none, find_is, first_is, first_none, T_true}
use Rattle.image.specs.Questions.{ask, ask_each}
use Rattle.image.specs.declared.Header.{Header}
use Rattle.image.specs.declared.Refusal.{Refusal}
use Rattle.image.proofs.Acceptance.{go_on_each}

pub scan_none : (f : ℕ → Bool) → T (not (any 0 f))
unfolding any
scan_none f = tt

pub scan_more : (f : ℕ → Bool) (k : ℕ) → T (not (any k f)) → f k ≡ false → T (not (any (k + 1) f))
unfolding any
scan_more f k t e = rw (add-one k) (subst (λ (b : Bool). T (not (b || any k f))) (sym e) t)

pub scan_found : (n : ℕ) (f : ℕ → Bool) (k : ℕ) → k < n → T (not (any k f)) → f k ≡ true → k ≡ find n f
scan_found n f k h t e = sym (find_is n f k h (subst T (sym e) tt) t)

pub scan_ended : (n : ℕ) (f : ℕ → Bool) (k : ℕ) → k ≡ n → T (not (any k f)) → k ≡ find n f
scan_ended n f k e t = e ∙ sym (find_none n f (subst (λ (x : ℕ). T (not (any x f))) e t))

-- the same as an option
pub first_found : (n : ℕ) (f : ℕ → Bool) (k : ℕ) → k < n → T (not (any k f)) → f k ≡ true → Some k ≡ first n f
first_found n f k h t e = sym (first_is n f k h (subst T (sym e) tt) t)

pub first_ended : (n : ℕ) (f : ℕ → Bool) (k : ℕ) → k ≡ n → T (not (any k f)) → None ≡ first n f
first_ended n f k e t = sym (first_none n f (subst (λ (x : ℕ). T (not (any x f))) e t))

pub first_some : (n : ℕ) (f : ℕ → Bool) (k : ℕ) → first n f ≡ Some k → T (any n f) × (find n f ≡ k)
unfolding first
first_some n f k e = go (any n f) e
  where
    go : (a : Bool) → cond a (Some (find n f)) None ≡ Some k → T a × (find n f ≡ k)
    go true e = (tt, cc)
    go false e = absurd cc

pub first_nothing : (n : ℕ) (f : ℕ → Bool) → first n f ≡ None → T (not (any n f))
unfolding first
first_nothing n f e = go (any n f) e
  where
    go : (a : Bool) → ◌≡◌ {A = Option ℕ} (cond a (Some (find n f)) None) None → T (not a)
    go true e = cc
    go false e = tt

-- ---- a question to each record: the first no, or a yes
module _ (n : ℕ) (bad : ℕ → Bool) (number : ℕ) (next : Result Header Refusal) where
  pub each_yes : ((k : ℕ) → k < n → bad k ≡ false) → ask_each n bad number next ≡ next
  each_yes none = go_on_each n bad number next (λ k h. subst (λ (b : Bool). T (not b)) (sym (none k h)) tt)

  pub each_no : (r : Refusal) → r.number ≡ number → r.place < n → bad r.place ≡ true → ((k : ℕ) → k < r.place → bad k ≡ false) → ask_each n bad number next ≡ Err r
  unfolding ask_each ask
  each_no r e h b before =
      let t : T (bad r.place) = subst T (sym b) tt in
      let none : T (not (any r.place bad)) = none_any r.place bad (λ k l. subst (λ (x : Bool). T (not x)) (sym (before k l)) tt) in
      rw (T_true (any n bad) (any_make n bad r.place h t), find_is n bad r.place h t none, ← e)
