-- The cases of question 14, and that the lookup and its companion agree: both answers branch on the same test.
--
--     yes, no          the three answers where the question gets a yes, and where it gets a no
--     agree            the lookup and its companion agree
--     members_slice    where the question gets a yes, the part is the slice of the table from start k up to start k+1
use Rattle.std.specs.Prelude.{Err, MatchOption, None, Ok, Option, Result, Some, ⊤}
use Rattle.std.specs.declared.ops.Range.{Range}
use Prim.Native.Nat.{ℕ, zero, suc, ◌+◌, ◌-◌, ◌≤◌, ◌<◌}
use native.Mathlib.Omega.{arith}
use mathlib.Core.Path.{◌≡◌, refl, sym, ap, ◌∙◌}
use mathlib.Core.Bool.{Bool, true, false, cond}
use mathlib.Core.List.{List, [], ◌∷◌}
use lib.ListN.{length, take, drop, length-take, length-drop}
use lib.Seq.{slice}
use borrow.Author.Tests.{lt-ltb, le-ltb, le-leb, lt-leb}
use Rattle.image.specs.Answers.{refusal}
use Rattle.image.specs.declared.Refusal.{Refusal}
use Rattle.lookup.specs.Lookup.{start_of, placed, between, members_of, looked_of, Agree}
use Rattle.lookup.specs.ForProofs.{span_of}

module _ (s : List ℕ) (size k : ℕ) where
  pub placed_yes : k + 1 < length s → start_of s k ≤ start_of s (k + 1) → start_of s (k + 1) ≤ size → placed s size k ≡ true
  unfolding placed
  placed_yes a b c = simp (lt-ltb _ _ a, le-leb _ _ b, le-leb _ _ c)

  pub span_yes : placed s size k ≡ true → span_of s size k ≡ Some (record { start = start_of s k; end = start_of s (k + 1) })
  unfolding span_of
  span_yes e = simp e

  pub span_no : placed s size k ≡ false → span_of s size k ≡ None
  unfolding span_of
  span_no e = simp e

  pub span_short : length s ≤ k + 1 → span_of s size k ≡ None
  unfolding placed
  span_short a = span_no (simp (le-ltb _ _ a))

  pub span_falling : k + 1 < length s → start_of s (k + 1) < start_of s k → span_of s size k ≡ None
  unfolding placed
  span_falling a b = span_no (simp (lt-ltb _ _ a, lt-leb _ _ b))

  pub span_beyond : k + 1 < length s → start_of s k ≤ start_of s (k + 1) → size < start_of s (k + 1) → span_of s size k ≡ None
  unfolding placed
  span_beyond a b c = span_no (simp (lt-ltb _ _ a, le-leb _ _ b, lt-leb _ _ c))

module _ (starts table : List ℕ) (k : ℕ) where
  pub members_yes : placed starts (length table) k ≡ true → members_of starts table k ≡ between (start_of starts k) (start_of starts (k + 1)) table
  unfolding members_of
  members_yes e = simp e

  pub members_no : placed starts (length table) k ≡ false → members_of starts table k ≡ []
  unfolding members_of
  members_no e = simp e

  pub looked_yes : placed starts (length table) k ≡ true → looked_of starts table k ≡ Ok (length (members_of starts table k))
  unfolding looked_of
  looked_yes e = simp e

  pub looked_no : placed starts (length table) k ≡ false → looked_of starts table k ≡ Err (refusal 14)
  unfolding looked_of
  looked_no e = simp e

  -- the part, and the companion's answer, from the span that both are made of
  abbrev in_span : Option (Range ℕ) → List ℕ
  in_span (Some r) = between r.start r.end table
  in_span None = []

  abbrev counted : Option (Range ℕ) → Result ℕ Refusal
  counted (Some r) = Ok (r.end - r.start)
  counted None = Err (refusal 14)

  pub members_span : members_of starts table k ≡ in_span (span_of starts (length table) k)
  unfolding members_of span_of
  members_span = go (placed starts (length table) k)
    where
      go : (b : Bool) → cond b (between (start_of starts k) (start_of starts (k + 1)) table) [] ≡ in_span (cond b (Some (record { start = start_of starts k; end = start_of starts (k + 1) })) None)
      go true = refl
      go false = refl

  pub looked_span : (r : Option (Range ℕ)) → r ≡ span_of starts (length table) k → MatchOption r ⊤ (λ s. (s.start ≤ s.end) × (s.end ≤ length table))
      → looked_of starts table k ≡ counted r
  looked_span r d h = go (placed starts (length table) k) refl
    where
      go : (b : Bool) → placed starts (length table) k ≡ b → looked_of starts table k ≡ counted r
      go true e =
          let s = d ∙ span_yes starts (length table) k e in
          let inside : start_of starts (k + 1) ≤ length table = (rw s at h).1 in
          rw s (looked_yes e ∙ ap Ok (ap length (members_yes e) ∙ simp (length-take, length-drop) (omega arith)))
      go false e = rw (d ∙ span_no starts (length table) k e) (looked_no e)

  pub agree : Agree starts table k (members_of starts table k) (looked_of starts table k)
  agree = go (placed starts (length table) k) refl
    where
      go : (b : Bool) → placed starts (length table) k ≡ b → Agree starts table k (members_of starts table k) (looked_of starts table k)
      go true e = record {
        found = λ n f. let l = looked_yes e in (rw e tt, members_yes e, cc);
        refused = λ r f. let l = looked_yes e in let z : ◌≡◌ {A = ℕ} 0 1 = cc in absurd (omega arith);
      }
      go false e = record {
        found = λ n f. let l = looked_no e in let z : ◌≡◌ {A = ℕ} 0 1 = cc in absurd (omega arith);
        refused = λ r f. let l = looked_no e in ((λ t. rw e at t), cc, members_no e);
      }

take_none : (n : ℕ) → ◌≡◌ {A = List ℕ} (take n []) []
take_none zero = refl
take_none (suc n) = refl

between_slice : (first past : ℕ) (table : List ℕ) → between first past table ≡ slice first past table
between_slice zero past table = let e : past - 0 ≡ past = omega arith in rw e
between_slice (suc a) past [] = take_none (past - suc a) ∙ sym (ap (λ (l : List ℕ). drop (suc a) l) (take_none past))
between_slice (suc a) zero (x ∷ t) = let e : 0 - suc a ≡ 0 = omega arith in rw e
between_slice (suc a) (suc b) (x ∷ t) = let e : suc b - suc a ≡ b - a = omega arith in rw e (between_slice a b t)

pub members_slice : (starts table : List ℕ) (k : ℕ) → k + 1 < length starts → start_of starts k ≤ start_of starts (k + 1) → start_of starts (k + 1) ≤ length table
    → members_of starts table k ≡ slice (start_of starts k) (start_of starts (k + 1)) table
members_slice starts table k a b c = members_yes starts table k (placed_yes starts (length table) k a b c) ∙ between_slice (start_of starts k) (start_of starts (k + 1)) table
