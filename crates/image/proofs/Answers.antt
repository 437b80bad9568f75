-- Two answers with the same number, place and values are the same answer: a header has values and a refusal none, and each is made of its parts.
use Rattle.std.specs.Prelude.{Err, Ok, Result}
use Prim.Native.Nat.{ℕ}
use native.Mathlib.Omega.{arith}
use mathlib.Core.Path.{◌≡◌, sym, ap, ap₂}
use mathlib.Core.List.{List, [], ◌∷◌}
use lib.ListN.{get_or}
use Rattle.image.specs.Answers.{Answer, refused, given, open_answer, OneAnswer}
use Rattle.image.specs.declared.Header.{Header}
use Rattle.image.specs.declared.Refusal.{Refusal}

-- values are none of a refusal's
pub given_refused : {A : Type 0} (x : ℕ) (xs : List ℕ) (r : Refusal) → given (x ∷ xs) ≡ refused r → A
given_refused x xs r e =
    let v : x ∷ xs ≡ [] = ap (λ (a : Answer). a.values) e in
    let z : ◌≡◌ {A = ℕ} 0 1 = cc in
    absurd (omega arith)

pub refused_same : (r q : Refusal) → refused r ≡ refused q → r ≡ q
refused_same r q e =
    let n : r.number ≡ q.number = ap (λ (a : Answer). a.number) e in
    let p : r.place ≡ q.place = ap (λ (a : Answer). a.place) e in
    ap₂ make n p
  where
    make : ℕ → ℕ → Refusal
    make a b = record { number = a; place = b }

pub open_same : (a b : Result Header Refusal) → open_answer a ≡ open_answer b → a ≡ b
open_same (Ok h) (Ok g) e =
    ap Ok (ap make (ap (λ (a : Answer). a.values) e))
  where
    make : List ℕ → Header
    make l = record {
      n = get_or l 0 0;
      m = get_or l 1 0;
      handsets = get_or l 2 0;
      edges = get_or l 3 0;
      len = get_or l 4 0;
      limit = get_or l 5 0;
      p = get_or l 6 0;
      q = get_or l 7 0;
      mu = get_or l 8 0;
      width = get_or l 9 0;
    }
open_same (Ok h) (Err r) e = given_refused _ _ r e
open_same (Err r) (Ok h) e = given_refused _ _ r (sym e)
open_same (Err r) (Err q) e = ap Err (refused_same r q e)

pub one_answer : OneAnswer
one_answer = record { opened = open_same }
