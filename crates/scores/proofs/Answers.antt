-- Two answers with the same number, place and values are the same answer: a refusal has no values, and a tally or two scores are made of theirs.
--
--     tally_same, scored_same     the answer is the one with the same number, place and values
use Rattle.std.specs.Prelude.{Err, None, Ok, Option, Result, Some}
use Prim.Native.Nat.{ℕ}
use mathlib.Core.Path.{◌≡◌, refl, sym, ap, ◌∙◌}
use mathlib.Core.Bool.{cond}
use mathlib.Core.List.{List, ◌++◌}
use lib.Dec.{eqb}
use lib.ListN.{get_or, drop}
use Rattle.image.specs.Answers.{Answer, refused, given}
use Rattle.image.specs.declared.Refusal.{Refusal}
use Rattle.image.proofs.Answers.{given_refused, refused_same}
use Rattle.scores.specs.Answers.{tally_answer, score_values, score_answer, OneAnswer}
use Rattle.scores.specs.declared.Tally.{Tally}
use Rattle.scores.specs.declared.Ratio.{Ratio}
use Rattle.scores.specs.declared.Scores.{Scores}

pub tally_same : (a b : Result Tally Refusal) → tally_answer a ≡ tally_answer b → a ≡ b
tally_same (Ok t) (Ok u) e = ap Ok (ap make (ap (λ (a : Answer). a.values) e))
  where
    make : List ℕ → Tally
    make l = record { pairs = get_or l 0 0; joined = get_or l 1 0; leaving = get_or l 2 0 }
tally_same (Ok t) (Err r) e = given_refused _ _ r e
tally_same (Err r) (Ok t) e = given_refused _ _ r (sym e)
tally_same (Err r) (Err q) e = ap Err (refused_same r q e)

-- the score that a list of values starts with, and the values behind it
abbrev first_score : List ℕ → Option Ratio
first_score l = cond (eqb (get_or l 0 0) 1) (Some (record { numerator = get_or l 1 0; denominator = get_or l 2 0 })) None

abbrev behind : List ℕ → List ℕ
behind l = cond (eqb (get_or l 0 0) 1) (drop 3 l) (drop 1 l)

abbrev scores_in : List ℕ → Scores
scores_in l = record { density = first_score l; conductance = first_score (behind l) }

scores_in_lem : (d c : Option Ratio) → scores_in (score_values d ++ score_values c) ≡ record { density = d; conductance = c }
scores_in_lem (Some p) (Some q) = refl
scores_in_lem (Some p) None = refl
scores_in_lem None (Some q) = refl
scores_in_lem None None = refl

scores_refused : {A : Type 0} (d c : Option Ratio) (r : Refusal) → given (score_values d ++ score_values c) ≡ refused r → A
scores_refused (Some q) c r e = given_refused _ _ r e
scores_refused None c r e = given_refused _ _ r e

pub scored_same : (a b : Result Scores Refusal) → score_answer a ≡ score_answer b → a ≡ b
scored_same (Ok x) (Ok y) e =
    ap Ok (sym (scores_in_lem x.density x.conductance) ∙ ap (λ (a : Answer). scores_in a.values) e ∙ scores_in_lem y.density y.conductance)
scored_same (Ok x) (Err r) e = scores_refused x.density x.conductance r e
scored_same (Err r) (Ok x) e = scores_refused x.density x.conductance r (sym e)
scored_same (Err r) (Err q) e = ap Err (refused_same r q e)

pub one_answer : OneAnswer
one_answer = record { tally = tally_same; scored = scored_same }
