-- The answers in the paper's terms: a number, a place and values (paper 01, "When an answer is an enum, a definition gives this paper's number and values
-- for each of its cases"; image/specs/Answers).
--
--     tally_answer t     s, t and o, or the refusal
--     score_values x     a score: 1, its dividend and its divisor; 0 where there is none
--     score_answer x     the density, then the conductance, or the refusal
--     OneAnswer         the theorem: the number, place and values leave nothing of an answer free (proved in proofs/Answers)
use Rattle.std.specs.Prelude.{ℕ, List, [], ◌∷◌, ◌++◌, Err, None, Ok, Option, Result, Some}
use Rattle.image.specs.Answers.{Answer, refused, given, Injective}
use Rattle.scores.specs.declared.Ratio.{Ratio}
use Rattle.image.specs.declared.Refusal.{Refusal}
use Rattle.scores.specs.declared.Scores.{Scores}
use Rattle.scores.specs.declared.Tally.{Tally}

abbrev pub tally_answer : Result Tally Refusal → Answer
tally_answer (Ok t) = given (t.pairs ∷ t.joined ∷ t.leaving ∷ [])
tally_answer (Err r) = refused r

abbrev pub score_values : Option Ratio → List ℕ
score_values (Some q) = 1 ∷ q.numerator ∷ q.denominator ∷ []
score_values None = 0 ∷ []

abbrev pub score_answer : Result Scores Refusal → Answer
score_answer (Ok x) = given (score_values x.density ++ score_values x.conductance)
score_answer (Err r) = refused r

pub record OneAnswer : Type 0 where
  pub tally : Injective tally_answer
  pub scored : Injective score_answer
