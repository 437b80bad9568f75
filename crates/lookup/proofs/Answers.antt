-- Two answers of the companion with the same number, place and values are the same answer: a refusal has no values, and a count is its value.
use Rattle.std.specs.Prelude.{ℕ, Err, Ok, Result}
use mathlib.Core.Path.{◌≡◌, sym, ap}
use lib.ListN.{get_or}
use Rattle.image.specs.Answers.{Answer}
use Rattle.image.proofs.Answers.{given_refused, refused_same}
use Rattle.image.specs.declared.Refusal.{Refusal}
use Rattle.lookup.specs.Answers.{look_answer, OneAnswer}

pub looked_same : (a b : Result ℕ Refusal) → look_answer a ≡ look_answer b → a ≡ b
looked_same (Ok n) (Ok m) e = ap (λ (a : Answer). Ok (get_or a.values 0 0)) e
looked_same (Ok n) (Err r) e = given_refused _ _ r e
looked_same (Err r) (Ok n) e = given_refused _ _ r (sym e)
looked_same (Err r) (Err q) e = ap Err (refused_same r q e)

pub one_answer : OneAnswer
one_answer = record { looked = looked_same }
