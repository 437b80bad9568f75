-- The companion's answer in the paper's terms: a number, a place and values (paper 01, "When an answer is an enum, a definition gives this paper's number
-- and values for each of its cases"; image/specs/Answers).
--
--     look_answer a     the count of the group's members, or the refusal
--     OneAnswer        the theorem: the number, place and values leave nothing of the answer free (proved in proofs/Answers)
use Rattle.std.specs.Prelude.{ℕ, [], ◌∷◌, Err, Ok, Result}
use Rattle.image.specs.declared.Refusal.{Refusal}
use Rattle.image.specs.Answers.{Answer, refused, given, Injective}

abbrev pub look_answer : Result ℕ Refusal → Answer
look_answer (Ok n) = given (n ∷ [])
look_answer (Err r) = refused r

pub record OneAnswer : Type 0 where
  pub looked : Injective look_answer
