-- The companion's answer in the paper's terms: a number, a place and values (paper 01, "When an answer is an enum, a definition gives this paper's number
-- and values for each of its cases"; image/specs/Answers).
--
--     table_number d         0 for the first plan's member table and 1 for the second's
--     scheduled_answer a     which member table, 0 for the first plan's and 1 for the second's, and the count of the group's members in it; or the refusal
--     OneAnswer             the theorem: the number, place and values leave nothing of the answer free (proved in proofs/Answers)
use Rattle.std.specs.Prelude.{ℕ, [], ◌∷◌, Err, Ok, Result}
use Rattle.image.specs.Answers.{Answer, refused, given, Injective}
use Rattle.image.specs.declared.Refusal.{Refusal}
use Rattle.schedule.specs.declared.Day.{Day}
use Rattle.schedule.specs.declared.Day.TheVariants.{Workday, Restday}
use Rattle.schedule.specs.declared.Scheduled.{Scheduled}

abbrev pub table_number : Day → ℕ
table_number Workday = 0
table_number Restday = 1

abbrev pub scheduled_answer : Result Scheduled Refusal → Answer
scheduled_answer (Ok s) = given (table_number s.day ∷ s.count ∷ [])
scheduled_answer (Err r) = refused r

pub record OneAnswer : Type 0 where
  pub scheduled : Injective scheduled_answer
