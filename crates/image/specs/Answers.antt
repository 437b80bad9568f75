-- Answers in the paper's terms (paper 01, "When an answer is an enum, a definition gives this paper's number and values for each of its cases").
--
--     Answer          a number, which is 0 where nothing is refused, a place, and the values of the case
--     number_of q     the paper's number of a question
--     refused r       a refusal: its number and place, and no values
--     refusal k       the refusal with number k, which names no place
--     given vs        nothing is refused, and these are the values
--     open_answer o    the reader's answer: the header's numbers in their order, or the refusal
--     Injective f     two for which f gives the same are the same
--     OneAnswer       the theorem: the number, place and values leave nothing of the reader's answer free (proved in proofs/Answers)
use Rattle.std.specs.Prelude.{ℕ, ◌≡◌, List, [], ◌∷◌, Err, Ok, Result}
use Rattle.image.specs.declared.Header.{Header}
use Rattle.image.specs.declared.Question.{Question}
use Rattle.image.specs.declared.Question.TheVariants as Q
use Rattle.image.specs.declared.Refusal.{Refusal}

pub record Answer : Type 0 where
  pub number : ℕ
  pub place : ℕ
  pub values : List ℕ

abbrev pub number_of : Question → ℕ
number_of Q.Header = 1
number_of Q.Length = 2
number_of Q.Counts = 3
number_of Q.Width = 4
number_of Q.Thresholds = 5
number_of Q.Tables = 6
number_of Q.Coordinates = 7
number_of Q.Ends = 8
number_of Q.Loops = 9
number_of Q.Repeats = 10
number_of Q.StartTable = 11
number_of Q.MemberTable = 12
number_of Q.Handset = 13
number_of Q.Group = 14
number_of Q.Input = 15
number_of Q.Text = 16
number_of Q.Point = 17
number_of Q.Date = 18
number_of Q.Minutes = 19
number_of Q.Buffer = 20

abbrev pub refused : Refusal → Answer
refused r = record { number = r.number; place = r.place; values = [] }

abbrev pub refusal : ℕ → Refusal
refusal k = record { number = k; place = 0 }

abbrev pub given : List ℕ → Answer
given vs = record { number = 0; place = 0; values = vs }

abbrev pub open_answer : Result Header Refusal → Answer
open_answer (Ok h) = given (h.n ∷ h.m ∷ h.handsets ∷ h.edges ∷ h.len ∷ h.limit ∷ h.p ∷ h.q ∷ h.mu ∷ h.width ∷ [])
open_answer (Err r) = refused r

abbrev pub Injective : {A B : Type 0} → (A → B) → Type 0
Injective {A} f = (a b : A) → f a ≡ f b → a ≡ b

pub record OneAnswer : Type 0 where
  pub opened : Injective open_answer
