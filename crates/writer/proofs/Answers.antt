-- Two answers of the writer with the same number, place and values are the same answer.
use Rattle.std.specs.Prelude.{Err, Ok, Result}
use mathlib.Core.Path.{◌≡◌, sym, ap}
use mathlib.Core.List.{List}
use Prim.Native.Nat.{ℕ}
use lib.ListN.{get_or}
use Rattle.image.specs.Answers.{Answer}
use Rattle.image.proofs.Answers.{given_refused, refused_same}
use Rattle.image.specs.declared.Refusal.{Refusal}
use Rattle.writer.specs.Writer.{encoded_answer, OneAnswer}

pub encoded_same : (a b : Result ℕ Refusal) → encoded_answer a ≡ encoded_answer b → a ≡ b
encoded_same (Ok k) (Ok j) e = ap (λ (v : List ℕ). Ok (get_or v 0 0)) (ap (λ (a : Answer). a.values) e)
encoded_same (Ok k) (Err r) e = given_refused _ _ r e
encoded_same (Err r) (Ok k) e = given_refused _ _ r (sym e)
encoded_same (Err r) (Err q) e = ap Err (refused_same r q e)

pub one_answer : OneAnswer
one_answer = record { encoded = encoded_same }
