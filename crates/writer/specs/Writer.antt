-- What the writer of site images answers, and what its buffer holds after it (paper 02, order 5).
--
--     tables_answer x coords ends    questions 3, 5, 6 and 7 to 10, in this order, each of the whole tables before the next: the header of the image that the
--                                   numbers make, or the number and place of the first no. Questions 7 to 10 are the reader's own, of the records that the
--                                   two tables make
--     ask_buffer room h              question 20, asked last: the length of the image with the header h, or the refusal where it is longer than room bytes
--     encoded_of x coords ends room  the call's answer for a buffer of room bytes
--     buffer_for answer image l      the buffer l after the call: it begins with the image and past it holds what it held; as before where the call is refused
--     buffer_after x coords ends l   every byte of the buffer after the call
--     encoded_answer e               the answer's number, place and values: the length of the image
--     WriteCall x ..                the outcome of a call: its answer and the buffer
--     OneAnswer                     the theorem: the number, place and values leave nothing of the answer free (proved in proofs/Answers)
use Rattle.std.specs.Prelude.{ℕ, ◌≡◌, cond, List, [], ◌∷◌, ◌++◌, leb, ℤ, length, drop, Err, Ok, Result}
use Rattle.limits.specs.Limits.{counts_fit, thresholds_fit}
use Rattle.image.specs.Answers.{Answer, refused, refusal, given, Injective}
use Rattle.image.specs.Questions.{ask, ask_records, by_answer}
use Rattle.image.specs.declared.Header.{Header}
use Rattle.layout.specs.Layout.{header_for, handset_table, edge_table, image_of, lengths_fit}
use Rattle.image.specs.declared.Refusal.{Refusal}
use Rattle.layout.specs.declared.Parameters.{Parameters}

unfoldable pub tables_answer : Parameters → List ℤ → List ℕ → Result Header Refusal
unfolding ask ask_records
tables_answer x coords ends =
    ask (counts_fit x.n x.m) 3 0
    (ask (thresholds_fit x.limit x.p x.q x.mu) 5 0
    (ask (lengths_fit x (length coords) (length ends)) 6 0
    (ask_records (handset_table coords) (edge_table ends) (header_for x))))

abbrev pub ask_buffer : ℕ → Header → Result ℕ Refusal
ask_buffer room h = cond (leb h.len room) (Ok h.len) (Err (refusal 20))

unfoldable pub encoded_of : Parameters → List ℤ → List ℕ → ℕ → Result ℕ Refusal
unfolding tables_answer
encoded_of x coords ends room = by_answer (tables_answer x coords ends) (ask_buffer room) Err

abbrev pub buffer_for : Result ℕ Refusal → List ℕ → List ℕ → List ℕ
buffer_for (Ok k) image l = image ++ drop k l
buffer_for (Err r) image l = l

unfoldable pub buffer_after : Parameters → List ℤ → List ℕ → List ℕ → List ℕ
unfolding encoded_of image_of
buffer_after x coords ends l = buffer_for (encoded_of x coords ends (length l)) (image_of x coords ends) l

abbrev pub encoded_answer : Result ℕ Refusal → Answer
encoded_answer (Ok k) = given (k ∷ [])
encoded_answer (Err r) = refused r

-- of the parameters x, the two tables and the buffer l as lent, the answer r, and the buffer l' after the call
pub record WriteCall (x : Parameters) (coords : List ℤ) (ends l : List ℕ) (r : Result ℕ Refusal) (l' : List ℕ) : Type 0 where
  pub answer : encoded_answer r ≡ encoded_answer (encoded_of x coords ends (length l))
  pub buffer : l' ≡ buffer_after x coords ends l

pub record OneAnswer : Type 0 where
  pub encoded : Injective encoded_answer
