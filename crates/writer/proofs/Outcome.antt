-- What the outcome of a call says of its tables and its buffer.
--
--     no_length                what is a length is no refusal
--     Granted, granted         what a length as the answer says: questions 3, 5 and 6 got a yes, and 7 to 10 and 20 too
--     front, rest, kept        the buffer after it: it begins with the image, past which it is as it was; after a refusal it is as it was
--     answer_by                where 3, 5 and 6 pass the answer goes by the reader's answer to the image
--     written, too_short       where the reader accepts the image, it is written if there is room, and refused with 20 if not
use Rattle.std.specs.Prelude.{Err, Ok, Result}
use Prim.Native.Nat.{ℕ, ◌≤◌, ◌<◌}
use native.Mathlib.Omega.{arith}
use mathlib.Core.Path.{◌≡◌, refl, sym, ap, ◌∙◌, subst}
use mathlib.Core.Bool.{Bool, true, false, cond}
use mathlib.Core.List.{List}
use lib.Dec.{T, leb, leb→le}
use lib.IntN.{ℤ}
use lib.ListN.{length, take, drop}
use lib.Seq.{take_at, drop_at}
use borrow.Author.Tests.{le-leb, lt-leb}
use Rattle.image.specs.Image.{header_of}
use Rattle.image.specs.Questions.{open_of, by_answer}
use Rattle.image.specs.Answers.{refusal}
use Rattle.image.specs.declared.Refusal.{Refusal}
use Rattle.layout.specs.Layout.{header_for, image_of}
use Rattle.layout.specs.declared.Parameters.{Parameters}
use Rattle.layout.proofs.Reading.{Asked, asked_length, header_read}
use Rattle.writer.specs.Writer.{tables_answer, ask_buffer, encoded_of, buffer_for, buffer_after, WriteCall}
use Rattle.writer.proofs.Answers.{encoded_same}
use Rattle.image.specs.declared.Header.{Header}
use Rattle.writer.proofs.Drafting.{by_reader, encoded_by, encoded_either}

pub no_length : {A : Type 0} {k : ℕ} {q : Refusal} → Ok k ≡ Err q → A
no_length e = let z : ◌≡◌ {A = ℕ} 0 1 = cc in absurd (omega arith)

-- ---- a length as the answer

pub record Granted (x : Parameters) (coords : List ℤ) (ends : List ℕ) (room k : ℕ) : Type 0 where
  pub asked : Asked x coords ends
  pub site : tables_answer x coords ends ≡ Ok (header_for x)
  pub size : k ≡ (header_for x).len
  pub fits : k ≤ room

encoded_length : (x : Parameters) (coords : List ℤ) (ends : List ℕ) (room k : ℕ) → encoded_of x coords ends room ≡ Ok k → Granted x coords ends room k
encoded_length x coords ends room k =
    encoded_either x coords ends room (λ a. a ≡ Ok k → Granted x coords ends room k)
    (λ ok s. fitting ok s (leb (header_for x).len room) refl) (λ q s d. no_length (sym d))
  where
    fitting : Asked x coords ends → tables_answer x coords ends ≡ Ok (header_for x) → (b : Bool) → leb (header_for x).len room ≡ b
        → cond b (Ok (header_for x).len) (Err (refusal 20)) ≡ Ok k → Granted x coords ends room k
    fitting ok s true e d =
        let same : (header_for x).len ≡ k = cc in
        record { asked = ok; site = s; size = sym same; fits = subst (λ (j : ℕ). j ≤ room) same (leb→le (header_for x).len room (subst T (sym e) tt)) }
    fitting ok s false e d = no_length (sym d)

-- ---- the answer and the buffer of a call

module _ (x : Parameters) (coords : List ℤ) (ends l : List ℕ) (r : Result ℕ Refusal) (l' : List ℕ) (call : WriteCall x coords ends l r l') where
  answer_is : r ≡ encoded_of x coords ends (length l)
  answer_is = encoded_same r (encoded_of x coords ends (length l)) call.answer

  buffer_is : l' ≡ buffer_for r (image_of x coords ends) l
  unfolding buffer_after
  buffer_is = call.buffer ∙ ap (λ (a : Result ℕ Refusal). buffer_for a (image_of x coords ends) l) (sym answer_is)

  pub answer_by : Asked x coords ends → (o : Result Header Refusal) → open_of (image_of x coords ends) ≡ o → r ≡ by_answer o (ask_buffer (length l)) Err
  answer_by ok o e = answer_is ∙ encoded_by x coords ends (length l) o (by_reader x coords ends ok ∙ e)

pub kept : (x : Parameters) (coords : List ℤ) (ends l : List ℕ) (q : Refusal) (l' : List ℕ) → WriteCall x coords ends l (Err q) l' → l' ≡ l
kept x coords ends l q l' call = buffer_is x coords ends l (Err q) l' call

module _ (x : Parameters) (coords : List ℤ) (ends l : List ℕ) (k : ℕ) (l' : List ℕ) (call : WriteCall x coords ends l (Ok k) l') where
  pub granted : Granted x coords ends (length l) k
  granted = encoded_length x coords ends (length l) k (sym (answer_is x coords ends l (Ok k) l' call))

  long : length (image_of x coords ends) ≡ k
  long = asked_length x coords ends granted.asked ∙ sym granted.size

  pub front : take k l' ≡ image_of x coords ends
  front = ap (take k) (buffer_is x coords ends l (Ok k) l' call) ∙ take_at (image_of x coords ends) (drop k l) k long

  pub rest : drop k l' ≡ drop k l
  rest = ap (drop k) (buffer_is x coords ends l (Ok k) l' call) ∙ drop_at (image_of x coords ends) (drop k l) k long

-- ---- tables whose image the reader accepts

module _ (x : Parameters) (coords : List ℤ) (ends : List ℕ) (ok : Asked x coords ends)
    (accepted : open_of (image_of x coords ends) ≡ Ok (header_of (image_of x coords ends))) where
  by_room_lem : (l : List ℕ) (r : Result ℕ Refusal) (l' : List ℕ) (b : Bool) → WriteCall x coords ends l r l' → leb (header_for x).len (length l) ≡ b
      → r ≡ cond b (Ok (header_for x).len) (Err (refusal 20))
  by_room_lem l r l' b call e =
      answer_by x coords ends l r l' call ok (Ok (header_for x)) (accepted ∙ ap Ok (header_read x coords ends ok))
      ∙ ap (λ (c : Bool). cond c (Ok (header_for x).len) (Err (refusal 20))) e

  pub written : (l : List ℕ) (r : Result ℕ Refusal) (l' : List ℕ) → (header_for x).len ≤ length l → WriteCall x coords ends l r l'
      → (r ≡ Ok (header_for x).len) × (take (header_for x).len l' ≡ image_of x coords ends)
  written l r l' room call =
      let k : ℕ = (header_for x).len in
      let answer : r ≡ Ok k = by_room_lem l r l' true call (le-leb k (length l) room) in
      (answer, front x coords ends l k l' (subst (λ (a : Result ℕ Refusal). WriteCall x coords ends l a l') answer call))

  pub too_short : (l : List ℕ) (r : Result ℕ Refusal) (l' : List ℕ) → length l < (header_for x).len → WriteCall x coords ends l r l' → r ≡ Err (refusal 20)
  too_short l r l' room call = by_room_lem l r l' false call (lt-leb (header_for x).len (length l) room)
