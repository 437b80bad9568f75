-- Laws for the writer's code: its questions one by one, the draft that it puts 7 to 10 to, and the call's outcome.
--
--     no_3, no_5, no_6     the answer where a question gets a no and those before it a yes
--     asked, by_reader     where all three get a yes, it is the reader's answer to the image
--     Asked                questions 3, 5 and 6 got a yes (layout/proofs/Reading); writes_asked: then the image is written where there is room
--     put_within           what is written is no longer than the draft; draft_image: and the slice of it that is handed to the reader is the image
--     tables_site          a header as answer: the three questions got a yes, and it is that of the image
--     encoded_by           the call's answer, by the answer to the tables; encoded_either: what holds of both answers to the tables holds of it
--     call_no, _short, _yes    so the call's outcome is as the definition has it
use Rattle.std.specs.Prelude.{Err, Ok, Result}
use Prim.Native.Nat.{ℕ, ◌-◌, ◌≤◌, ◌<◌}
use native.Mathlib.Omega.{arith}
use native.Mathlib.Nat.{sub-zero}
use mathlib.Core.Path.{◌≡◌, refl, sym, ap, ap₂, ◌∙◌, subst}
use mathlib.Core.Bool.{Bool, true, false, cond}
use mathlib.Core.List.{List, ◌++◌}
use lib.Dec.{T, leb, leb→le}
use lib.IntN.{ℤ}
use lib.ListN.{length, take, drop, length-replicate}
use lib.Seq.{sets, length-sets, take_at}
use borrow.Author.Tests.{le-leb, lt-leb}
use Rattle.sets.proofs.Tests.{T_true, and_right}
use Rattle.sets.proofs.Writing.{sets_front}
use Rattle.limits.specs.Limits.{counts_fit, thresholds_fit}
use Rattle.image.specs.Answers.{refusal}
use Rattle.image.specs.Questions.{open_of, by_answer}
use Rattle.image.specs.Rows.{zeros}
use Rattle.image.specs.declared.Header.{Header}
use Rattle.image.specs.declared.Refusal.{Refusal}
use Rattle.image.proofs.Acceptance.{pass, go_on, refuse, records_header, fits}
use Rattle.layout.specs.Layout.{header_for, handset_table, edge_table, image_of, lengths_fit, writes, Put}
use Rattle.layout.specs.ForProofs.{image_most}
use Rattle.layout.specs.declared.Parameters.{Parameters}
use Rattle.layout.proofs.Reading.{Asked, tables_fit_lem, asked_length, open_image}
use Rattle.writer.specs.Writer.{tables_answer, ask_buffer, encoded_of, buffer_for, buffer_after, encoded_answer, WriteCall}

T_of : {b : Bool} → b ≡ true → T b
T_of e = subst T (sym e) tt

module _ (x : Parameters) (coords : List ℤ) (ends : List ℕ) where
  abbrev q3 : Bool
  q3 = counts_fit x.n x.m

  abbrev q5 : Bool
  q5 = thresholds_fit x.limit x.p x.q x.mu

  abbrev q6 : Bool
  q6 = lengths_fit x (length coords) (length ends)

  -- ---- the questions

  pub no_3 : q3 ≡ false → tables_answer x coords ends ≡ Err (refusal 3)
  unfolding tables_answer
  no_3 e = refuse q3 3 0 _ e

  pub no_5 : q3 ≡ true → q5 ≡ false → tables_answer x coords ends ≡ Err (refusal 5)
  unfolding tables_answer
  no_5 a e = go_on q3 3 0 _ (T_of a) ∙ refuse q5 5 0 _ e

  pub no_6 : q3 ≡ true → q5 ≡ true → q6 ≡ false → tables_answer x coords ends ≡ Err (refusal 6)
  unfolding tables_answer
  no_6 a b e = go_on q3 3 0 _ (T_of a) ∙ go_on q5 5 0 _ (T_of b) ∙ refuse q6 6 0 _ e

  pub asked : q3 ≡ true → q5 ≡ true → q6 ≡ true → Asked x coords ends
  asked a b e = record { q3 = T_of a; q5 = T_of b; q6 = T_of e }

  pub by_reader : Asked x coords ends → tables_answer x coords ends ≡ open_of (image_of x coords ends)
  unfolding tables_answer
  by_reader ok = go_on q3 3 0 _ ok.q3 ∙ go_on q5 5 0 _ ok.q5 ∙ go_on q6 6 0 _ ok.q6 ∙ sym (open_image x coords ends ok)

  pub tables_site : (h : Header) → tables_answer x coords ends ≡ Ok h → Asked x coords ends × (h ≡ header_for x)
  unfolding tables_answer
  tables_site h e =
      let a3 = pass q3 _ _ _ e in
      let a5 = pass q5 _ _ _ a3.1 in
      let a6 = pass q6 _ _ _ a5.1 in
      (record { q3 = a3.0; q5 = a5.0; q6 = a6.0 }, sym (records_header (handset_table coords) (edge_table ends) (header_for x) a6.1))

  -- ---- the draft

  writes_asked : Asked x coords ends → (room : ℕ) → (header_for x).len ≤ room → writes x (length coords) (length ends) room ≡ true
  writes_asked ok room h = rw (T_true q3 ok.q3, T_true q6 ok.q6, le-leb (header_for x).len room h) refl

  -- where there is room, what is written is the image
  put_there : Asked x coords ends → (s : List ℕ) (r : ℕ) (s' : List ℕ) → (header_for x).len ≤ length s → Put x coords ends s r s'
      → (s' ≡ image_of x coords ends ++ drop (header_for x).len s) × (r ≡ (header_for x).len)
  put_there ok s r s' h p =
      let e = writes_asked ok (length s) h in
      let image : List ℕ = image_of x coords ends in
      let long : length image ≡ (header_for x).len = asked_length x coords ends ok in (
        p.buffer ∙ ap (λ (b : Bool). cond b (sets s 0 image) s) e ∙ sets_front s image (omega arith) ∙ ap (λ (k : ℕ). image ++ drop k s) long,
        p.size ∙ ap (λ (b : Bool). cond b (header_for x).len 0) e,
      )

  -- in any case what is written is no longer than the list
  pub put_within : (s : List ℕ) (r : ℕ) (s' : List ℕ) → Put x coords ends s r s' → r ≤ length s'
  put_within s r s' p = go (writes x (length coords) (length ends) (length s)) refl
    where
      go : (b : Bool) → writes x (length coords) (length ends) (length s) ≡ b → r ≤ length s'
      go true e =
          let t : T (writes x (length coords) (length ends) (length s)) = subst T (sym e) tt in
          let room : (header_for x).len ≤ length s = leb→le (header_for x).len (length s) (and_right q6 _ (and_right q3 _ t)) in
          let list : s' ≡ sets s 0 (image_of x coords ends) = p.buffer ∙ ap (λ (b : Bool). cond b (sets s 0 (image_of x coords ends)) s) e in
          let long : r ≡ (header_for x).len = p.size ∙ ap (λ (b : Bool). cond b (header_for x).len 0) e in
          omega (arith, ap length list, length-sets s 0 (image_of x coords ends))
      go false e = let none : r ≡ 0 = p.size ∙ ap (λ (b : Bool). cond b (header_for x).len 0) e in omega arith

  pub draft_image : Asked x coords ends → (r : ℕ) (s' : List ℕ) → Put x coords ends (zeros image_most) r s' → take (r - 0) (drop 0 s') ≡ image_of x coords ends
  draft_image ok r s' p =
      let f = fits (header_for x) ok.q3 ok.q5 (tables_fit_lem x) in
      let room : (header_for x).len ≤ length (zeros image_most) = omega (arith, f.n_limit, f.m_limit, length-replicate {A = ℕ} image_most 0) in
      let there = put_there ok (zeros image_most) r s' room p in
      ap (λ (k : ℕ). take k s') (sub-zero r) ∙ ap₂ (λ (k : ℕ) (l : List ℕ). take k l) there.1 there.0
      ∙ take_at (image_of x coords ends) (drop (header_for x).len (zeros image_most)) (header_for x).len (asked_length x coords ends ok)

  -- ---- the call's outcome, by the answer to the tables

  outcome : (l : List ℕ) (a : Result ℕ Refusal) (l' : List ℕ) → encoded_of x coords ends (length l) ≡ a → l' ≡ buffer_for a (image_of x coords ends) l → WriteCall x coords ends l a l'
  unfolding buffer_after
  outcome l a l' e d = record { answer = ap encoded_answer (sym e); buffer = d ∙ sym (ap (λ (b : Result ℕ Refusal). buffer_for b (image_of x coords ends) l) e) }

  pub encoded_by : (room : ℕ) (o : Result Header Refusal) → tables_answer x coords ends ≡ o → encoded_of x coords ends room ≡ by_answer o (ask_buffer room) Err
  unfolding encoded_of
  encoded_by room o e = ap (λ (a : Result Header Refusal). by_answer a (ask_buffer room) Err) e

  pub encoded_either : (room : ℕ) (P : Result ℕ Refusal → Type 0) → (Asked x coords ends → tables_answer x coords ends ≡ Ok (header_for x) → P (ask_buffer room (header_for x)))
      → ((q : Refusal) → tables_answer x coords ends ≡ Err q → P (Err q)) → P (encoded_of x coords ends room)
  encoded_either room P f g = go (tables_answer x coords ends) refl
    where
      go : (o : Result Header Refusal) → tables_answer x coords ends ≡ o → P (encoded_of x coords ends room)
      go (Ok h) e =
          let a = tables_site h e in
          let s : tables_answer x coords ends ≡ Ok (header_for x) = e ∙ ap Ok a.1 in
          subst P (sym (encoded_by room (Ok (header_for x)) s)) (f a.0 s)
      go (Err q) e = subst P (sym (encoded_by room (Err q) e)) (g q e)

  pub call_no : (l : List ℕ) (q : Refusal) → tables_answer x coords ends ≡ Err q → WriteCall x coords ends l (Err q) l
  call_no l q e = outcome l (Err q) l (encoded_by (length l) (Err q) e) refl

  -- of a header, question 20
  asked_room : (h : Header) (room : ℕ) (b : Bool) → tables_answer x coords ends ≡ Ok h → leb h.len room ≡ b
      → encoded_of x coords ends room ≡ cond b (Ok h.len) (Err (refusal 20))
  asked_room h room b e d = encoded_by room (Ok h) e ∙ ap (λ (c : Bool). cond c (Ok h.len) (Err (refusal 20))) d

  pub call_short : (l : List ℕ) (h : Header) → tables_answer x coords ends ≡ Ok h → length l < h.len → WriteCall x coords ends l (Err (refusal 20)) l
  call_short l h e s = outcome l (Err (refusal 20)) l (asked_room h (length l) false e (lt-leb h.len (length l) s)) refl

  pub call_yes : (l : List ℕ) (h : Header) (r : ℕ) (l' : List ℕ) → tables_answer x coords ends ≡ Ok h → h.len ≤ length l → Put x coords ends l r l'
      → WriteCall x coords ends l (Ok h.len) l'
  call_yes l h r l' e s p =
      let a = tables_site h e in
      let len : h.len ≡ (header_for x).len = ap (λ (g : Header). g.len) a.1 in
      outcome l (Ok h.len) l' (asked_room h (length l) true e (le-leb h.len (length l) s))
      ((put_there a.0 l r l' (omega arith) p).0 ∙ ap (λ (k : ℕ). image_of x coords ends ++ drop k l) (sym len))
