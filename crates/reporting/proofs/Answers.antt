-- The cases of the report's answer: of a refused image, and of a text that fits the buffer or does not; and what the program makes of each.
--
--     report_same                          two answers with the same number, place and values are the same
--     report_accepted, report_refused      the answer for an accepted image and for a refused one; after_accepted, after_refused: the buffer
--     site_answer_lem, refused_answer          the outcome of the call for each
--     filled_written, filled_refused       a text that is written where it fits; filled_same: the same of an equal text
--     program_long                         an input of more than 65,536 bytes
--     program_written, program_refused     what the program prints after either answer
use Rattle.std.specs.Prelude.{Err, Ok, Result}
use Prim.Native.Nat.{ℕ, ◌≤◌, ◌<◌}
use native.Mathlib.Omega.{arith}
use mathlib.Core.Path.{◌≡◌, refl, sym, ap, ◌∙◌, subst}
use mathlib.Core.Bool.{Bool, true, false, cond}
use mathlib.Core.List.{List, ◌++◌}
use lib.Dec.{leb}
use lib.ListN.{length, get_or, drop}
use borrow.Author.Tests.{leb-true, le-leb, lt-leb, lt-ltb, le-ltb}
use Rattle.sets.proofs.Writing.{sets_front}
use Rattle.image.specs.Questions.{Accepted, open_of}
use Rattle.image.specs.Answers.{Answer, refusal}
use Rattle.image.specs.declared.Refusal.{Refusal}
use Rattle.image.proofs.Acceptance.{when_accepted, when_refused, when_either}
use Rattle.image.proofs.Answers.{given_refused, refused_same}
use Rattle.text.specs.Text.{Wrote}
use Rattle.reporting.specs.Report.{report_text, written_of, written_in, report_of, text_after, printed, program_text, report_answer, ReportCall, OneAnswer}
use Rattle.reporting.specs.ForProofs.{Filled}
use Rattle.lines.specs.Lines.{refused_text}

pub report_same : (a b : Result ℕ Refusal) → report_answer a ≡ report_answer b → a ≡ b
report_same (Ok k) (Ok j) e = ap (λ (a : Answer). Ok (get_or a.values 0 0)) e
report_same (Ok k) (Err r) e = given_refused _ _ r e
report_same (Err r) (Ok k) e = given_refused _ _ r (sym e)
report_same (Err r) (Err q) e = ap Err (refused_same r q e)

pub one_answer : OneAnswer
one_answer = record { reported = report_same }

module _ (s : List ℕ) where
  pub report_accepted : (room : ℕ) → Accepted s → report_of s room ≡ written_of (report_text s) room
  unfolding report_of
  report_accepted room a = when_accepted s (λ h. written_of (report_text s) room) Err a

  pub report_refused : (room : ℕ) (r : Refusal) → open_of s ≡ Err r → report_of s room ≡ Err r
  unfolding report_of
  report_refused room r e = when_refused s (λ h. written_of (report_text s) room) Err r e

  pub after_accepted : (l : List ℕ) → Accepted s → text_after s l ≡ written_in (report_text s) l
  unfolding text_after
  after_accepted l a = when_accepted s (λ h. written_in (report_text s) l) (λ r. l) a

  pub after_refused : (l : List ℕ) (r : Refusal) → open_of s ≡ Err r → text_after s l ≡ l
  unfolding text_after
  after_refused l r e = when_refused s (λ h. written_in (report_text s) l) (λ r. l) r e

pub site_answer_lem : {s l l' : List ℕ} {r : Result ℕ Refusal} → Accepted s → Filled (report_text s) l r l' → ReportCall s l r l'
site_answer_lem {s} {l} a f = record { answer = ap report_answer (f.answer ∙ sym (report_accepted s (length l) a)); text = f.text ∙ sym (after_accepted s l a) }

pub refused_answer : (s l : List ℕ) (r : Refusal) → open_of s ≡ Err r → ReportCall s l (Err r) l
refused_answer s l r e = record { answer = ap report_answer (sym (report_refused s (length l) r e)); text = sym (after_refused s l r e) }

-- a written answer is that of a text that fits
written_fits : (t l : List ℕ) (k : ℕ) → Ok k ≡ written_of t (length l) → (k ≡ length t) × (length t ≤ length l)
unfolding written_of
written_fits t l k q = go (leb (length t) (length l)) refl q
  where
    go : (b : Bool) → leb (length t) (length l) ≡ b → Ok k ≡ cond b (Ok (length t)) (Err (refusal 16)) → (k ≡ length t) × (length t ≤ length l)
    go true e q = (cc, leb-true (length t) (length l) e)
    go false e q = let z : ◌≡◌ {A = ℕ} 0 1 = cc in absurd (omega arith)

-- a text that is written where it fits
module _ {t l : List ℕ} where
  pub filled_written : {l' : List ℕ} {k : ℕ} → length l < 9223372036854775808 → length t ≤ length l → Wrote l 0 t l' k → Filled t l (Ok k) l'
  unfolding written_of written_in
  filled_written {l'} {k} small fits q =
      let e : k ≡ length t = omega (arith, q.next) in
      record { answer = simp (le-leb _ _ fits) (ap Ok e); text = simp (le-leb _ _ fits) (q.list ∙ sets_front l t fits) }

  pub filled_refused : length l < length t → Filled t l (Err (refusal 16)) l
  unfolding written_of written_in
  filled_refused short = record { answer = simp (lt-leb _ _ short); text = simp (lt-leb _ _ short) }

pub filled_same : {t u l l' : List ℕ} {r : Result ℕ Refusal} → t ≡ u → Filled t l r l' → Filled u l r l'
filled_same {l = l} {l'} {r} e f = subst (λ (x : List ℕ). Filled x l r l') e f

-- a refusal leaves the buffer as it was
refused_keeps : (t l : List ℕ) (r : Refusal) → Err r ≡ written_of t (length l) → written_in t l ≡ l
unfolding written_of written_in
refused_keeps t l r q = go (leb (length t) (length l)) refl q
  where
    go : (b : Bool) → leb (length t) (length l) ≡ b → Err r ≡ cond b (Ok (length t)) (Err (refusal 16)) → cond (leb (length t) (length l)) (t ++ drop (length t) l) l ≡ l
    go true e q = let z : ◌≡◌ {A = ℕ} 0 1 = cc in absurd (omega arith)
    go false e q = rw e

in_front : (t l : List ℕ) → length t ≤ length l → written_in t l ≡ t ++ drop (length t) l
unfolding written_in
in_front t l h = simp (le-leb _ _ h)

pub program_long : (s : List ℕ) (room : ℕ) → 65536 < length s → program_text s room ≡ refused_text (refusal 15)
unfolding program_text
program_long s room h = simp (lt-ltb _ _ h)

program_short : (s : List ℕ) (room : ℕ) → length s ≤ 65536 → program_text s room ≡ printed s (report_of s room)
unfolding program_text
program_short s room h = simp (le-ltb _ _ h)

module _ (s l : List ℕ) (short : length s ≤ 65536) where
  -- what holds of an accepted image and of a refused one
  by_answer_lem : {X : Type 0} → (Accepted s → X) → ((r : Refusal) → open_of s ≡ Err r → X) → X
  by_answer_lem {X} f g = when_either s (λ h. l) (λ r. l) (λ (_ : List ℕ). X) f g

  written_text : (l' : List ℕ) (k : ℕ) → length l < 9223372036854775808 → ReportCall s l (Ok k) l' → Wrote l 0 (report_text s) l' k
  written_text l' k small call =
      let same : Ok k ≡ report_of s (length l) = report_same (Ok k) (report_of s (length l)) call.answer in
      by_answer_lem
      (λ a.
      let f = written_fits (report_text s) l k (same ∙ report_accepted s (length l) a) in
      record {
        list = call.text ∙ after_accepted s l a ∙ in_front (report_text s) l f.1 ∙ sym (sets_front l (report_text s) f.1);
        next = omega (arith, f.0, f.1);
      })
      (λ r e. let q : Ok k ≡ Err r = same ∙ report_refused s (length l) r e in let z : ◌≡◌ {A = ℕ} 0 1 = cc in absurd (omega arith))

  refused_text_lem : (l' : List ℕ) (r : Refusal) → ReportCall s l (Err r) l' → l' ≡ l
  refused_text_lem l' r call =
      let same : Err r ≡ report_of s (length l) = report_same (Err r) (report_of s (length l)) call.answer in
      call.text
      ∙ by_answer_lem (λ a. after_accepted s l a ∙ refused_keeps (report_text s) l r (same ∙ report_accepted s (length l) a)) (λ x e. after_refused s l x e)

  pub program_written : (l' : List ℕ) (k : ℕ) (answer : Result ℕ Refusal) → length l < 9223372036854775808 → answer ≡ Ok k
      → ReportCall s l answer l' → Wrote l 0 (program_text s (length l)) l' k
  program_written l' k answer small d call =
      let w : ReportCall s l (Ok k) l' = subst (λ (r : Result ℕ Refusal). ReportCall s l r l') d call in
      subst (λ (t : List ℕ). Wrote l 0 t l' k) (ap (printed s) (report_same (Ok k) (report_of s (length l)) w.answer) ∙ sym (program_short s (length l) short)) (written_text l' k small w)

  pub program_refused : (l' l'' : List ℕ) (r : Refusal) (k : ℕ) (answer : Result ℕ Refusal) → answer ≡ Err r
      → ReportCall s l answer l' → Wrote l' 0 (refused_text r) l'' k → Wrote l 0 (program_text s (length l)) l'' k
  program_refused l' l'' r k answer d call wrote =
      let w : ReportCall s l (Err r) l' = subst (λ (x : Result ℕ Refusal). ReportCall s l x l') d call in
      subst (λ (t : List ℕ). Wrote l 0 t l'' k) (ap (printed s) (report_same (Err r) (report_of s (length l)) w.answer) ∙ sym (program_short s (length l) short))
      (subst (λ (m : List ℕ). Wrote m 0 (refused_text r) l'' k) (refused_text_lem l' r w) wrote)
