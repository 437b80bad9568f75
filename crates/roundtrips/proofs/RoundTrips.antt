-- The theorem of specs/RoundTrips. The writer's questions 7 to 10 are the reader's, of the records that the tables make. So where 3, 5 and 6 pass, the
-- writer's answer is the reader's answer to the image written, but for 20; and that image has the records of every image that holds the tables (proofs/Openings).
--
--     reads_back                   what is written is read back
--     asked_of, records_of         the tables that an image holds pass 3, 5 and 6, and their image has its records
--     image_opening                so the two are both accepted, or refused with the same number and place; accepted_image: the first where one is
--     writer_too, image_too        a refusal of such an image is the writer's, and one of the writer's is the image's, but for 20
--     no_longer                    the image written is no longer than one that holds its tables
--     written_again                an accepted image's tables are written where there is room, and what is written has the image's outcome
--     round_trips                  the theorem
use Rattle.std.specs.Prelude.{Err, Ok, Result}
use Prim.Native.Nat.{ℕ, ◌+◌, ◌*◌, ◌≤◌}
use native.Mathlib.Omega.{arith}
use mathlib.Core.Path.{◌≡◌, sym, ap, ◌∙◌, subst}
use mathlib.Core.Logic.{◌⊎◌, inl, inr, ⊎_elim}
use mathlib.Core.Bool.{Bool, true, false, cond}
use mathlib.Core.List.{List}
use lib.Dec.{leb, leb→le}
use lib.IntN.{ℤ}
use lib.ListN.{length, take}
use Rattle.little_endian.specs.Bytes.{Below}
use Rattle.fields.specs.Fields.{handset_bytes, edge_bytes}
use Rattle.image.specs.Image.{header_of}
use Rattle.image.specs.Questions.{open_of, by_answer, HeaderAccepted, Accepted}
use Rattle.image.specs.Answers.{refusal}
use Rattle.image.specs.declared.Header.{Header}
use Rattle.image.specs.declared.Refusal.{Refusal}
use Rattle.image.proofs.Acceptance.{accepted, opened, header_fits, header_length, tables_clear}
use Rattle.image.proofs.Answers.{open_same}
use Rattle.layout.specs.Layout.{header_for, image_of, Signed32}
use Rattle.layout.specs.declared.Parameters.{Parameters}
use Rattle.layout.proofs.Reading.{Asked, image_below, header_read, handsets_read, edges_read, header_accepted}
use Rattle.writer.specs.Holds.{parameters_of, Holds}
use Rattle.writer.specs.Writer.{ask_buffer, WriteCall}
use Rattle.writer.proofs.Drafting.{by_reader}
use Rattle.writer.proofs.Outcome.{no_length, Granted, granted, front, rest, kept, answer_by, written, too_short}
use Rattle.writer.proofs.Tables.{asked_by, handsets_are, edges_are, image_holds, tables_of}
use Rattle.roundtrips.specs.RoundTrips.{ReadsBack, SameOutcome, RoundTrips}
use Rattle.roundtrips.proofs.Openings.{SameRecords, SameOpening, same_opening}
use Rattle.roundtrips.proofs.Same.{same_outcome}

-- ---- the cases of an answer

no_site : {A : Type 0} {h : Header} {q : Refusal} → ◌≡◌ {A = Result Header Refusal} (Ok h) (Err q) → A
no_site e = let z : ◌≡◌ {A = ℕ} 0 1 = cc in absurd (omega arith)

same_refusal : {A : Type 0} {q p : Refusal} → ◌≡◌ {A = Result A Refusal} (Err q) (Err p) → q ≡ p
same_refusal e = cc

only_20 : (q : Refusal) (b : Bool) (k : ℕ) → Err q ≡ cond b (Ok k) (Err (refusal 20)) → q.number ≡ 20
only_20 q true k e = no_length (sym e)
only_20 q false k e = ap (λ (p : Refusal). p.number) (same_refusal e)

-- ---- what is written is read back

reads_back : (x : Parameters) (coords : List ℤ) (ends l : List ℕ) (k : ℕ) (l' : List ℕ) → WriteCall x coords ends l (Ok k) l'
    → Signed32 coords → Below 65536 ends → ReadsBack x coords ends l k l'
reads_back x coords ends l k l' call signed low =
    let g : Granted x coords ends (length l) k = granted x coords ends l k l' call in
    let same : take k l' ≡ image_of x coords ends = front x coords ends l k l' call in record {
      size = g.size;
      opens = λ o e. open_same o (open_of (take k l')) e ∙ ap open_of same ∙ sym (by_reader x coords ends g.asked) ∙ g.site;
      holds = subst (λ (t : List ℕ). Holds t x coords ends) (sym same) (image_holds x coords ends signed low g.asked);
      rest = rest x coords ends l k l' call;
    }

-- ---- the tables that an image holds

-- the two tables of the image lie past its header, and clear of each other
no_longer : (s : List ℕ) (x : Parameters) (coords : List ℤ) (ends : List ℕ) → HeaderAccepted s → Holds s x coords ends → (header_for x).len ≤ length s
no_longer s x coords ends ok held =
    let h : Header = header_of s in
    let f = header_fits s ok in
    let n : h.n ≡ x.n = ap (λ (y : Parameters). y.n) held.parameters in
    let m : h.m ≡ x.m = ap (λ (y : Parameters). y.m) held.parameters in
    ⊎_elim
    (λ t. omega (arith, f.handsets_from, f.edges_to, header_length s ok, leb→le (h.handsets + handset_bytes * h.n) h.edges t))
    (λ t. omega (arith, f.edges_from, f.handsets_to, header_length s ok, leb→le (h.edges + edge_bytes * h.m) h.handsets t))
    (tables_clear s ok)

module _ (s : List ℕ) (x : Parameters) (coords : List ℤ) (ends : List ℕ) (ok : HeaderAccepted s) (small : Below 256 s)
    (held : Holds s x coords ends) where
  asked_of : Asked x coords ends
  asked_of = asked_by (header_of s) x coords ends held.parameters ok.q3 ok.q5 held.coordinate_count_lem held.end_count_lem

  records_of : SameRecords s (image_of x coords ends)
  records_of = record {
    parameters = held.parameters ∙ sym (ap parameters_of (header_read x coords ends asked_of));
    handsets = handsets_are s x coords ends ok small held ∙ sym (handsets_read x coords ends asked_of);
    edges = edges_are s x coords ends ok small held ∙ sym (edges_read x coords ends asked_of);
  }

  image_opening : SameOpening s (image_of x coords ends)
  image_opening = same_opening s (image_of x coords ends) records_of ok (header_accepted x coords ends asked_of)

  accepted_image : Accepted s → open_of (image_of x coords ends) ≡ Ok (header_of (image_of x coords ends))
  accepted_image good = go image_opening
    where
      go : SameOpening s (image_of x coords ends) → open_of (image_of x coords ends) ≡ Ok (header_of (image_of x coords ends))
      go (inl (_, again)) = again
      go (inr (p, _, _, here, _)) = no_site (sym (opened s good) ∙ here)

  module _ (l : List ℕ) (r : Result ℕ Refusal) (l' : List ℕ) (call : WriteCall x coords ends l r l') where
    answered : (o : Result Header Refusal) → open_of (image_of x coords ends) ≡ o → r ≡ by_answer o (ask_buffer (length l)) Err
    answered o e = answer_by x coords ends l r l' call asked_of o e

    writer_too : (q : Refusal) → SameOpening s (image_of x coords ends) → open_of s ≡ Err q
        → (r ≡ Err q) × (7 ≤ q.number) × (q.number ≤ 10)
    writer_too q (inl (site, _)) e = no_site (sym site ∙ e)
    writer_too q (inr (p, from, to, here, again)) e =
        let same : p ≡ q = same_refusal (sym here ∙ e) in
        let number : p.number ≡ q.number = ap (λ (y : Refusal). y.number) same in
        (answered _ again ∙ ap Err same, omega arith, omega arith)

    image_too : (q : Refusal) → SameOpening s (image_of x coords ends) → r ≡ Err q → (open_of s ≡ Err q) ⊎ (q.number ≡ 20)
    image_too q (inl (_, again)) e = inr (only_20 q (leb _ (length l)) _ (sym e ∙ answered _ again))
    image_too q (inr (p, _, _, here, again)) e = inl (here ∙ ap Err (same_refusal (sym (answered _ again) ∙ e)))

    written_again : Accepted s → (header_for x).len ≤ length l → (r ≡ Ok (header_for x).len) × SameOutcome s (take (header_for x).len l')
    written_again good room =
        let image : List ℕ = image_of x coords ends in
        let again : open_of image ≡ Ok (header_of image) = accepted_image good in
        let outcome : SameOutcome s image = same_outcome s image records_of good (accepted image (header_of image) again).0 in
        let w = written x coords ends asked_of again l r l' room call in
        (w.0, subst (SameOutcome s) (sym w.1) outcome)

pub round_trips : RoundTrips
round_trips = record {
  reads_back = λ x coords ends l k l' signed low call. reads_back x coords ends l k l' call signed low;
  written_again = λ s x coords ends l r l' good small held room call. written_again s x coords ends good.header small held l r l' call good room;
  too_short = λ s x coords ends l r l' good small held room call.
      too_short x coords ends (asked_of s x coords ends good.header small held) (accepted_image s x coords ends good.header small held good) l r l' room call;
  kept = kept;
  same_refusals = λ s x coords ends l r l' ok small held call q.
      let o : SameOpening s (image_of x coords ends) = image_opening s x coords ends ok small held in (
        λ e. let a = writer_too s x coords ends ok small held l r l' call q o e in (a.0, omega (arith, a.1), omega (arith, a.2)),
        λ (e, from, to). ⊎_elim (λ a. a) (λ n. absurd (omega arith)) (image_too s x coords ends ok small held l r l' call q o e),
      );
  an_image = λ x coords ends signed low q3 q5 q6.
      let ok : Asked x coords ends = record { q3 = q3; q5 = q5; q6 = q6 } in
      (header_accepted x coords ends ok, image_below x coords ends, image_holds x coords ends signed low ok);
  no_longer = no_longer;
  its_tables = tables_of;
}
