-- The reader answers a header exactly when every question gets a yes. A chain of `ask` that ends in the header passed each of its questions,
-- and one whose questions all pass is what stands at its end.
--
--     accepted            open_of s ≡ Site h gives Accepted s, and h is header_of s
--     opened              Accepted s gives open_of s ≡ Site (header_of s)
--     acceptance          the theorem of specs/Acceptance
--     when_accepted, when_refused     what a call says of an accepted image, and of a refused one; when_either: what holds of both holds of what it says
--     pass, go_on, refuse a question by its answer; go_on_each: one that gets a yes for each record goes on
--     records_header      questions 7 to 10 answer no other header; go_on_header: where 1 to 6 get a yes, the rest is the answer
--     counts_limits       what counts that fit keep to; Fits, fits: what a header's numbers keep to, for the proofs of the calls
--     header_fits, tables_clear, header_length, handsets_length, edges_length     what an image whose header is accepted keeps to: both tables of records are whole
--     accepted_fits, length_is, handsets_fit, edges_fit, ends_below, coordinate_limits     what an accepted image keeps to: its header, its length, its two tables,
--                         its edges' ends, its coordinates
--     header_no           where one of questions 1 to 6 gets a no, that is the answer; header_yes: where all get a yes, what that says of the image
--     header_passed       and then the answer is that of questions 7 to 10
use Rattle.std.specs.Prelude.{Err, Ok, Result}
use Prim.Native.Nat.{ℕ, ◌+◌, ◌*◌, ◌-◌, ◌≤◌, ◌<◌}
use native.Mathlib.Omega.{arith}
use mathlib.Core.Path.{◌≡◌, refl, sym, ap, ◌∙◌, subst}
use mathlib.Core.Logic.{◌⊎◌}
use mathlib.Core.Bool.{Bool, true, false, ◌&&◌, not}
use mathlib.Core.List.{List}
use lib.Dec.{T, leb, ltb, eqb, leb→le, ltb→lt, eqb→eq}
use lib.ListN.{length, take, drop, length-take, length-drop}
use Rattle.sets.specs.Below.{any}
use Rattle.sets.proofs.Tests.{and_left, and_right, or_cases, any_none, none_any}
use Rattle.fields.specs.Fields.{coordinate_count, handset_bytes, edge_bytes, coordinate_limit, in_limits, header_bytes, coordinate_of}
use Rattle.limits.specs.Limits.{limit_most, counts_fit, thresholds_fit, out_of_limits}
use Rattle.image.specs.Image.{header_of, handset_count, edge_count, handset_records, edge_records, handset_record, end_a, end_b}
use Rattle.image.specs.Questions.{tables_fit, bad_end, is_loop, repeats_earlier, ask, ask_each, ask_edges, ask_records, ask_header, ask_image, open_of, by_answer, when_opened, HeaderAccepted, Accepted}
use Rattle.image.specs.Acceptance.{Acceptance}
use Rattle.image.specs.declared.Header.{Header}
use Rattle.image.specs.declared.Refusal.{Refusal}

pub pass : {h : Header} (b : Bool) (k p : ℕ) (next : Result Header Refusal) → ask b k p next ≡ Ok h → T b × (next ≡ Ok h)
unfolding ask
pass true k p next e = (tt, e)
pass false k p next e = let z : ◌≡◌ {A = ℕ} 0 1 = cc in absurd (omega arith)

pub go_on : (b : Bool) (k p : ℕ) (next : Result Header Refusal) → T b → ask b k p next ≡ next
unfolding ask
go_on true k p next t = refl
go_on false k p next t = absurd t

module _ (n : ℕ) (bad : ℕ → Bool) (k : ℕ) (next : Result Header Refusal) where
  pass_each : {h : Header} → ask_each n bad k next ≡ Ok h → ((i : ℕ) → i < n → T (not (bad i))) × (next ≡ Ok h)
  unfolding ask_each
  pass_each e = let a = pass (not (any n bad)) k _ next e in (any_none n bad a.0, a.1)

  pub go_on_each : ((i : ℕ) → i < n → T (not (bad i))) → ask_each n bad k next ≡ next
  unfolding ask_each
  go_on_each f = go_on (not (any n bad)) k _ next (none_any n bad f)

same : {h g : Header} → ◌≡◌ {A = Result Header Refusal} (Ok g) (Ok h) → g ≡ h
same e = cc

-- questions 7 to 10 answer no other header than that of which they were asked
pub records_header : (handsets edges : List ℕ) (g : Header) {h : Header} → ask_records handsets edges g ≡ Ok h → g ≡ h
unfolding ask_records ask_edges
records_header handsets edges g e =
    let a7 = pass_each g.n (λ v. out_of_limits (handset_record handsets v)) _ _ e in
    let a8 = pass_each g.m (bad_end edges g.n) _ _ a7.1 in
    let a9 = pass_each g.m (is_loop edges) _ _ a8.1 in
    let a10 = pass_each g.m (repeats_earlier edges) _ _ a9.1 in
    same a10.1

module _ (s : List ℕ) (next : Result Header Refusal) where
  -- questions 1 to 6 got a yes, and the rest answered the header
  pass_header : {h : Header} → ask_image s next ≡ Ok h → HeaderAccepted s × (next ≡ Ok h)
  unfolding ask_image ask_header
  pass_header e =
      let a1 = pass (leb 32 (length s)) _ _ _ e in
      let a2 = pass (eqb (header_of s).len (length s)) _ _ _ a1.1 in
      let a3 = pass (counts_fit (header_of s).n (header_of s).m) _ _ _ a2.1 in
      let a4 = pass (eqb (header_of s).width handset_bytes) _ _ _ a3.1 in
      let a5 = pass (thresholds_fit (header_of s).limit (header_of s).p (header_of s).q (header_of s).mu) _ _ _ a4.1 in
      let a6 = pass (tables_fit (header_of s)) _ _ _ a5.1 in
      (record { q1 = a1.0; q2 = a2.0; q3 = a3.0; q4 = a4.0; q5 = a5.0; q6 = a6.0 }, a6.1)

  -- where they get a yes, the rest is the answer
  pub go_on_header : HeaderAccepted s → ask_image s next ≡ next
  unfolding ask_image ask_header
  go_on_header a =
      go_on (leb 32 (length s)) _ _ _ a.q1
      ∙ go_on (eqb (header_of s).len (length s)) _ _ _ a.q2
      ∙ go_on (counts_fit (header_of s).n (header_of s).m) _ _ _ a.q3
      ∙ go_on (eqb (header_of s).width handset_bytes) _ _ _ a.q4
      ∙ go_on (thresholds_fit (header_of s).limit (header_of s).p (header_of s).q (header_of s).mu) _ _ _ a.q5
      ∙ go_on (tables_fit (header_of s)) _ _ _ a.q6

pub accepted : (s : List ℕ) (h : Header) → open_of s ≡ Ok h → Accepted s × (h ≡ header_of s)
unfolding open_of ask_records ask_edges
accepted s h e =
    let a = pass_header s _ e in
    let a7 = pass_each (handset_count s) (λ v. out_of_limits (handset_record (handset_records s) v)) _ _ a.1 in
    let a8 = pass_each (edge_count s) (bad_end (edge_records s) (handset_count s)) _ _ a7.1 in
    let a9 = pass_each (edge_count s) (is_loop (edge_records s)) _ _ a8.1 in
    let a10 = pass_each (edge_count s) (repeats_earlier (edge_records s)) _ _ a9.1 in
    (record { header = a.0; q7 = a7.0; q8 = a8.0; q9 = a9.0; q10 = a10.0 }, sym (same a10.1))

pub opened : (s : List ℕ) → Accepted s → open_of s ≡ Ok (header_of s)
unfolding open_of ask_records ask_edges
opened s a =
    go_on_header s _ a.header
    ∙ go_on_each (handset_count s) (λ v. out_of_limits (handset_record (handset_records s) v)) _ _ a.q7
    ∙ go_on_each (edge_count s) (bad_end (edge_records s) (handset_count s)) _ _ a.q8
    ∙ go_on_each (edge_count s) (is_loop (edge_records s)) _ _ a.q9
    ∙ go_on_each (edge_count s) (repeats_earlier (edge_records s)) _ _ a.q10

module _ {A : Type 0} (s : List ℕ) (f : Header → A) (g : Refusal → A) where
  pub when_accepted : Accepted s → when_opened s f g ≡ f (header_of s)
  when_accepted a = ap (λ (o : Result Header Refusal). by_answer o f g) (opened s a)

  pub when_refused : (r : Refusal) → open_of s ≡ Err r → when_opened s f g ≡ g r
  when_refused r e = ap (λ (o : Result Header Refusal). by_answer o f g) e

  pub when_either : (P : A → Type 0) → (Accepted s → P (f (header_of s))) → ((r : Refusal) → open_of s ≡ Err r → P (g r)) → P (when_opened s f g)
  when_either P p q = go (open_of s) refl
    where
      go : (o : Result Header Refusal) → open_of s ≡ o → P (by_answer o f g)
      go (Ok h) e = let a = accepted s h e in subst (λ (x : Header). P (f x)) (sym a.1) (p a.0)
      go (Err r) e = q r e

pub acceptance : Acceptance
acceptance = record { only_accepted = λ s h e. (accepted s h e).0; the_header = λ s h e. (accepted s h e).1; every_accepted = opened }

-- counts that fit
pub counts_limits : (n m : ℕ) → T (counts_fit n m) → (n ≤ 512) × (m ≤ 4096)
counts_limits n m c = (leb→le n 512 (and_left (leb n 512) (leb m 4096) c), leb→le m 4096 (and_right (leb n 512) (leb m 4096) c))

-- a header whose counts, thresholds and tables fit
pub record Fits (h : Header) : Type 0 where
  pub n_limit : h.n ≤ 512
  pub m_limit : h.m ≤ 4096
  pub square_limit : h.limit ≤ limit_most
  pub p_some : 1 ≤ h.p
  pub p_q : h.p ≤ h.q
  pub q_limit : h.q ≤ 1000
  pub mu_limit : h.mu ≤ 512
  pub handsets_from : 32 ≤ h.handsets
  pub edges_from : 32 ≤ h.edges
  pub handsets_to : h.handsets + handset_bytes * h.n ≤ h.len
  pub edges_to : h.edges + edge_bytes * h.m ≤ h.len

pub fits : (h : Header) → T (counts_fit h.n h.m) → T (thresholds_fit h.limit h.p h.q h.mu) → T (tables_fit h) → Fits h
fits h c t f =
    let t1 = and_right (leb h.limit limit_most) _ t in
    let t2 = and_right (leb 1 h.p) _ t1 in
    let t3 = and_right (leb h.p h.q) _ t2 in
    let f1 = and_right (leb 32 h.handsets) _ f in
    let f2 = and_right (leb 32 h.edges) _ f1 in
    let f3 = and_right (leb (h.handsets + handset_bytes * h.n) h.len) _ f2 in
    record {
      n_limit = (counts_limits h.n h.m c).0;
      m_limit = (counts_limits h.n h.m c).1;
      square_limit = leb→le h.limit limit_most (and_left (leb h.limit limit_most) _ t);
      p_some = leb→le 1 h.p (and_left (leb 1 h.p) _ t1);
      p_q = leb→le h.p h.q (and_left (leb h.p h.q) _ t2);
      q_limit = leb→le h.q 1000 (and_left (leb h.q 1000) _ t3);
      mu_limit = leb→le h.mu 512 (and_right (leb h.q 1000) _ t3);
      handsets_from = leb→le 32 h.handsets (and_left (leb 32 h.handsets) _ f);
      edges_from = leb→le 32 h.edges (and_left (leb 32 h.edges) _ f1);
      handsets_to = leb→le (h.handsets + handset_bytes * h.n) h.len (and_left (leb (h.handsets + handset_bytes * h.n) h.len) _ f2);
      edges_to = leb→le (h.edges + edge_bytes * h.m) h.len (and_left (leb (h.edges + edge_bytes * h.m) h.len) _ f3);
    }

yes_of : (c : Bool) → T (not (not c)) → T c
yes_of true t = tt
yes_of false t = t

-- an edge that passes question 8
pub good_ends : (records : List ℕ) (n k : ℕ) → T (not (bad_end records n k)) → (end_a records k < n) × (end_b records k < n)
unfolding bad_end
good_ends records n k bad =
    let x : Bool = ltb (end_a records k) n in
    let y : Bool = ltb (end_b records k) n in
    let t : T (x && y) = yes_of (x && y) bad in
    (ltb→lt (end_a records k) n (and_left x y t), ltb→lt (end_b records k) n (and_right x y t))

pub refuse : (b : Bool) (k p : ℕ) (next : Result Header Refusal) → b ≡ false → ask b k p next ≡ Err (record { number = k; place = p })
unfolding ask
refuse true k p next e = let z : ◌≡◌ {A = ℕ} 0 1 = cc in absurd (omega arith)
refuse false k p next e = refl

stop : {r : Refusal} (b : Bool) (k p : ℕ) (x y : Result Header Refusal) → (x ≡ Err r → y ≡ Err r) → ask b k p x ≡ Err r → ask b k p y ≡ Err r
unfolding ask
stop true k p x y f e = f e
stop false k p x y f e = e

-- a no to one of questions 1 to 6 is the answer to all ten
pub header_no : (s : List ℕ) (r : Refusal) → ask_image s (Ok (header_of s)) ≡ Err r → open_of s ≡ Err r
unfolding open_of ask_image ask_header
header_no s r e =
    stop (leb 32 (length s)) _ _ _ _
    (stop (eqb (header_of s).len (length s)) _ _ _ _
    (stop (counts_fit (header_of s).n (header_of s).m) _ _ _ _
    (stop (eqb (header_of s).width handset_bytes) _ _ _ _
    (stop (thresholds_fit (header_of s).limit (header_of s).p (header_of s).q (header_of s).mu) _ _ _ _
    (stop (tables_fit (header_of s)) _ _ (Ok (header_of s)) _ (λ z. let w : ◌≡◌ {A = ℕ} 0 1 = cc in absurd (omega arith))))))) e

pub header_yes : (s : List ℕ) (h : Header) → ask_image s (Ok (header_of s)) ≡ Ok h → HeaderAccepted s × (h ≡ header_of s)
header_yes s h e = let a = pass_header s _ e in (a.0, sym (same a.1))

module _ (s : List ℕ) (a : HeaderAccepted s) where
  pub header_fits : Fits (header_of s)
  header_fits = fits (header_of s) a.q3 a.q5 a.q6

  -- the two tables do not overlap
  pub tables_clear : T (leb ((header_of s).handsets + handset_bytes * (header_of s).n) (header_of s).edges)
      ⊎ T (leb ((header_of s).edges + edge_bytes * (header_of s).m) (header_of s).handsets)
  tables_clear =
      let h : Header = header_of s in
      or_cases (leb (h.handsets + handset_bytes * h.n) h.edges) (leb (h.edges + edge_bytes * h.m) h.handsets)
      (and_right (leb (h.edges + edge_bytes * h.m) h.len) _
      (and_right (leb (h.handsets + handset_bytes * h.n) h.len) _ (and_right (leb header_bytes h.edges) _ (and_right (leb header_bytes h.handsets) _ a.q6))))

  pub header_length : (header_of s).len ≡ length s
  header_length = eqb→eq (header_of s).len (length s) a.q2

  pub handsets_length : length (handset_records s) ≡ handset_bytes * handset_count s
  unfolding handset_records
  handsets_length = simp (length-take, length-drop) (omega (arith, header_fits.handsets_to, header_length))

  pub edges_length : length (edge_records s) ≡ edge_bytes * edge_count s
  unfolding edge_records
  edges_length = simp (length-take, length-drop) (omega (arith, header_fits.edges_to, header_length))

-- for the reader: with the header in hand, what its numbers keep to, and what is left to ask
pub header_passed : (s : List ℕ) (h : Header) → ask_image s (Ok (header_of s)) ≡ Ok h
    → Fits h × (h.len ≡ length s) × (open_of s ≡ ask_records (take (handset_bytes * h.n) (drop h.handsets s)) (take (edge_bytes * h.m) (drop h.edges s)) h)
unfolding open_of handset_records edge_records
header_passed s h e =
    let y = header_yes s h e in
    subst (λ (x : Header). Fits x × (x.len ≡ length s) × (open_of s ≡ ask_records (take (handset_bytes * x.n) (drop x.handsets s)) (take (edge_bytes * x.m) (drop x.edges s)) x)) (sym y.1)
    (header_fits s y.0, header_length s y.0, go_on_header s _ y.0)

module _ (s : List ℕ) (a : Accepted s) where
  pub accepted_fits : Fits (header_of s)
  accepted_fits = header_fits s a.header

  pub length_is : (header_of s).len ≡ length s
  length_is = header_length s a.header

  -- both tables of records stand in the image, by its header
  pub handsets_fit : (h : Header) → h ≡ header_of s → h.handsets + handset_bytes * h.n ≤ length s
  handsets_fit h e = rw e (omega (arith, accepted_fits.handsets_to, length_is))

  pub edges_fit : (h : Header) → h ≡ header_of s → h.edges + edge_bytes * h.m ≤ length s
  edges_fit h e = rw e (omega (arith, accepted_fits.edges_to, length_is))

  -- the ends of every edge are handsets
  pub ends_below : (k : ℕ) → k < edge_count s → (end_a (edge_records s) k < handset_count s) × (end_b (edge_records s) k < handset_count s)
  ends_below k h = good_ends (edge_records s) (handset_count s) k (a.q8 k h)

  -- every coordinate, shifted by 2 ^ 31, keeps its limits
  pub coordinate_limits : (v i : ℕ) → v < handset_count s → i < coordinate_count
      → (2147483648 - coordinate_limit ≤ coordinate_of (handset_record (handset_records s) v) i) × (coordinate_of (handset_record (handset_records s) v) i ≤ 2147483648 + coordinate_limit)
  unfolding out_of_limits
  coordinate_limits v i h l =
      let r : List ℕ = handset_record (handset_records s) v in
      let x : ℕ = coordinate_of r i in
      let t : T (in_limits x) = yes_of (in_limits x) (any_none coordinate_count (λ j. not (in_limits (coordinate_of r j))) (a.q7 v h) i l) in (
        leb→le (2147483648 - coordinate_limit) x (and_left (leb (2147483648 - coordinate_limit) x) (leb x (2147483648 + coordinate_limit)) t),
        leb→le x (2147483648 + coordinate_limit) (and_right (leb (2147483648 - coordinate_limit) x) (leb x (2147483648 + coordinate_limit)) t),
      )
