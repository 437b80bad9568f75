-- The tally over the edge records of an accepted image is the tally of the paper, whatever test the edges have to pass. Each pair of places whose
-- handsets are joined belongs to exactly one edge, since no edge repeats another, and an edge with the ends a and b, which differ, has as many pairs of
-- places as a stands in the list times b does.
--
--     joined_adjacent    joined by an edge of any number is adjacent
--     edge_once        no two edges of an accepted image join the same two handsets
--     joined_is            the tied pairs, edge by edge: how often one end stands in the list times how often the other does
--     joined_once          the tied pairs of a list without repeats are the edges with both ends in it
--     tally_is           the tally over the edge records is the tally of the image
--     good_tallied, good_scored     the answers for at most 512 handsets of an accepted image: the tally, and its scores
--     site_fits          the bounds of an opened image: its edge records stand in it, at most 4,096, for at most 512 handsets
--     site_tallied       question 13 and the tally over the edge records of an opened image are the call's answer for it
--     site_refused       the call's answer for a refused image is its refusal
use Rattle.std.specs.Prelude.{Err, Ok}
use Prim.Native.Nat.{ℕ, ◌+◌, ◌*◌, ◌≤◌, ◌<◌}
use mathlib.Core.Path.{◌≡◌, refl, sym, ap, ap₂, ◌∙◌, subst}
use mathlib.Core.Bool.{Bool, true, false, ◌&&◌, cond}
use mathlib.Core.List.{List}
use lib.Dec.{T, eqb, eqb→eq, T_not}
use lib.ListN.{length, get_or}
use Rattle.sets.specs.Below.{count, sum, bit}
use Rattle.sets.proofs.Tests.{and_right, any_make, eqb_of}
use Rattle.sets.proofs.Counting.{count_once, count_sum, count_swap, count_false, sum_cong, sum_swap, sum_zero}
use Rattle.sets.specs.Entries.{multiplicity}
use Rattle.fields.specs.Fields.{edge_bytes}
use Rattle.limits.specs.Limits.{handsets_most, edges_most}
use Rattle.image.specs.Image.{handset_count, edge_count, edge_records, end_a, end_b, joins, adjacent}
use Rattle.image.specs.Questions.{is_loop, repeats_earlier, open_of, Accepted}
use Rattle.image.specs.declared.Header.{Header}
use Rattle.image.specs.declared.Refusal.{Refusal}
use Rattle.image.proofs.Acceptance.{accepted, Fits, accepted_fits, edges_fit, when_accepted, when_refused}
use Rattle.image.proofs.Records.{edge_slice, edge_slice_is}
use Rattle.community.specs.Network.{contains}
use Rattle.community.specs.Scores.{count_pairs, pairs, every_edge, joined_by, joined_pairs, leaving}
use Rattle.community.proofs.Multiplicities.{Apart, multiplicity_once}
use Rattle.community.proofs.Edges.{joins_make, joins_take, pair_sym, pair_trans}
use Rattle.scores.specs.Scored.{tally_by, tally_of, ask_entries, tallied_of, scores_for, scored_for, scored_of}
use Rattle.scores.specs.ForProofs.{tally_at}
use Rattle.scores.proofs.Pairing.{pairs_product}
use Rattle.scores.proofs.Entries.{entries_good}

pub joined_adjacent : (s : List ℕ) (u v : ℕ) → joined_by s every_edge u v ≡ adjacent s u v
unfolding joined_by adjacent
joined_adjacent s u v = refl

-- two edges that join the same two handsets: one joins what the other joins
same_ends : (records : List ℕ) (u v i j : ℕ) → T (joins records u v i) → T (joins records u v j) → T (joins records (end_a records j) (end_b records j) i)
same_ends records u v i j x y =
    joins_make records _ _ i (pair_trans _ _ u v _ _ (joins_take records u v i x) (pair_sym _ _ u v (joins_take records u v j y)))

module _ (s : List ℕ) (a : Accepted s) where
  pub edge_once : (u v i j : ℕ) → i < j → j < edge_count s → T (joins (edge_records s) u v i) → T (joins (edge_records s) u v j) → ⊥
  unfolding repeats_earlier
  edge_once u v i j h k x y =
      let records : List ℕ = edge_records s in
      T_not (repeats_earlier records j) (a.q10 j k)
      (any_make j (joins records (end_a records j) (end_b records j)) i h (same_ends records u v i j x y))

  -- no place holds both ends of an edge
  apart : (l : List ℕ) (k : ℕ) → k < edge_count s → (i : ℕ) → i < length l → T (eqb (end_a (edge_records s) k) (get_or l i 0)) → T (eqb (end_b (edge_records s) k) (get_or l i 0)) → ⊥
  unfolding is_loop
  apart l k h i d x y =
      let records : List ℕ = edge_records s in
      T_not (is_loop records k) (a.q9 k h) (eqb_of (end_a records k) (end_b records k) (eqb→eq (end_a records k) (get_or l i 0) x ∙ sym (eqb→eq (end_b records k) (get_or l i 0) y)))

  -- the pairs of places of one edge
  edge_pairs : (l : List ℕ) (k : ℕ) → k < edge_count s
      → sum (length l) (λ j. count j (λ i. joins (edge_records s) (get_or l i 0) (get_or l j 0) k))
      ≡ multiplicity l (end_a (edge_records s) k) * multiplicity l (end_b (edge_records s) k)
  unfolding joins multiplicity count_pairs
  edge_pairs l k h =
      pairs_product (length l) (λ i. eqb (end_a (edge_records s) k) (get_or l i 0)) (λ i. eqb (end_b (edge_records s) k) (get_or l i 0)) (apart l k h)

  -- the same where the edge has to pass
  passed_pairs : (b : Bool) (l : List ℕ) (k : ℕ) → k < edge_count s
      → sum (length l) (λ j. count j (λ i. b && joins (edge_records s) (get_or l i 0) (get_or l j 0) k))
      ≡ cond b (multiplicity l (end_a (edge_records s) k) * multiplicity l (end_b (edge_records s) k)) 0
  passed_pairs true l k h = edge_pairs l k h
  passed_pairs false l k h = sum_cong (length l) (λ j. count j (λ i. false)) (λ j. 0) (λ j d. count_false j) ∙ sum_zero (length l)

  module _ (test : ℕ → Bool) where
    -- edge k passes and joins the handsets at two places
    abbrev joins_at : List ℕ → ℕ → ℕ → ℕ → Bool
    joins_at l i j k = test k && joins (edge_records s) (get_or l i 0) (get_or l j 0) k

    -- the places before place j that are joined to it, edge by edge
    before_place : (l : List ℕ) (j : ℕ)
        → count j (λ i. joined_by s test (get_or l i 0) (get_or l j 0)) ≡ sum (edge_count s) (λ k. count j (λ i. joins_at l i j k))
    unfolding joined_by
    before_place l j =
        let records : List ℕ = edge_records s in
        count_sum j (λ i. joined_by s test (get_or l i 0) (get_or l j 0))
        ∙ sum_cong j (λ i. bit (joined_by s test (get_or l i 0) (get_or l j 0))) (λ i. count (edge_count s) (joins_at l i j))
        (λ i h. count_once (edge_count s) (joins_at l i j)
        (λ k n d b x y. edge_once (get_or l i 0) (get_or l j 0) k n d b
        (and_right (test k) (joins records (get_or l i 0) (get_or l j 0) k) x) (and_right (test n) (joins records (get_or l i 0) (get_or l j 0) n) y)))
        ∙ count_swap j (edge_count s) (λ i k. joins_at l i j k)

    pub joined_is : (l : List ℕ) → joined_pairs s test l ≡ sum (edge_count s) (λ k. cond (test k) (multiplicity l (end_a (edge_records s) k) * multiplicity l (end_b (edge_records s) k)) 0)
    unfolding joined_pairs count_pairs
    joined_is l =
        let n : ℕ = length l in
        let m : ℕ = edge_count s in
        let f : ℕ → ℕ → ℕ = λ j k. count j (λ i. joins_at l i j k) in
        sum_cong n (λ j. count j (λ i. joined_by s test (get_or l i 0) (get_or l j 0))) (λ j. sum m (f j)) (λ j h. before_place l j)
        ∙ sum_swap n m f
        ∙ sum_cong m (λ k. sum n (λ j. f j k)) (λ k. cond (test k) (multiplicity l (end_a (edge_records s) k) * multiplicity l (end_b (edge_records s) k)) 0)
        (λ k h. passed_pairs (test k) l k h)

    pub joined_once : (l : List ℕ) → Apart l
        → joined_pairs s test l ≡ count (edge_count s) (λ k. test k && (contains (end_a (edge_records s) k) l && contains (end_b (edge_records s) k) l))
    joined_once l once =
        let f : ℕ → ℕ = λ k. cond (test k) (multiplicity l (end_a (edge_records s) k) * multiplicity l (end_b (edge_records s) k)) 0 in
        let g : ℕ → Bool = λ k. test k && (contains (end_a (edge_records s) k) l && contains (end_b (edge_records s) k) l) in
        joined_is l
        ∙ sum_cong (edge_count s) f (λ k. bit (g k))
        (λ k h. ap₂ (λ (x y : ℕ). cond (test k) (x * y) 0) (multiplicity_once l once (end_a (edge_records s) k)) (multiplicity_once l once (end_b (edge_records s) k))
        ∙ both (test k) (contains (end_a (edge_records s) k) l) (contains (end_b (edge_records s) k) l))
        ∙ sym (count_sum (edge_count s) g)
      where
        both : (b x y : Bool) → cond b (bit x * bit y) 0 ≡ bit (b && (x && y))
        both true true true = refl
        both true true false = refl
        both true false true = refl
        both true false false = refl
        both false x y = refl

    pub tally_is : (l : List ℕ) → tally_at (edge_records s) (edge_count s) test l ≡ tally_by s test l
    unfolding tally_at leaving
    tally_is l = ap (λ (x : ℕ). record { pairs = pairs l; joined = x; leaving = leaving s test l }) (sym (joined_is l))

-- a list of at most 512 handsets
module _ (s : List ℕ) (a : Accepted s) (l : List ℕ) (few : length l ≤ 512) (below : (i : ℕ) → i < length l → get_or l i 0 < handset_count s) where
  pub good_tallied : tallied_of s l ≡ Ok (tally_of s l)
  unfolding tallied_of
  good_tallied = when_accepted s _ _ a ∙ entries_good (handset_count s) l (tally_of s l) few below

  pub good_scored : scored_of s l ≡ Ok (scores_for (tally_of s l))
  unfolding scored_of
  good_scored = ap scored_for good_tallied

module _ (s : List ℕ) (h : Header) (e : open_of s ≡ Ok h) where
  pub site_fits : (h.edges + edge_bytes * h.m ≤ length s) × (h.m ≤ edges_most) × (h.n ≤ handsets_most)
  site_fits =
      let r = accepted s h e in
      let f : Fits h = subst Fits (sym r.1) (accepted_fits s r.0) in
      (edges_fit s r.0 h r.1, f.m_limit, f.n_limit)

  pub site_tallied : (l : List ℕ) → ask_entries h.n l (tally_at (edge_slice s h) h.m every_edge l) ≡ tallied_of s l
  unfolding tallied_of tally_of
  site_tallied l =
      let r = accepted s h e in
      ap (λ (records : List ℕ). ask_entries h.n l (tally_at records h.m every_edge l)) (edge_slice_is s h r.1)
      ∙ ap (λ (g : Header). ask_entries g.n l (tally_at (edge_records s) g.m every_edge l)) r.1
      ∙ ap (ask_entries (handset_count s) l) (tally_is s r.0 every_edge l)
      ∙ sym (when_accepted s _ _ r.0)

pub site_refused : (s : List ℕ) (r : Refusal) (l : List ℕ) → open_of s ≡ Err r → tallied_of s l ≡ Err r
unfolding tallied_of
site_refused s r l e = when_refused s _ _ r e
