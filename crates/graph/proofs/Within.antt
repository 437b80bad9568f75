-- The network among the handsets within a set, from that of the site. The edges with an end outside are dropped, which leaves the neighbours inside and each
-- handset with itself; once the handsets outside are taken out of their own rows, nothing is left of these.
--
--     self_out, self_in              handsets taken out of their own rows one after the other
--     in_both_lem                    an edge of a set by two tests is one by the first
--     among_of_site              the network among the handsets that pass a test goes along the site's edges
--     drawn_within, held_within  what is left is the table of that network, with its near edges
use Prim.Native.Nat.{ℕ, ◌+◌, ◌*◌, ◌<◌}
use native.Mathlib.Omega.{arith}
use native.Mathlib.Decide.{ℕ_discrete}
use mathlib.Core.Path.{◌≡◌, refl, sym, ap, ap₂, ◌∙◌, subst}
use mathlib.Core.Logic.{⊎_elim}
use mathlib.Core.Bool.{Bool, ◌&&◌, ◌||◌, not}
use mathlib.Core.List.{List}
use lib.Dec.{T, ltb, eqb, ltb→lt, lt→ltb, eqb→eq, eqb_refl, T_not, not_T}
use lib.ListN.{length}
use Rattle.sets.specs.Below.{bit}
use Rattle.sets.specs.Bits.{bit_at, cell, without_bit}
use Rattle.sets.specs.Rows.{table_words, SetOf, Table, Counted}
use Rattle.sets.proofs.Tests.{and_make, and_left, and_right, or_left, or_right, or_cases, decide, T-ext, eqb_comm, and_comm}
use Rattle.sets.proofs.Bits.{bit_at_clear_same, bit_at_clear_other, length_without_bit}
use Rattle.sets.proofs.Counting.{bit_test, bit_false}
use Rattle.image.specs.Image.{header_of, handset_count, edge_count, edge_records, end_a, end_b}
use Rattle.image.specs.Questions.{Accepted, is_loop}
use Rattle.image.specs.declared.Header.{Header}
use Rattle.image.proofs.Acceptance.{ends_below}
use Rattle.near.specs.Near.{neighbour}
use Rattle.near.proofs.Near.{neighbour_cases}
use Rattle.community.specs.Site.{network}
use Rattle.community.proofs.Site.{neighbour_comm}
use Rattle.search.specs.Communities.{both}
use Rattle.graph.specs.Graph.{EdgeSet, neighbour_in, ends_near, is_near_edge, among}
use Rattle.graph.specs.ForProofs.{Dropped, in_set, both_within, SelfTaken, OfSite, Drawn, Holds, HeldWithin}
use Rattle.graph.proofs.Words.{set_passes, passes_set}
use Rattle.graph.proofs.GraphLaws.{Along, dropped_is, network_of_site, edges_most_lem, handsets_at_most}

-- ---- handsets taken out of their own rows
module _ (within : List ℕ) (x : ℕ) {before after : List ℕ} (low : x < 512) (t : SelfTaken within x before after) where
  pub self_in : T (in_set within x) → SelfTaken within (x + 1) before after
  self_in i = record {
    size = t.size;
    taken = λ u h l n. go u h l n (ℕ_discrete u x);
    kept = λ u v hu hv d. t.kept u v hu hv (λ e h n. d e (omega (arith, h)) n);
  }
    where
      go : (u : ℕ) → u < x + 1 → u < 512 → T (not (in_set within u)) → Dec (u ≡ x) → cell after u u ≡ 0
      go u h l n (yes e) = absurd (T_not (in_set within u) n (subst (λ (y : ℕ). T (in_set within y)) (sym e) i))
      go u h l n (no d) = t.taken u (omega (arith, h, d)) l n

  pub self_out : length before ≡ table_words → T (not (in_set within x)) → SelfTaken within (x + 1) before (without_bit after (x * 512 + x))
  self_out long o = record {
    size = length_without_bit after (x * 512 + x) ∙ t.size;
    taken = λ u h l n. go u h l n (ℕ_discrete u x);
    kept = λ u v hu hv d.
        bit_at_clear_other after (x * 512 + x) (u * 512 + v) (λ e. at u v hu hv d (omega (arith, e, hu, hv, low)) (omega (arith, e, hu, hv, low)))
        ∙ t.kept u v hu hv (λ e h n. d e (omega (arith, h)) n);
  }
    where
      at : (u v : ℕ) → u < 512 → v < 512 → ((u ≡ v) → u < x + 1 → T (not (in_set within u)) → ⊥) → u ≡ x → v ≡ x → ⊥
      at u v hu hv d p q = d (p ∙ sym q) (omega (arith, p)) (subst (λ (y : ℕ). T (not (in_set within y))) (sym p) o)

      go : (u : ℕ) → u < x + 1 → u < 512 → T (not (in_set within u)) → Dec (u ≡ x) → cell (without_bit after (x * 512 + x)) u u ≡ 0
      go u h l n (yes e) =
          ap (λ (y : ℕ). cell (without_bit after (x * 512 + x)) y y) e ∙ bit_at_clear_same after (x * 512 + x) (omega (arith, t.size, long, low))
      go u h l n (no d) = bit_at_clear_other after (x * 512 + x) (u * 512 + u) (λ e. d (omega (arith, e))) ∙ t.taken u (omega (arith, h, d)) l n

-- an edge of a set by two tests is one by the first
pub in_both_lem : (near : List ℕ) (g : ℕ → Bool) {ws : List ℕ} → EdgeSet ws (λ k. eqb (bit_at near k) 1 && g k) → (k : ℕ) → bit_at ws k ≡ 1 → bit_at near k ≡ 1
in_both_lem near g t k x = eqb→eq (bit_at near k) 1 (and_left (eqb (bit_at near k) 1) (g k) (set_passes t k x).1)

-- ---- the network
pub among_of_site : (s : List ℕ) (f : ℕ → Bool) → OfSite s (network s) → OfSite s (among (network s) f)
among_of_site s f o = record {
  same_n = refl;
  same_p = refl;
  same_q = refl;
  same_mu = refl;
  sound = record {
    neighbour_self = λ u v t.
        let i = and_left (f u) (f v) (and_left (f u && f v) (neighbour s u v) t) in
        and_make (f u && f u) (neighbour s u u) (and_make (f u) (f u) i i) (o.sound.neighbour_self u v (and_right (f u && f v) (neighbour s u v) t));
    neighbour_sym = λ u v. ap₂ ◌&&◌ (and_comm (f u) (f v)) (o.sound.neighbour_sym u v);
    at_most_one = o.sound.at_most_one;
    mu_some = o.sound.mu_some;
  };
  along = λ u v t. o.along u v (and_right (f u && f v) (neighbour s u v) t);
}

in_set_is : {within : List ℕ} {f : ℕ → Bool} → SetOf within f → (v : ℕ) → v < 512 → in_set within v ≡ f v
in_set_is {within} {f} c v h = ap (λ (x : ℕ). eqb x 1) (c.bits v h) ∙ bit_test (f v)

no_loop : (s : List ℕ) → Accepted s → (k : ℕ) → k < edge_count s → T (eqb (end_a (edge_records s) k) (end_b (edge_records s) k)) → ⊥
unfolding is_loop
no_loop s ok k h t = T_not (eqb (end_a (edge_records s) k) (end_b (edge_records s) k)) (ok.q9 k h) t

module _ (s : List ℕ) (h : Header) (ok : Accepted s) (e : h ≡ header_of s) (within near kept : List ℕ)
    (left : EdgeSet kept (λ k. eqb (bit_at near k) 1 && both_within within (edge_records s) k)) where
  -- the edges kept are some of those before
  pub drawn_within : {ws after sizes sizes' : List ℕ} → Drawn s h near ws sizes → Counted after sizes' → Drawn s h kept after sizes'
  drawn_within d c = record {
    accepted = ok;
    header = e;
    near_below = λ k x. d.near_below k (in_both_lem near (both_within within (edge_records s)) left k x);
    counted = c;
  }

  -- the edges dropped
  abbrev gone : ℕ → Bool
  gone k = eqb (bit_at near k) 1 && not (both_within within (edge_records s) k)

  module _ (f : ℕ → Bool) (c : SetOf within f) {ws : List ℕ} (holds : Holds s (network s) near ws) where
    abbrev end_of : ℕ → ℕ
    end_of k = end_a (edge_records s) k

    abbrev end_to : ℕ → ℕ
    end_to k = end_b (edge_records s) k

    abbrev inside : ℕ → Bool
    inside k = f (end_of k) && f (end_to k)

    inside_is : (k : ℕ) → k < edge_count s → both_within within (edge_records s) k ≡ inside k
    inside_is k l =
        let b = ends_below s ok k l in
        let small = handsets_at_most s h ok e in
        ap₂ ◌&&◌ (in_set_is c (end_of k) (omega (arith, b.0, small))) (in_set_is c (end_to k) (omega (arith, b.1, small)))

    near_is : (k : ℕ) → bit_at near k ≡ 1 → (k < edge_count s) × T (ends_near s (network s) k)
    near_is k x =
        let y = (set_passes holds.near_set k x).1 in
        (ltb→lt k (edge_count s) (and_left (ltb k (edge_count s)) (ends_near s (network s) k) y), and_right (ltb k (edge_count s)) (ends_near s (network s) k) y)

    is_near_lem : (k : ℕ) → k < edge_count s → T (ends_near s (network s) k) → T (eqb (bit_at near k) 1)
    is_near_lem k l y =
        passes_set holds.near_set k (omega (arith, l, edges_most_lem s h ok e)) (and_make (ltb k (edge_count s)) (ends_near s (network s) k) (lt→ltb k (edge_count s) l) y)

    gone_is : (k : ℕ) → T (gone k) → (k < edge_count s) × (T (inside k) → ⊥)
    gone_is k x =
        let b : Bool = both_within within (edge_records s) k in
        let l = (near_is k (eqb→eq (bit_at near k) 1 (and_left (eqb (bit_at near k) 1) (not b) x))).0 in
        (l, λ z. T_not b (and_right (eqb (bit_at near k) 1) (not b) x) (subst (λ (y : Bool). T y) (sym (inside_is k l)) z))

    is_gone : (k : ℕ) → k < edge_count s → T (ends_near s (network s) k) → (T (inside k) → ⊥) → T (gone k)
    is_gone k l y n =
        let b : Bool = both_within within (edge_records s) k in
        and_make (eqb (bit_at near k) 1) (not b) (is_near_lem k l y) (not_T b (λ z. n (subst (λ (x : Bool). T x) (inside_is k l) z)))

    -- the edges kept are the near edges of the network
    kept_set : EdgeSet kept (is_near_edge s (among (network s) f))
    kept_set = record { size = left.size; bits = λ k l. left.bits k l ∙ ap bit (T-ext (kept_test k) (is_near_edge s (among (network s) f) k) (to k) (from k)) }
      where
        kept_test : ℕ → Bool
        kept_test k = eqb (bit_at near k) 1 && both_within within (edge_records s) k

        to : (k : ℕ) → T (kept_test k) → T (is_near_edge s (among (network s) f) k)
        to k x =
            let b : Bool = both_within within (edge_records s) k in
            let n = near_is k (eqb→eq (bit_at near k) 1 (and_left (eqb (bit_at near k) 1) b x)) in
            and_make (ltb k (edge_count s)) (inside k && ends_near s (network s) k) (lt→ltb k (edge_count s) n.0)
            (and_make (inside k) (ends_near s (network s) k) (subst (λ (y : Bool). T y) (inside_is k n.0) (and_right (eqb (bit_at near k) 1) b x)) n.1)

        from : (k : ℕ) → T (is_near_edge s (among (network s) f) k) → T (kept_test k)
        from k x =
            let l = ltb→lt k (edge_count s) (and_left (ltb k (edge_count s)) (inside k && ends_near s (network s) k) x) in
            let y = and_right (ltb k (edge_count s)) (inside k && ends_near s (network s) k) x in
            and_make (eqb (bit_at near k) 1) (both_within within (edge_records s) k) (is_near_lem k l (and_right (inside k) (ends_near s (network s) k) y))
            (subst (λ (z : Bool). T z) (sym (inside_is k l)) (and_left (inside k) (ends_near s (network s) k) y))

    -- the neighbours inside, and each handset with itself
    abbrev or_self : ℕ → ℕ → Bool
    or_self u v = neighbour s u v && (eqb u v || (f u && f v))

    along_self : Along s or_self
    along_self = record {
      symmetric = λ u v. ap₂ ◌&&◌ (neighbour_comm s u v) (ap₂ ◌||◌ (eqb_comm u v) (and_comm (f u) (f v)));
      only = λ u v t. neighbour_cases s u v (and_left (neighbour s u v) (eqb u v || (f u && f v)) t);
    }

    mid_table : {mid : List ℕ} → Dropped (edge_records s) gone ws mid → Table mid (λ u v. both (network s) u v && or_self u v)
    unfolding neighbour_in
    mid_table {mid} d =
        dropped_is s (neighbour s) or_self (record { symmetric = neighbour_comm s; only = neighbour_cases s }) along_self
        (λ u v x. and_left (neighbour s u v) (eqb u v || (f u && f v)) x)
        (λ u x. and_make (neighbour s u u) (eqb u u || (f u && f u)) x (or_left (eqb u u) (f u && f u) (eqb_refl u)))
        gone
        (λ k x.
        let o = gone_is k x in (
          o.0,
          not_T (or_self (end_of k) (end_to k)) (λ y.
              ⊎_elim (λ z. no_loop s ok k o.0 z) (λ z. o.1 z)
              (or_cases (eqb (end_of k) (end_to k)) (inside k) (and_right (neighbour s (end_of k) (end_to k)) (eqb (end_of k) (end_to k) || inside k) y))),
        ))
        (λ k l y n.
        is_gone k l y (λ z.
        T_not (or_self (end_of k) (end_to k)) n
        (and_make (neighbour s (end_of k) (end_to k)) (eqb (end_of k) (end_to k) || inside k) y (or_right (eqb (end_of k) (end_to k)) (inside k) z))))
        d
        (both (network s)) holds.table

    -- without these
    same_cell : (u v : ℕ) → (T (eqb u v) → T (f u && f v)) → (both (network s) u v && or_self u v) ≡ neighbour_in (among (network s) f) u v
    unfolding neighbour_in
    same_cell u v self =
        T-ext (both (network s) u v && or_self u v) (both (network s) u v && ((f u && f v) && neighbour s u v))
        (λ t.
        let b = and_left (both (network s) u v) (or_self u v) t in
        let r = and_right (both (network s) u v) (or_self u v) t in
        and_make (both (network s) u v) ((f u && f v) && neighbour s u v) b
        (and_make (f u && f v) (neighbour s u v)
        (⊎_elim self (λ z. z) (or_cases (eqb u v) (f u && f v) (and_right (neighbour s u v) (eqb u v || (f u && f v)) r)))
        (and_left (neighbour s u v) (eqb u v || (f u && f v)) r)))
        (λ t.
        let b = and_left (both (network s) u v) ((f u && f v) && neighbour s u v) t in
        let r = and_right (both (network s) u v) ((f u && f v) && neighbour s u v) t in
        and_make (both (network s) u v) (or_self u v) b
        (and_make (neighbour s u v) (eqb u v || (f u && f v)) (and_right (f u && f v) (neighbour s u v) r)
        (or_right (eqb u v) (f u && f v) (and_left (f u && f v) (neighbour s u v) r))))

    not_among : (u v : ℕ) → T (not (f u)) → bit (neighbour_in (among (network s) f) u v) ≡ 0
    unfolding neighbour_in
    not_among u v n =
        bit_false (both (network s) u v && ((f u && f v) && neighbour s u v)) (not_T (both (network s) u v && ((f u && f v) && neighbour s u v)) (λ t.
        T_not (f u) n (and_left (f u) (f v) (and_left (f u && f v) (neighbour s u v) (and_right (both (network s) u v) ((f u && f v) && neighbour s u v) t)))))

    module _ {mid after : List ℕ} (m : Table mid (λ u v. both (network s) u v && or_self u v)) (t : SelfTaken within h.n mid after) where
      -- a handset outside is gone from its row
      self_gone : (u : ℕ) → u < 512 → T (not (f u)) → cell after u u ≡ 0
      self_gone u l n =
          let o : T (not (in_set within u)) = subst (λ (b : Bool). T (not b)) (sym (in_set_is c u l)) n in
          ⊎_elim
          (λ y. t.taken u (ltb→lt u h.n y) l o)
          (λ y.
          t.kept u u l l (λ p q r. T_not (ltb u h.n) y (lt→ltb u h.n q)) ∙ m.bits u u l l
          ∙ bit_false (both (network s) u u && or_self u u) (not_T (both (network s) u u && or_self u u) (λ z.
          T_not (ltb u h.n) y
          (lt→ltb u h.n (omega (
            arith,
            ap (λ (x : Header). x.n) e,
            ltb→lt u (handset_count s) (and_left (ltb u (handset_count s)) (ltb u (handset_count s)) (and_left (both (network s) u u) (or_self u u) z)),
          ))))))
          (decide (ltb u h.n))

      at_self : (u v : ℕ) → u < 512 → v < 512 → u ≡ v → cell after u v ≡ bit (neighbour_in (among (network s) f) u v)
      at_self u v hu hv p =
          ⊎_elim
          (λ y.
          t.kept u v hu hv (λ q l n. T_not (in_set within u) n (subst (λ (b : Bool). T b) (sym (in_set_is c u hu)) y)) ∙ m.bits u v hu hv
          ∙ ap bit (same_cell u v (λ x. and_make (f u) (f v) y (subst (λ (w : ℕ). T (f w)) p y))))
          (λ n. ap (cell after u) (sym p) ∙ self_gone u hu n ∙ sym (not_among u v n))
          (decide (f u))

      within_table : Table after (neighbour_in (among (network s) f))
      within_table = record { bits = λ u v hu hv. go u v hu hv (ℕ_discrete u v) }
        where
          go : (u v : ℕ) → u < 512 → v < 512 → Dec (u ≡ v) → cell after u v ≡ bit (neighbour_in (among (network s) f) u v)
          go u v hu hv (yes p) = at_self u v hu hv p
          go u v hu hv (no d) =
              t.kept u v hu hv (λ q l n. d q) ∙ m.bits u v hu hv ∙ ap bit (same_cell u v (λ x. absurd (d (eqb→eq u v x))))

  pub held_within : {ws mid after : List ℕ} → Dropped (edge_records s) gone ws mid → SelfTaken within h.n mid after → HeldWithin s within near ws kept after
  held_within d t = record {
    among_held = λ f c holds. record {
      of_site = among_of_site s f (network_of_site s ok);
      near_set = kept_set f c holds;
      table = within_table f c holds (mid_table f c holds d) t;
    };
  }
