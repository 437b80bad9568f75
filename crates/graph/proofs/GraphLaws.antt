-- What is left of a site's edges is its network. The table of all edges is a symmetric relation along edges; dropping the edges whose ends are not in a
-- smaller such relation leaves just that, so first the neighbour relation is left and then the similarity relation.
--
--     Along, dropped_is            a symmetric relation that holds only along edges, and of a handset with itself; what dropping leaves of one
--     neighbour_table, similar_table    so the two tables are those of the neighbour relation and of the similarity relation
--     Read, header_is              the numbers of the header are those of the image
--     neighbour_size, neighbour_common       the counts of the neighbour table are those of the network; enough_is: and the test by them is the definition's
--     cores_set                    the cores by the sizes of the similarity table
--     near_count, near_counts      the near edges counted, and the near counts
--     told_yes, read_yes           what the reader answers, and what is answered and left of an image
--     handsets_at_most, edges_most_lem      the image's numbers
--     edges_ready, near_ready, dissimilar_ready     its edges and those of the two sets have their records and ends
--     network_of_site, neighbours_kept, neighbours_drawn, neighbours_hold         the first step: the tables hold the network of the site
--     surveyed, found_in           the second step and the search, for any network that the tables hold
--     groups_are, site_found       the outcome of a call
use Rattle.std.specs.Prelude.{Err, Ok, Result}
use Prim.Native.Nat.{ℕ, ◌+◌, ◌*◌, ◌-◌, ◌/◌, ◌%◌, ◌≤◌, ◌<◌, min}
use native.Mathlib.Omega.{arith}
use mathlib.Core.Path.{◌≡◌, refl, sym, ap, ap₂, ◌∙◌, subst}
use mathlib.Core.Logic.{◌⊎◌, inl, inr, ⊎_elim}
use mathlib.Core.Bool.{Bool, true, false, ◌&&◌, ◌||◌, not}
use mathlib.Core.List.{List}
use lib.Dec.{T, leb, ltb, eqb, ltb→lt, lt→ltb, eqb→eq, T_not, not_T}
use lib.ListN.{length, get_or}
use Rattle.sets.specs.Below.{any, bit, count, sum}
use Rattle.sets.specs.Bits.{bit_of, bit_at, cell}
use Rattle.sets.specs.Rows.{table_words, SetOf, Table, Counted}
use Rattle.sets.proofs.Tests.{and_make, and_left, and_right, or_left, or_right, or_cases, decide, T_true, T_false, T-ext, any_take, eqb_of, eqb_comm}
use Rattle.sets.proofs.Counting.{bit_false, count_cong, count_sum, count_wide, count_at, count_false, sum_cong}
use Rattle.fields.specs.Fields.{core_size, handset_bytes}
use Rattle.limits.specs.Limits.{edges_most}
use Rattle.image.specs.Image.{header_of, handset_count, edge_count, limit_of, epsilon_num, epsilon_den, mu, handset_records, edge_records, end_a, end_b, joins, adjacent}
use Rattle.image.specs.Questions.{Accepted, open_of}
use Rattle.image.specs.Answers.{open_answer}
use Rattle.image.specs.Rows.{Room, related, Reading}
use Rattle.image.specs.declared.Header.{Header}
use Rattle.image.specs.declared.Refusal.{Refusal}
use Rattle.near.specs.Near.{is_near, neighbour}
use Rattle.image.proofs.Acceptance.{Fits, accepted_fits, accepted, length_is, handsets_length, edges_length, ends_below}
use Rattle.image.proofs.Answers.{given_refused, open_same}
use Rattle.image.proofs.Edges.{joins_cases}
use Rattle.image.proofs.Records.{edge_slice, handset_slice, edge_slice_is, handset_slice_is}
use Rattle.image.proofs.Rows.{table_cong}
use Rattle.near.proofs.Near.{adjacent_comm, neighbour_cases, edge_proximity_lem}
use Rattle.community.specs.Network.{Network, neighbourhood_size, common_neighbours, meets_epsilon, similar, is_core}
use Rattle.community.specs.Site.{network}
use Rattle.community.proofs.Similarity.{similar_sym, similar_self}
use Rattle.community.proofs.Site.{neighbour_comm, neighbour_self, accepted_sound}
use Rattle.search.specs.Communities.{both, similar_in, core_in}
use Rattle.search.specs.ForProofs.{Surveyed}
use Rattle.search.specs.Search.{SearchCall}
use Rattle.search.proofs.Communities.{search_grouped}
use Rattle.graph.specs.Graph.{EdgeSet, neighbour_in, ends_near, is_near_edge, near_edges, NearCounts, Groups, SiteFound}
use Rattle.graph.specs.declared.SiteGroups.{SiteGroups}
use Rattle.graph.specs.ForProofs.{HasEnds, passes_near, Dropped, enough, enough_at, OfSite, Drawn, DrawnAfter, Holds, FoundIn, GroupsFound, Neighbours, NeighboursRead}
use Rattle.graph.proofs.Words.{set_passes, passes_set}
use Rattle.graph.proofs.Edges.{dropped_cong}

-- the second half of similarity: enough common neighbours for the two sizes
abbrev pub meets : Network → ℕ → ℕ → Bool
meets g u v = meets_epsilon g.p g.q (common_neighbours g u v) (neighbourhood_size g u) (neighbourhood_size g v)

-- a symmetric relation that holds only along edges, and of a handset with itself
pub record Along (s : List ℕ) (R : ℕ → ℕ → Bool) : Type 0 where
  pub symmetric : (u v : ℕ) → R u v ≡ R v u
  pub only : (u v : ℕ) → T (R u v) → (u ≡ v) ⊎ T (adjacent s u v)

module _ (s : List ℕ) (R : ℕ → ℕ → Bool) (along : Along s R) where
  -- R of the ends is R of what the edge joins
  at_ends : (u v t : ℕ) → T (joins (edge_records s) u v t) → R (end_a (edge_records s) t) (end_b (edge_records s) t) ≡ R u v
  at_ends u v t j =
      ⊎_elim (λ w. ap₂ R w.0 w.1) (λ w. ap₂ R w.0 w.1 ∙ along.symmetric v u) (joins_cases (edge_records s) u v t j)

-- what is left of P without the edges that pass `gone`, if these are just the edges of P whose ends are not in R
module _ (s : List ℕ) (P R : ℕ → ℕ → Bool) (p : Along s P) (r : Along s R) (within-P : (u v : ℕ) → T (R u v) → T (P u v)) (self : (u : ℕ) → T (P u u) → T (R u u)) (gone : ℕ → Bool)
    (only : (k : ℕ) → T (gone k) → (k < edge_count s) × T (not (R (end_a (edge_records s) k) (end_b (edge_records s) k))))
    (each : (k : ℕ) → k < edge_count s → T (P (end_a (edge_records s) k) (end_b (edge_records s) k)) → T (not (R (end_a (edge_records s) k) (end_b (edge_records s) k))) → T (gone k))
    {ws after : List ℕ} (d : Dropped (edge_records s) gone ws after) where
  left_in : (u v : ℕ) (b : Bool) → u < 512 → v < 512 → cell ws u v ≡ bit (b && P u v) → T (R u v) → cell after u v ≡ bit (b && R u v)
  left_in u v b hu hv e y =
      d.kept u v hu hv (λ k g j. T_not (R (end_a (edge_records s) k) (end_b (edge_records s) k)) (only k g).1 (subst (λ (x : Bool). T x) (sym (at_ends s R r u v k j)) y))
      ∙ e ∙ ap (λ (x : Bool). bit (b && x)) (T_true (P u v) (within-P u v y) ∙ sym (T_true (R u v) y))

  left_out : (u v : ℕ) → u < 512 → v < 512 → T (P u v) → T (not (R u v)) → cell after u v ≡ 0
  unfolding adjacent
  left_out u v hu hv y n =
      ⊎_elim
      (λ q. absurd (T_not (R u v) n (subst (λ (x : ℕ). T (R u x)) q (self u (subst (λ (x : ℕ). T (P u x)) (sym q) y)))))
      (λ w.
      let i = any_take (edge_count s) (joins (edge_records s) u v) w in
      d.out u v i.0 hu hv
      (each i.0 i.1 (subst (λ (x : Bool). T x) (sym (at_ends s P p u v i.0 i.2)) y) (subst (λ (x : Bool). T (not x)) (sym (at_ends s R r u v i.0 i.2)) n)) i.2)
      (p.only u v y)

  left_none : (u v : ℕ) (b : Bool) → u < 512 → v < 512 → cell ws u v ≡ bit (b && P u v) → T (not (P u v)) → cell after u v ≡ 0
  left_none u v b hu hv e n =
      omega (arith, d.most u v hu hv, e, bit_false (b && P u v) (not_T (b && P u v) (λ t. T_not (P u v) n (and_right b (P u v) t))))

  -- the table left
  pub dropped_is : (b : ℕ → ℕ → Bool) → Table ws (λ u v. b u v && P u v) → Table after (λ u v. b u v && R u v)
  dropped_is b t = record {
    bits = λ u v hu hv.
        let e = t.bits u v hu hv in
        ⊎_elim
        (λ y. left_in u v (b u v) hu hv e y)
        (λ n.
        ⊎_elim (λ y. left_out u v hu hv y n) (λ m. left_none u v (b u v) hu hv e m) (decide (P u v))
        ∙ sym (bit_false (b u v && R u v) (not_T (b u v && R u v) (λ x. T_not (R u v) n (and_right (b u v) (R u v) x)))))
        (decide (R u v));
  }

module _ (s : List ℕ) (ok : Accepted s) where
  neighbour_along : Along s (neighbour s)
  neighbour_along = record { symmetric = neighbour_comm s; only = neighbour_cases s }

  -- u is v, or they are the ends of an edge
  abbrev self_or_adjacent : ℕ → ℕ → Bool
  self_or_adjacent u v = eqb u v || adjacent s u v

  self_or_adjacent_along : Along s self_or_adjacent
  self_or_adjacent_along = record {
    symmetric = λ u v. ap₂ ◌||◌ (eqb_comm u v) (adjacent_comm s u v);
    only = λ u v t. ⊎_elim (λ x. inl (eqb→eq u v x)) (λ x. inr x) (or_cases (eqb u v) (adjacent s u v) t);
  }

  -- the table of all edges
  related_is : (u v : ℕ) → related s u v ≡ (both (network s) u v && self_or_adjacent u v)
  unfolding related adjacent
  related_is u v =
      T-ext (related s u v) (both (network s) u v && self_or_adjacent u v)
      (λ t.
      ⊎_elim
      (λ x.
      let h = ltb→lt u (handset_count s) (and_left (ltb u (handset_count s)) (eqb u v) x) in
      let e : u ≡ v = eqb→eq u v (and_right (ltb u (handset_count s)) (eqb u v) x) in
      make u v h (omega (arith, h, e)) (or_left (eqb u v) (adjacent s u v) (and_right (ltb u (handset_count s)) (eqb u v) x)))
      (λ x.
      let i = any_take (edge_count s) (joins (edge_records s) u v) x in
      let b = ends_below s ok i.0 i.1 in
      let h : (u < handset_count s) × (v < handset_count s) =
      ⊎_elim
      (λ w. (omega (arith, b.0, w.0), omega (arith, b.1, w.1)))
      (λ w. (omega (arith, b.1, w.1), omega (arith, b.0, w.0)))
      (joins_cases (edge_records s) u v i.0 i.2) in
      make u v h.0 h.1 (or_right (eqb u v) (adjacent s u v) x))
      (or_cases (ltb u (handset_count s) && eqb u v) (any (edge_count s) (joins (edge_records s) u v)) t))
      (λ t.
      let b = and_left (both (network s) u v) (self_or_adjacent u v) t in
      ⊎_elim
      (λ x.
      or_left (ltb u (handset_count s) && eqb u v) (any (edge_count s) (joins (edge_records s) u v))
      (and_make (ltb u (handset_count s)) (eqb u v) (and_left (ltb u (handset_count s)) (ltb v (handset_count s)) b) x))
      (λ x. or_right (ltb u (handset_count s) && eqb u v) (any (edge_count s) (joins (edge_records s) u v)) x)
      (or_cases (eqb u v) (adjacent s u v) (and_right (both (network s) u v) (self_or_adjacent u v) t)))
    where
      make : (u v : ℕ) → u < handset_count s → v < handset_count s → T (self_or_adjacent u v) → T (both (network s) u v && self_or_adjacent u v)
      make u v hu hv r =
          and_make (both (network s) u v) (self_or_adjacent u v)
          (and_make (ltb u (handset_count s)) (ltb v (handset_count s)) (lt→ltb u (handset_count s) hu) (lt→ltb v (handset_count s) hv)) r

  -- the edge is far where it is one of the image's and its ends are not neighbours
  abbrev pub far_edge : ℕ → Bool
  far_edge k = ltb k (edge_count s) && not (ends_near s (network s) k)

  -- dropping these leaves the neighbour relation
  pub neighbour_table : {ws after : List ℕ} → Table ws (related s) → Dropped (edge_records s) far_edge ws after → Table after (neighbour_in (network s))
  unfolding neighbour_in
  neighbour_table t d =
      dropped_is s self_or_adjacent (neighbour s) self_or_adjacent_along neighbour_along
      (λ u v x. ⊎_elim (λ e. or_left (eqb u v) (adjacent s u v) (eqb_of u v e)) (λ w. or_right (eqb u v) (adjacent s u v) w) (neighbour_cases s u v x))
      (λ u x. neighbour_self s u)
      far_edge
      (λ k x. (ltb→lt k (edge_count s) (and_left (ltb k (edge_count s)) (not (ends_near s (network s) k)) x), and_right (ltb k (edge_count s)) (not (ends_near s (network s) k)) x))
      (λ k h x n. and_make (ltb k (edge_count s)) (not (ends_near s (network s) k)) (lt→ltb k (edge_count s) h) n)
      d (both (network s)) (table_cong (related s) (λ u v. both (network s) u v && self_or_adjacent u v) (λ u v hu hv. related_is u v) t)

  -- the network of the whole site
  pub network_of_site : OfSite s (network s)
  network_of_site = record { same_n = refl; same_p = refl; same_q = refl; same_mu = refl; sound = accepted_sound s ok; along = neighbour_cases s }

module _ (s : List ℕ) (g : Network) (o : OfSite s g) where
  along_neighbour : Along s g.neighbour
  along_neighbour = record { symmetric = o.sound.neighbour_sym; only = o.along }

  along_similar : Along s (similar g)
  unfolding similar
  along_similar = record { symmetric = similar_sym o.sound; only = λ u v t. o.along u v (and_left (g.neighbour u v) (meets g u v) t) }

  -- dropping those of the neighbour table whose ends are not similar leaves the similarity relation
  pub similar_table : {ws after : List ℕ} (gone : ℕ → Bool)
      → ((k : ℕ) → T (gone k) → (k < edge_count s) × T (not (meets g (end_a (edge_records s) k) (end_b (edge_records s) k))))
      → ((k : ℕ) → k < edge_count s → T (ends_near s g k) → T (not (meets g (end_a (edge_records s) k) (end_b (edge_records s) k))) → T (gone k))
      → Table ws (neighbour_in g) → Dropped (edge_records s) gone ws after → Table after (similar_in g)
  unfolding neighbour_in similar_in similar
  similar_table gone only each t d =
      dropped_is s g.neighbour (similar g) along_neighbour along_similar
      (λ u v x. and_left (g.neighbour u v) (meets g u v) x)
      (λ u x. similar_self o.sound u x)
      gone
      (λ k x.
      let a : ℕ = end_a (edge_records s) k in
      let b : ℕ = end_b (edge_records s) k in
      ((only k x).0, not_T (g.neighbour a b && meets g a b) (λ y. T_not (meets g a b) (only k x).1 (and_right (g.neighbour a b) (meets g a b) y))))
      (λ k h y n.
      let a : ℕ = end_a (edge_records s) k in
      let b : ℕ = end_b (edge_records s) k in
      each k h y
      (not_T (meets g a b) (λ z. T_not (g.neighbour a b && meets g a b) n (and_make (g.neighbour a b) (meets g a b) y z))))
      d (both g) t

-- ---- the header and the records of an image
pub record Read (s : List ℕ) (h : Header) : Type 0 where
  pub n_is : h.n ≡ handset_count s
  pub m_is : h.m ≡ edge_count s
  pub limit_is : h.limit ≡ limit_of s
  pub p_is : h.p ≡ epsilon_num s
  pub q_is : h.q ≡ epsilon_den s
  pub mu_is : h.mu ≡ (header_of s).mu
  pub length_of : h.len ≡ length s
  pub fits : Fits h

pub header_is : (s : List ℕ) (h : Header) → Accepted s → h ≡ header_of s → Read s h
header_is s h ok e = record {
  n_is = ap (λ (x : Header). x.n) e;
  m_is = ap (λ (x : Header). x.m) e;
  limit_is = ap (λ (x : Header). x.limit) e;
  p_is = ap (λ (x : Header). x.p) e;
  q_is = ap (λ (x : Header). x.q) e;
  mu_is = ap (λ (x : Header). x.mu) e;
  length_of = ap (λ (x : Header). x.len) e ∙ length_is s ok;
  fits = subst Fits (sym e) (accepted_fits s ok);
}

pub core_size_is : (s : List ℕ) (r m : ℕ) → r ≡ core_size m → m ≡ (header_of s).mu → r ≡ mu s
unfolding mu
core_size_is s r m e d = e ∙ ap core_size d

-- ---- the counts of a table are those of the network
row_count : {ws : List ℕ} (f : ℕ → ℕ → Bool) (u : ℕ) → Table ws f → u < 512 → sum 512 (λ w. cell ws u w) ≡ count 512 (f u)
row_count {ws} f u t h = sum_cong 512 (λ w. cell ws u w) (λ w. bit (f u w)) (λ w l. t.bits u w h l) ∙ sym (count_sum 512 (f u))

min_bit : (a b : Bool) → min (bit a) (bit b) ≡ bit (a && b)
min_bit true true = refl
min_bit true false = refl
min_bit false true = refl
min_bit false false = refl

-- nothing is counted from n on
count_in : (b n : ℕ) (f : ℕ → Bool) → n ≤ b → ((v : ℕ) → n ≤ v → T (not (f v))) → count b f ≡ count n f
count_in b n f h z = count_at b ((b - n) + n) f (omega arith) ∙ count_wide n (b - n) f z

module _ (g : Network) (small : g.n ≤ 512) where
  both_yes : (u v : ℕ) (b : Bool) → u < g.n → v < g.n → (both g u v && b) ≡ b
  both_yes u v b hu hv =
      ap (λ (x : Bool). x && b) (T_true (both g u v) (and_make (ltb u g.n) (ltb v g.n) (lt→ltb u g.n hu) (lt→ltb v g.n hv)))

  both_no : (u v : ℕ) (b : Bool) → g.n ≤ v → T (not (both g u v && b))
  both_no u v b h =
      not_T (both g u v && b) (λ t. absurd (omega (arith, ltb→lt v g.n (and_right (ltb u g.n) (ltb v g.n) (and_left (both g u v) b t)))))

  row_in_lem : {ws : List ℕ} (R : ℕ → ℕ → Bool) (u : ℕ) → Table ws (λ x y. both g x y && R x y) → u < g.n → sum 512 (λ w. cell ws u w) ≡ count g.n (R u)
  row_in_lem R u t h =
      row_count (λ x y. both g x y && R x y) u t (omega arith)
      ∙ count_in 512 g.n (λ v. both g u v && R u v) small (λ v l. both_no u v (R u v) l)
      ∙ count_cong g.n (λ v. both g u v && R u v) (R u) (λ v l. both_yes u v (R u v) h l)

  pub neighbour_size : {ws : List ℕ} (u : ℕ) → Table ws (neighbour_in g) → u < g.n → sum 512 (λ w. cell ws u w) ≡ neighbourhood_size g u
  unfolding neighbour_in neighbourhood_size
  neighbour_size u t h = row_in_lem g.neighbour u t h

  pub similar_size : {ws : List ℕ} (u : ℕ) → Table ws (similar_in g) → u < g.n → sum 512 (λ w. cell ws u w) ≡ count g.n (similar g u)
  unfolding similar_in
  similar_size u t h = row_in_lem (similar g) u t h

  neighbour_is : (u v : ℕ) → u < g.n → v < g.n → neighbour_in g u v ≡ g.neighbour u v
  unfolding neighbour_in
  neighbour_is u v hu hv = both_yes u v (g.neighbour u v) hu hv

  neighbour_past : (u v : ℕ) → g.n ≤ v → T (not (neighbour_in g u v))
  unfolding neighbour_in
  neighbour_past u v h = both_no u v (g.neighbour u v) h

  pub neighbour_common : {ws : List ℕ} (u v : ℕ) → Table ws (neighbour_in g) → u < g.n → v < g.n
      → sum 512 (λ w. min (cell ws u w) (cell ws v w)) ≡ common_neighbours g u v
  unfolding common_neighbours
  neighbour_common {ws} u v t hu hv =
      sum_cong 512 (λ w. min (cell ws u w) (cell ws v w)) (λ w. bit (neighbour_in g u w && neighbour_in g v w))
      (λ w l. ap₂ min (t.bits u w (omega arith) l) (t.bits v w (omega arith) l) ∙ min_bit (neighbour_in g u w) (neighbour_in g v w))
      ∙ sym (count_sum 512 (λ w. neighbour_in g u w && neighbour_in g v w))
      ∙ count_in 512 g.n (λ w. neighbour_in g u w && neighbour_in g v w) small
      (λ w l. not_T (neighbour_in g u w && neighbour_in g v w) (λ x. T_not (neighbour_in g u w) (neighbour_past u w l) (and_left (neighbour_in g u w) (neighbour_in g v w) x)))
      ∙ count_cong g.n (λ w. neighbour_in g u w && neighbour_in g v w) (λ w. g.neighbour u w && g.neighbour v w)
      (λ w l. ap₂ ◌&&◌ (neighbour_is u w hu l) (neighbour_is v w hv l))

  -- the test of two handsets by the table and its sizes
  pub enough_is : {ws sizes : List ℕ} (u v p q : ℕ) → Table ws (neighbour_in g) → Counted ws sizes → u < g.n → v < g.n → p ≡ g.p → q ≡ g.q
      → enough ws sizes p q u v ≡ meets g u v
  unfolding meets_epsilon
  enough_is {ws} {sizes} u v p q t c hu hv ep eq =
      rw (c.rows u (omega arith) ∙ neighbour_size u t hu, c.rows v (omega arith) ∙ neighbour_size v t hv, ep, eq, neighbour_common u v t hu hv) refl

  -- the cores, by the sizes of the similarity table
  pub cores_set : {ws similar-rows sizes : List ℕ} (n m : ℕ) → n ≡ g.n → m ≡ g.mu → Table similar-rows (similar_in g) → Counted similar-rows sizes
      → SetOf ws (λ u. ltb u n && leb m (get_or sizes u 0)) → SetOf ws (core_in g)
  unfolding core_in is_core
  cores_set {ws} {similar-rows} {sizes} n m en em t counted c = record {
    size = c.size;
    bits = λ u h. c.bits u h ∙ ap₂ (λ (x y : ℕ). bit (ltb u x && leb y (get_or sizes u 0))) en em ∙ ap bit (
        ⊎_elim
        (λ y. ap (λ (x : ℕ). ltb u g.n && leb g.mu x) (counted.rows u h ∙ similar_size u t (ltb→lt u g.n y)))
        (λ n. ap (λ (b : Bool). b && leb g.mu (get_or sizes u 0)) (T_false (ltb u g.n) n)
        ∙ sym (ap (λ (b : Bool). b && leb g.mu (count g.n (similar g u))) (T_false (ltb u g.n) n)))
        (decide (ltb u g.n)));
  }

-- ---- the near edges and the near counts
pub near_count : (s : List ℕ) (g : Network) {near : List ℕ} → edge_count s ≤ edges_most → EdgeSet near (is_near_edge s g)
    → sum edges_most (bit_at near) ≡ near_edges s g
unfolding near_edges
near_count s g {near} h t =
    sum_cong edges_most (bit_at near) (λ k. bit (is_near_edge s g k)) (λ k l. t.bits k l)
    ∙ sym (count_sum edges_most (is_near_edge s g))
    ∙ count_in edges_most (edge_count s) (is_near_edge s g) h
    (λ k l. not_T (is_near_edge s g k) (λ y. absurd (omega (arith, ltb→lt k (edge_count s) (and_left (ltb k (edge_count s)) (ends_near s g k) y)))))
    ∙ count_cong (edge_count s) (is_near_edge s g) (ends_near s g) (λ k l. ap (λ (b : Bool). b && ends_near s g k) (T_true (ltb k (edge_count s)) (lt→ltb k (edge_count s) l)))

-- nothing is counted
count_nothing : (n : ℕ) (f : ℕ → Bool) → ((v : ℕ) → T (not (f v))) → count n f ≡ 0
count_nothing n f z = count_cong n f (λ v. false) (λ v h. T_false (f v) (z v)) ∙ count_false n

pub near_counts : {g : Network} {ws sizes : List ℕ} → g.n ≤ 512 → length sizes ≡ 512 → Table ws (neighbour_in g) → Counted ws sizes → NearCounts g sizes
unfolding neighbour_in
near_counts {g} {ws} small long t c = record {
  size = long;
  each = λ u h. c.rows u (omega (arith, h, small)) ∙ neighbour_size g small u t h;
  past = λ u h l.
      c.rows u l ∙ row_count (neighbour_in g) u t l
      ∙ count_nothing 512 (neighbour_in g u) (λ v. not_T (both g u v && g.neighbour u v) (λ x.
      absurd (omega (arith, h, ltb→lt u g.n (and_left (ltb u g.n) (ltb v g.n) (and_left (both g u v) (g.neighbour u v) x))))));
}

-- ---- what is told and left of an image
module _ {s : List ℕ} {a : Result Header Refusal} {rows sizes : List ℕ} (r : Reading s a rows sizes) where
  opened_is : a ≡ open_of s
  opened_is = open_same a (open_of s) r.answered

  pub told_yes : (h : Header) → a ≡ Ok h → Accepted s × (h ≡ header_of s)
  told_yes h e = accepted s h (sym opened_is ∙ e)

  pub read_yes : {near ws sizes' : List ℕ} (h : Header) → a ≡ Ok h → Neighbours s near ws sizes'
      → NeighboursRead s (Ok h) near ws sizes'
  read_yes h e k = record {
    answered = sym e ∙ opened_is;
    neighbours = λ g d. k;
    cleared = λ y d. given_refused _ _ y (ap open_answer d);
  }

-- ---- the two steps
module _ (s : List ℕ) (h : Header) (ok : Accepted s) (e : h ≡ header_of s) where
  read : Read s h
  read = header_is s h ok e

  pub handsets_at_most : handset_count s ≤ 512
  handsets_at_most = omega (arith, read.n_is, read.fits.n_limit)

  pub edges_most_lem : edge_count s ≤ edges_most
  edges_most_lem = omega (arith, read.m_is, read.fits.m_limit)

  -- an edge of the image
  pub edges_ready : (n k : ℕ) → handset_count s ≤ n → k < h.m → HasEnds (edge_slice s h) n k
  edges_ready n k l q =
      let b = ends_below s ok k (omega (arith, q, read.m_is)) in
      let a : end_a (edge_slice s h) k ≡ end_a (edge_records s) k = ap (λ (records : List ℕ). end_a records k) (edge_slice_is s h e) in
      let a' : end_b (edge_slice s h) k ≡ end_b (edge_records s) k = ap (λ (records : List ℕ). end_b records k) (edge_slice_is s h e) in (
        omega (arith, q, read.fits.m_limit),
        omega (arith, q, ap length (edge_slice_is s h e), edges_length s ok.header, read.m_is),
        omega (arith, b.0, a, l),
        omega (arith, b.1, a', l),
      )

  -- all handsets have their records in the slice
  pub handset_slice_length : length (handset_slice s h) ≡ handset_bytes * handset_count s
  handset_slice_length = ap length (handset_slice_is s h e) ∙ handsets_length s ok.header

  -- the near test of an edge by the records
  edge_is_near : (k : ℕ) → k < edge_count s → passes_near (handset_records s) (edge_records s) h.limit k ≡ ends_near s (network s) k
  unfolding neighbour
  edge_is_near k l =
      ap (λ (x : ℕ). passes_near (handset_records s) (edge_records s) x k) read.limit_is ∙ ap is_near (sym (edge_proximity_lem s ok k l))

  passed_is : (f : Bool → Bool) (k : ℕ)
      → (ltb k h.m && f (passes_near (handset_records s) (edge_records s) h.limit k)) ≡ (ltb k (edge_count s) && f (ends_near s (network s) k))
  passed_is f k =
      ap (λ (m : ℕ). ltb k m && f (passes_near (handset_records s) (edge_records s) h.limit k)) read.m_is
      ∙ ⊎_elim
      (λ y. ap (λ (b : Bool). ltb k (edge_count s) && f b) (edge_is_near k (ltb→lt k (edge_count s) y)))
      (λ n. rw (T_false (ltb k (edge_count s)) n))
      (decide (ltb k (edge_count s)))

  pub neighbours_kept : {near ws after sizes : List ℕ} → Table ws (related s)
      → EdgeSet near (λ k. ltb k h.m && passes_near (handset_records s) (edge_records s) h.limit k)
      → Dropped (edge_records s) (λ k. ltb k h.m && not (passes_near (handset_records s) (edge_records s) h.limit k)) ws after
      → Counted after sizes → Neighbours s near after sizes
  neighbours_kept {near} {ws} {after} t set d c = record {
    near_set = record { size = set.size; bits = λ k l. set.bits k l ∙ ap bit (passed_is (λ b. b) k) };
    table =
        neighbour_table s ok t
        (dropped_cong (λ k. ltb k h.m && not (passes_near (handset_records s) (edge_records s) h.limit k)) (far_edge s ok)
        (λ k x. subst (λ (b : Bool). T b) (passed_is not k) x)
        (λ k x. subst (λ (b : Bool). T b) (sym (passed_is not k)) x)
        d);
    counted = c;
  }

  -- the site's edges and table
  pub neighbours_drawn : {near ws sizes : List ℕ} → Neighbours s near ws sizes → Drawn s h near ws sizes
  neighbours_drawn k = record {
    accepted = ok;
    header = e;
    near_below = λ i x. ltb→lt i (edge_count s) (and_left (ltb i (edge_count s)) (ends_near s (network s) i) (set_passes k.near_set i x).1);
    counted = k.counted;
  }

  pub neighbours_hold : {near ws sizes : List ℕ} → Neighbours s near ws sizes → Holds s (network s) near ws
  neighbours_hold k = record { of_site = network_of_site s ok; near_set = k.near_set; table = k.table }

  module _ {near ws sizes : List ℕ} (kept : Drawn s h near ws sizes) where
    pub near_ready : (k : ℕ) → bit_at near k ≡ 1 → k < h.m
    near_ready k x = omega (arith, kept.near_below k x, read.m_is)

    module _ {dissimilar : List ℕ} (made : EdgeSet dissimilar (λ k. eqb (bit_at near k) 1 && not (enough_at ws sizes h.p h.q (edge_records s) k))) where
      -- an edge of the new set is one of the old, and its ends do not have enough in common
      dissimilar_in : (k : ℕ) → bit_at dissimilar k ≡ 1 → (bit_at near k ≡ 1) × T (not (enough_at ws sizes h.p h.q (edge_records s) k))
      dissimilar_in k x =
          let y = (set_passes made k x).1 in
          let t : Bool = not (enough_at ws sizes h.p h.q (edge_records s) k) in
          (eqb→eq (bit_at near k) 1 (and_left (eqb (bit_at near k) 1) t y), and_right (eqb (bit_at near k) 1) t y)

      pub dissimilar_ready : (k : ℕ) → bit_at dissimilar k ≡ 1 → k < h.m
      dissimilar_ready k x = near_ready k (dissimilar_in k x).0

      module _ (g : Network) (holds : Holds s g near ws) where
        of_site : OfSite s g
        of_site = holds.of_site

        handsets_most_lem : g.n ≤ 512
        handsets_most_lem = omega (arith, of_site.same_n, handsets_at_most)

        test_is : (k : ℕ) → k < edge_count s → enough_at ws sizes h.p h.q (edge_records s) k ≡ meets g (end_a (edge_records s) k) (end_b (edge_records s) k)
        test_is k l =
            let b = ends_below s ok k l in
            enough_is g handsets_most_lem (end_a (edge_records s) k) (end_b (edge_records s) k) h.p h.q holds.table kept.counted
            (omega (arith, b.0, of_site.same_n)) (omega (arith, b.1, of_site.same_n)) (read.p_is ∙ sym of_site.same_p) (read.q_is ∙ sym of_site.same_q)

        pub surveyed : {after sizes' cores : List ℕ} {least : ℕ} → Dropped (edge_records s) (λ k. eqb (bit_at dissimilar k) 1) ws after → Counted after sizes'
            → least ≡ core_size h.mu
            → SetOf cores (λ u. ltb u h.n && leb least (get_or sizes' u 0)) → Surveyed g after cores
        surveyed {after} {sizes'} {cores} {least} d counted mu-read set =
            let t : Table after (similar_in g) =
            similar_table s g of_site (λ k. eqb (bit_at dissimilar k) 1)
            (λ k x.
            let y = dissimilar_in k (eqb→eq (bit_at dissimilar k) 1 x) in
            let l = kept.near_below k y.0 in
            (l, subst (λ (b : Bool). T (not b)) (test_is k l) y.1))
            (λ k l w n.
            let small-edge : k < edges_most = omega (arith, l, edges_most_lem) in
            passes_set made k small-edge
            (and_make (eqb (bit_at near k) 1) (not (enough_at ws sizes h.p h.q (edge_records s) k))
            (passes_set holds.near_set k small-edge (and_make (ltb k (edge_count s)) (ends_near s g k) (lt→ltb k (edge_count s) l) w))
            (subst (λ (b : Bool). T (not b)) (sym (test_is k l)) n)))
            holds.table
            d in
            record {
              sound = of_site.sound;
              most = handsets_most_lem;
              similar_table = t;
              core_set =
                  cores_set g handsets_most_lem h.n least (read.n_is ∙ sym of_site.same_n)
                  (core_size_is s least h.mu mu-read read.mu_is ∙ sym of_site.same_mu) t counted set;
            }

-- ---- what the search leaves
pub found_in : {g : Network} {after cores rows : List ℕ} {r : ℕ} → Surveyed g after cores → length after ≡ table_words → SearchCall after cores rows r
    → FoundIn g r rows cores
unfolding bit_at
found_in {g} {after} {cores} {rows} {r} y long call = record {
  core_set = y.core_set;
  grouped = search_grouped y long call;
  rest = λ j v h l q.
      ap (λ (w : ℕ). bit_of w ((j * 512 + v) % 64)) ((call.searched (long, y.core_set.size)).kept ((j * 512 + v) / 64) (omega arith))
      ∙ y.similar_table.bits j v l q;
}

-- ---- the outcome of a call
pub groups_are : {s : List ℕ} {g : Network} {groups tests : ℕ} {near ws table sizes cores : List ℕ} → Accepted s → length sizes ≡ 512
    → Neighbours s near ws sizes
    → FoundIn g groups table cores → tests ≡ near_edges s g → Groups s g groups tests near table sizes cores
groups_are {s} ok long k f t = record {
  near_set = k.near_set;
  counts = near_counts (handsets_at_most s (header_of s) ok refl) long k.table k.counted;
  core_set = f.core_set;
  grouped = f.grouped;
  rest = f.rest;
  tested = t;
}

module _ {s : List ℕ} {opened : Result Header Refusal} {near ws sizes : List ℕ} (n : NeighboursRead s opened near ws sizes) where
  -- the answer was a yes
  pub said_yes : (h : Header) → opened ≡ Ok h → Accepted s × (h ≡ header_of s)
  said_yes h e = accepted s h (sym n.answered ∙ e)

  pub drawn_after : DrawnAfter s opened near ws sizes
  drawn_after h e = let a = said_yes h e in neighbours_drawn s h a.0 a.1 (n.neighbours h e)

  pub holds_after : (h : Header) → opened ≡ Ok h → Holds s (network s) near ws
  holds_after h e = let a = said_yes h e in neighbours_hold s h a.0 a.1 (n.neighbours h e)

  -- what was found of a network that the tables held then
  pub site_found : {g : Network} {r : SiteGroups} {near' ws' after cores : List ℕ} → Room after sizes → GroupsFound s opened near' ws' r after cores
      → ((h : Header) → opened ≡ Ok h → Holds s g near' ws') → ((x : Refusal) → opened ≡ Err x → ws' ≡ ws)
      → SiteFound s g r near after sizes cores
  site_found {g} room f holds same = record {
    answered = f.answered ∙ n.answered;
    room = room;
    found = λ h e.
        let d = sym f.answered ∙ e in
        let a = said_yes h d in
        groups_are a.0 room.1 (n.neighbours h d) ((f.found h d).each g (holds h d))
        (f.tested h d ∙ near_count s g (edges_most_lem s h a.0 a.1) (holds h d).near_set);
    cleared = λ x e.
        let d = sym f.answered ∙ e in
        let c = f.refused x d in
        let z = n.cleared x d in
        (c.0, c.1, z.0, (c.2 ∙ same x d ∙ z.1.0, z.1.1), c.3);
  }
