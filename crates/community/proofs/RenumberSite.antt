-- A renumbered image is accepted where the first is, and its network is the first one's, renumbered. The header is the same byte by byte; a record
-- that is moved whole reads the same; an edge of the second image comes from just one of the first, so a repeat or a loop there would be one here.
--
--     accepted_too      the second image is accepted
--     network_moved     its network is the first one's with another neighbour relation
--     moved             that relation is the first one's, renumbered
--     community_numbered_back, community_numbered_on     a set is a community of the one exactly when it is one of the other, renumbered
--     image_communities, image_memberships               there are as many
--     image_roles       each handset has the same role, but for a core's number, and the same near count
use Prim.Native.Nat.{ℕ, ◌+◌, ◌*◌, ◌≤◌, ◌<◌}
use native.Mathlib.Omega.{arith}
use mathlib.Core.Path.{◌≡◌, sym, ap, ◌∙◌, subst}
use mathlib.Core.Logic.{⊎_elim}
use mathlib.Core.Bool.{Bool, true, false, ◌&&◌, not}
use mathlib.Core.List.{List}
use lib.Dec.{T, T_not, not_T, leb→le, ltb, lt→ltb, eqb, eqb→eq}
use lib.ListN.{length, get_or, drop, length-take, length-drop}
use lib.Seq.{get_or-take, get_or-drop, ext_get_or}
use Rattle.sets.specs.Below.{any}
use Rattle.sets.proofs.Tests.{and_make, any_make, any_take, eqb_of, T-ext, three}
use Rattle.sets.proofs.Counting.{to_apart, inverse, count_le, sum_across}
use Rattle.little_endian.specs.Bytes.{number}
use Rattle.fields.specs.Fields.{handset_bytes, core_size}
use Rattle.little_endian.proofs.Bytes.{number_cong}
use Rattle.limits.specs.Limits.{out_of_limits}
use Rattle.image.specs.Image.{header_of, handset_count, edge_count, limit_of, mu, handset_records, edge_records, handset_record, end_a, end_b, joins, adjacent}
use Rattle.image.specs.Questions.{bad_end, is_loop, repeats_earlier, HeaderAccepted, Accepted}
use Rattle.image.specs.declared.Header.{Header}
use Rattle.near.specs.Near.{proximity, is_near, neighbour}
use Rattle.image.proofs.Acceptance.{handsets_length, ends_below}
use Rattle.community.specs.Network.{Network, IsCommunity, is_leader, reachable, communities, role, neighbourhood_size}
use Rattle.community.specs.Tables.{member_table}
use Rattle.community.specs.Site.{network}
use Rattle.community.specs.Renumbered.{Renumbered, SamePair, NumberedBack, SameRole}
use Rattle.community.specs.ForProofs.{Sound}
use Rattle.community.proofs.Site.{network_sound, accepted_sound}
use Rattle.community.proofs.Edges.{joins_make, joins_take, pair_sym, pair_trans, pair_map, pair_back}
use Rattle.community.proofs.Bound.{memberships}
use Rattle.community.proofs.Renumber.{with_neighbour, Moved, back_moved, community_back, leaders_reaching, leaders_reaching_moved, length_communities_moved, neighbourhood_size_moved}
use Rattle.community.proofs.Roles.{role_moved}

module _ (s t : List ℕ) (r : Renumbered s t) (ok : Accepted s) where
  long : 32 ≤ length s
  long = leb→le 32 (length s) ok.header.q1

  -- ---- the header's numbers
  head : (w a : ℕ) → a + w ≤ 32 → number w t a ≡ number w s a
  head w a h = number_cong w s t a a (omega (arith, long)) (omega (arith, long, r.same_length)) (λ i l. r.header (a + i) (omega arith))

  same_header : header_of t ≡ header_of s
  unfolding header_of
  same_header = λ i. record {
    n = head 2 0 (omega arith) i;
    m = head 2 2 (omega arith) i;
    handsets = head 4 4 (omega arith) i;
    edges = head 4 8 (omega arith) i;
    len = head 4 12 (omega arith) i;
    limit = head 8 16 (omega arith) i;
    p = head 2 24 (omega arith) i;
    q = head 2 26 (omega arith) i;
    mu = head 2 28 (omega arith) i;
    width = head 2 30 (omega arith) i;
  }

  pub same_handsets : handset_count t ≡ handset_count s
  same_handsets = ap (λ (h : Header). h.n) same_header

  same_edges : edge_count t ≡ edge_count s
  same_edges = ap (λ (h : Header). h.m) same_header

  same_limit : limit_of t ≡ limit_of s
  same_limit = ap (λ (h : Header). h.limit) same_header

  header_t : HeaderAccepted t
  header_t = record {
    q1 = rw r.same_length ok.header.q1;
    q2 = rw (same_header, r.same_length) ok.header.q2;
    q3 = rw same_header ok.header.q3;
    q4 = rw same_header ok.header.q4;
    q5 = rw same_header ok.header.q5;
    q6 = rw same_header ok.header.q6;
  }

  -- ---- handset records
  record_long : (records : List ℕ) (v : ℕ) → length records ≡ handset_bytes * handset_count s → v < handset_count s → length (handset_record records v) ≡ handset_bytes
  unfolding handset_record
  record_long records v e h = simp (length-take, length-drop) (omega arith)

  record_at : (records : List ℕ) (v i : ℕ) → i < handset_bytes → get_or (handset_record records v) i 0 ≡ get_or records (handset_bytes * v + i) 0
  unfolding handset_record
  record_at records v i h = get_or-take handset_bytes (drop (handset_bytes * v) records) i 0 h ∙ get_or-drop (handset_bytes * v) records i 0

  record_moved : (v : ℕ) → v < handset_count s → handset_record (handset_records t) (r.map.to v) ≡ handset_record (handset_records s) v
  record_moved v h =
      let to = r.map.to v in
      let long-t = record_long (handset_records t) to (handsets_length t header_t ∙ ap (λ (n : ℕ). handset_bytes * n) same_handsets) (r.map.to_below v h) in
      let long-s = record_long (handset_records s) v (handsets_length s ok.header) h in
      ext_get_or 0 (handset_record (handset_records t) to) (handset_record (handset_records s) v) (long-t ∙ sym long-s)
      (λ i l. let k : i < handset_bytes = omega (arith, long-t, l) in
      record_at (handset_records t) to i k ∙ r.records v i h k ∙ sym (record_at (handset_records s) v i k))

  -- ---- edges

  ends : (k : ℕ) → k < edge_count s → (end_a (edge_records s) k < handset_count s) × (end_b (edge_records s) k < handset_count s)
  ends = ends_below s ok

  -- an edge of t, and the edge of s that it comes from
  from : (k : ℕ) → k < edge_count t
      → (j : ℕ) × (j < edge_count s) × (r.order.to j ≡ k)
      × SamePair (end_a (edge_records t) k) (end_b (edge_records t) k) (r.map.to (end_a (edge_records s) j)) (r.map.to (end_b (edge_records s) j))
  from k h =
      let l : k < edge_count s = subst (λ (m : ℕ). k < m) same_edges h in
      let j : ℕ = r.order.back k in
      let e : r.order.to j ≡ k = r.order.to_back k l in (
        j,
        r.order.back_below k l,
        e,
        subst
            (λ (x : ℕ). SamePair (end_a (edge_records t) x) (end_b (edge_records t) x) (r.map.to (end_a (edge_records s) j)) (r.map.to (end_b (edge_records s) j)))
            e (r.ends j (r.order.back_below k l)),
      )

  adjacent_to : (u v : ℕ) → T (adjacent s u v) → T (adjacent t (r.map.to u) (r.map.to v))
  unfolding adjacent
  adjacent_to u v x =
      let a = any_take (edge_count s) (joins (edge_records s) u v) x in
      let k : ℕ = a.0 in
      any_make (edge_count t) (joins (edge_records t) (r.map.to u) (r.map.to v)) (r.order.to k)
      (subst (λ (m : ℕ). r.order.to k < m) (sym same_edges) (r.order.to_below k a.1))
      (joins_make (edge_records t) (r.map.to u) (r.map.to v) (r.order.to k)
      (pair_trans _ _ (r.map.to (end_a (edge_records s) k)) (r.map.to (end_b (edge_records s) k)) _ _ (r.ends k a.1)
      (pair_map r.map.to (end_a (edge_records s) k) (end_b (edge_records s) k) u v (joins_take (edge_records s) u v k a.2))))

  adjacent_from : (u v : ℕ) → u < handset_count s → v < handset_count s → T (adjacent t (r.map.to u) (r.map.to v)) → T (adjacent s u v)
  unfolding adjacent
  adjacent_from u v hu hv x =
      let a = any_take (edge_count t) (joins (edge_records t) (r.map.to u) (r.map.to v)) x in
      let f = from a.0 a.1 in
      let b = ends f.0 f.1 in
      any_make (edge_count s) (joins (edge_records s) u v) f.0 f.1
      (joins_make (edge_records s) u v f.0
      (pair_back r.map (end_a (edge_records s) f.0) (end_b (edge_records s) f.0) u v b.0 b.1 hu hv
      (pair_trans _ _ (end_a (edge_records t) a.0) (end_b (edge_records t) a.0) _ _ (pair_sym _ _ _ _ f.3)
      (joins_take (edge_records t) (r.map.to u) (r.map.to v) a.0 a.2))))

  eqb_moved : (u v : ℕ) → u < handset_count s → v < handset_count s → eqb (r.map.to u) (r.map.to v) ≡ eqb u v
  eqb_moved u v hu hv =
      T-ext (eqb (r.map.to u) (r.map.to v)) (eqb u v)
      (λ x. eqb_of u v (to_apart r.map u v hu hv (eqb→eq (r.map.to u) (r.map.to v) x)))
      (λ x. eqb_of (r.map.to u) (r.map.to v) (ap r.map.to (eqb→eq u v x)))

  -- ---- the network
  proximity_moved : (u v : ℕ) → u < handset_count s → v < handset_count s → proximity t (r.map.to u) (r.map.to v) ≡ proximity s u v
  unfolding proximity
  proximity_moved u v hu hv =
      rw (
        eqb_moved u v hu hv,
        T-ext (adjacent t (r.map.to u) (r.map.to v)) (adjacent s u v) (adjacent_from u v hu hv) (adjacent_to u v),
        record_moved u hu,
        record_moved v hv,
        same_limit,
      )

  pub moved : Moved (network s) (neighbour t) r.map
  unfolding neighbour
  moved u v hu hv = ap is_near (proximity_moved u v hu hv)

  pub network_moved : network t ≡ with_neighbour (network s) (neighbour t)
  unfolding mu
  network_moved = ap (λ (h : Header). record { n = h.n; neighbour = neighbour t; p = h.p; q = h.q; mu = core_size h.mu }) same_header

  sound_t : Sound (with_neighbour (network s) (neighbour t))
  sound_t = subst Sound network_moved (network_sound t (subst (λ (h : Header). h.p ≤ h.q) (sym same_header) (accepted_sound s ok).at_most_one))

  -- ---- questions 7 to 10
  not_not : (b : Bool) → (T (not b) → ⊥) → T b
  not_not true f = tt
  not_not false f = absurd (f tt)

  limits : (v : ℕ) → v < handset_count t → T (not (out_of_limits (handset_record (handset_records t) v)))
  limits v h =
      let l : v < handset_count s = subst (λ (m : ℕ). v < m) same_handsets h in
      let w : ℕ = r.map.back v in
      let hw : w < handset_count s = r.map.back_below v l in
      let e : r.map.to w ≡ v = r.map.to_back v l in
      subst (λ (x : ℕ). T (not (out_of_limits (handset_record (handset_records t) x)))) e (rw (record_moved w hw) (ok.q7 w hw))

  good_ends : (k : ℕ) → k < edge_count t → T (not (bad_end (edge_records t) (handset_count t) k))
  unfolding bad_end
  good_ends k h =
      let f = from k h in
      let b = ends f.0 f.1 in
      let n : ℕ = handset_count t in
      let up : (w : ℕ) → w < handset_count s → r.map.to w < n =
      λ w l. subst (λ (m : ℕ). r.map.to w < m) (sym same_handsets) (r.map.to_below w l) in
      let a1 : ℕ = end_a (edge_records t) k in
      let b1 : ℕ = end_b (edge_records t) k in
      let yes : (a1 < n) × (b1 < n) =
      ⊎_elim
      (λ e. (subst (λ (z : ℕ). z < n) (sym e.0) (up _ b.0), subst (λ (z : ℕ). z < n) (sym e.1) (up _ b.1)))
      (λ e. (subst (λ (z : ℕ). z < n) (sym e.0) (up _ b.1), subst (λ (z : ℕ). z < n) (sym e.1) (up _ b.0))) f.3 in
      not_T (not (ltb a1 n && ltb b1 n)) (λ x. T_not (ltb a1 n && ltb b1 n) x (and_make (ltb a1 n) (ltb b1 n) (lt→ltb a1 n yes.0) (lt→ltb b1 n yes.1)))

  no_loop : (k : ℕ) → k < edge_count t → T (not (is_loop (edge_records t) k))
  unfolding is_loop
  no_loop k h =
      let f = from k h in
      let b = ends f.0 f.1 in
      let a1 : ℕ = end_a (edge_records t) k in
      let b1 : ℕ = end_b (edge_records t) k in
      not_T (eqb a1 b1) (λ x.
      let e : a1 ≡ b1 = eqb→eq a1 b1 x in
      let m : r.map.to (end_a (edge_records s) f.0) ≡ r.map.to (end_b (edge_records s) f.0) =
      ⊎_elim (λ d. sym d.0 ∙ e ∙ d.1) (λ d. sym d.1 ∙ sym e ∙ d.0) f.3 in
      T_not (eqb (end_a (edge_records s) f.0) (end_b (edge_records s) f.0)) (ok.q9 f.0 f.1)
      (eqb_of (end_a (edge_records s) f.0) (end_b (edge_records s) f.0)
      (to_apart r.map (end_a (edge_records s) f.0) (end_b (edge_records s) f.0) b.0 b.1 m)))

  -- two edges of s that join the same two are one
  same_edge : (j k : ℕ) → j < edge_count s → k < edge_count s
      → SamePair (end_a (edge_records s) j) (end_b (edge_records s) j) (end_a (edge_records s) k) (end_b (edge_records s) k) → j ≡ k
  unfolding repeats_earlier
  same_edge j k hj hk p =
      ⊎_elim (λ e. e)
      (λ o. ⊎_elim (λ l. absurd (earlier j k l hk p)) (λ l. absurd (earlier k j l hj (pair_sym _ _ _ _ p))) o)
      (three j k)
    where
      earlier : (i j : ℕ) → i < j → j < edge_count s
          → SamePair (end_a (edge_records s) i) (end_b (edge_records s) i) (end_a (edge_records s) j) (end_b (edge_records s) j) → ⊥
      earlier i j l h q =
          T_not (repeats_earlier (edge_records s) j) (ok.q10 j h)
          (any_make j (joins (edge_records s) (end_a (edge_records s) j) (end_b (edge_records s) j)) i l
          (joins_make (edge_records s) (end_a (edge_records s) j) (end_b (edge_records s) j) i q))

  no_repeat : (k : ℕ) → k < edge_count t → T (not (repeats_earlier (edge_records t) k))
  unfolding repeats_earlier
  no_repeat k h =
      let test : ℕ → Bool = joins (edge_records t) (end_a (edge_records t) k) (end_b (edge_records t) k) in
      not_T (any k test) (λ x.
      let c = any_take k test x in
      let i : ℕ = c.0 in
      let fk = from k h in
      let fi = from i (omega (arith, c.1, h)) in
      let bk = ends fk.0 fk.1 in
      let bi = ends fi.0 fi.1 in
      let p : SamePair (end_a (edge_records s) fi.0) (end_b (edge_records s) fi.0) (end_a (edge_records s) fk.0) (end_b (edge_records s) fk.0) =
      pair_back r.map (end_a (edge_records s) fi.0) (end_b (edge_records s) fi.0) (end_a (edge_records s) fk.0) (end_b (edge_records s) fk.0)
      bi.0 bi.1 bk.0 bk.1
      (pair_trans _ _ (end_a (edge_records t) i) (end_b (edge_records t) i) _ _ (pair_sym _ _ _ _ fi.3)
      (pair_trans _ _ (end_a (edge_records t) k) (end_b (edge_records t) k) _ _ (joins_take (edge_records t) (end_a (edge_records t) k) (end_b (edge_records t) k) i c.2) fk.3)) in
      let e : i ≡ k = sym fi.2 ∙ ap r.order.to (same_edge fi.0 fk.0 fi.1 fk.1 p) ∙ fk.2 in
      differ i k c.1 e)
    where
      differ : (i k : ℕ) → i < k → i ≡ k → ⊥
      differ i k l e = omega arith

  pub accepted_too : Accepted t
  accepted_too = record {
    header = header_t;
    q7 = limits;
    q8 = good_ends;
    q9 = no_loop;
    q10 = no_repeat;
  }

  -- ---- what the calls say of the second image
  pub image_communities : length (communities (network s)) ≡ length (communities (network t))
  image_communities =
      length_communities_moved (network s) (neighbour t) r.map moved (accepted_sound s ok) sound_t
      ∙ ap (λ (g : Network). length (communities g)) (sym network_moved)

  pub image_memberships : length (member_table (communities (network s))) ≡ length (member_table (communities (network t)))
  unfolding leaders_reaching
  image_memberships =
      memberships (network s)
      ∙ sum_across r.map (leaders_reaching (network s)) (leaders_reaching (with_neighbour (network s) (neighbour t))) (handset_count s)
      (λ v h. count_le (handset_count s) (λ u. is_leader (network s) u && reachable (network s) u v))
      (λ v h. sym (leaders_reaching_moved (network s) (neighbour t) r.map moved (accepted_sound s ok) sound_t v h))
      ∙ sym (memberships (with_neighbour (network s) (neighbour t)))
      ∙ ap (λ (g : Network). length (member_table (communities g))) (sym network_moved)

  -- a community of one image is one of the other, numbered back or on
  pub community_numbered_back : (Q : ℕ → Type 0) → IsCommunity (network t) Q → IsCommunity (network s) (NumberedBack r.map Q)
  community_numbered_back Q d = community_back (network s) (neighbour t) r.map moved Q (subst (λ (g : Network). IsCommunity g Q) network_moved d)

  pub community_numbered_on : (P : ℕ → Type 0) → IsCommunity (network s) P → IsCommunity (network t) (NumberedBack (inverse r.map) P)
  community_numbered_on P d =
      subst (λ (g : Network). IsCommunity g (NumberedBack (inverse r.map) P)) (sym network_moved)
      (community_back (with_neighbour (network s) (neighbour t)) (neighbour s) (inverse r.map) (back_moved (network s) (neighbour t) r.map moved) P d)

  pub image_roles : (v : ℕ) → v < handset_count s → SameRole (role (network s) v) (role (network t) (r.map.to v))
  image_roles v h =
      subst (λ (g : Network). SameRole (role (network s) v) (role g (r.map.to v))) (sym network_moved)
      (role_moved (network s) (neighbour t) r.map moved (accepted_sound s ok) sound_t v h)

  pub image_neighbours : (v : ℕ) → v < handset_count s → neighbourhood_size (network t) (r.map.to v) ≡ neighbourhood_size (network s) v
  image_neighbours v h =
      ap (λ (g : Network). neighbourhood_size g (r.map.to v)) network_moved ∙ neighbourhood_size_moved (network s) (neighbour t) r.map moved v h
