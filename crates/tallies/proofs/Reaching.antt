-- The reaches of all groups, 64 at a time: an edge raises the reach of the groups that it is inside. A table holds one more than a reach, or 0 for none, so that the
-- farther of two answers is the larger of two numbers. And the tables as they stand after all groups.
--
--     raised_to_more                     a table that is raised by the bits of a word, one bit more
--     raised_inside                      of an edge inside no group it does not matter what is raised to
--     reaches_none, reaches_more         the first edges: none, and one more
--     reach_step                         the reaches, 64 groups more
--     progress_none, progress_chunk      the counts and the reaches: of no groups, and of 64 more
--     inside_fits                        when all groups are counted, the ends among a group's members are at least twice the edges inside it
--     groups_counted, groups_reach       of all
--     member_listed                      the members of a group, by the list of the rows: what a caller that knows the rows to be communities cites
use Rattle.std.specs.Prelude.{None, Option, Some}
use Prim.Native.Nat.{ℕ, zero, suc, ◌+◌, ◌*◌, ◌-◌, ◌≤◌, ◌<◌, min, max}
use native.Mathlib.Omega.{arith}
use native.Mathlib.Decide.{ℕ_discrete, dec_lt}
use native.Mathlib.Numerals.{add-one}
use mathlib.Core.Path.{◌≡◌, refl, sym, ap, ap₂, ◌∙◌}
use mathlib.Core.Logic.{⊎_elim}
use mathlib.Core.Bool.{Bool, true, false, ◌&&◌, cond}
use mathlib.Core.List.{List, []}
use lib.Dec.{eqb, ltb}
use lib.ListN.{length, get_or, set, replicate, length-replicate, get_or-replicate}
use lib.Seq.{get_or-set_same, get_or-set_other}
use borrow.Author.Tests.{lt-ltb, le-ltb, ne_eqb}
use Rattle.sets.specs.Below.{bit, count}
use Rattle.sets.specs.Bits.{bit_of}
use Rattle.sets.proofs.Ascending.{Step, ones_none}
use Rattle.sets.proofs.Counting.{count_cong, count_false, count_at, count_le}
use Rattle.limits.specs.Limits.{limit_most}
use Rattle.image.specs.Image.{end_a, end_b}
use Rattle.near.specs.Near.{ends_proximity}
use Rattle.community.specs.Network.{contains}
use Rattle.community.specs.Reach.{farther, farthest}
use Rattle.community.specs.Scores.{just_one, every_edge}
use Rattle.community.proofs.Reach.{farthest_cong}
use Rattle.rows.specs.Rows.{row_members, rows_of}
use Rattle.rows.proofs.Listing.{rows_at}
use Rattle.tallies.specs.Tallies.{edges_in, is_member, is_inside, is_leaving, reach_entry, GroupsCounted, GroupsReach}
use Rattle.tallies.specs.ForProofs.{DegreesHold, bit_for, WordsHold, RowsSummed, RaisedTo, inside_word, highest, EdgesCounted, EdgesRaised, ends_in, Progress, InsideFits, InsideTaken}
use Rattle.tallies.proofs.Words.{where_is, bit_for_of, bit_for_before, bit_for_past, bit_for_first, bit_for_gone, bit_for_rest, bit_for_end, in_rows}
use Rattle.tallies.proofs.Tallying.{member_none, inside_bit, joined_chunk, ends_chunk}

-- ---- a table that is raised

pub raised_to_more : (rs : List ℕ) (base x : ℕ) {w k r : ℕ} → Step w k r → base + k < length rs
    → (i : ℕ) → max (get_or (set rs (base + k) (max (get_or rs (base + k) 0) x)) i 0) (x * bit_for base r i) ≡ max (get_or rs i 0) (x * bit_for base w i)
raised_to_more rs base x {w} {k} {r} s room i = pick (ℕ_discrete i (base + k))
  where
    pick : Dec (i ≡ base + k) → max (get_or (set rs (base + k) (max (get_or rs (base + k) 0) x)) i 0) (x * bit_for base r i) ≡ max (get_or rs i 0) (x * bit_for base w i)
    pick (yes e) = rw (e, get_or-set_same rs (base + k) (max (get_or rs (base + k) 0) x) 0 room, bit_for_gone base s, bit_for_first base s) (omega arith)
    pick (no n) = ap₂ max (get_or-set_other rs (base + k) i (max (get_or rs (base + k) 0) x) 0 n) (ap (λ (b : ℕ). x * b) (bit_for_rest base s i n))

-- ---- what a table holds of a reach

entry_farther : (a b : Option ℕ) → reach_entry (farther a b) ≡ max (reach_entry a) (reach_entry b)
unfolding farther
entry_farther (Some d) (Some e) = omega arith
entry_farther (Some d) None = omega arith
entry_farther None b = omega arith

entry_share : (b : Bool) (p : Option ℕ) → reach_entry (cond b p None) ≡ reach_entry p * bit b
entry_share true p = omega arith
entry_share false p = omega arith

-- ---- all edges
highest_next : (n : ℕ) (f : ℕ → ℕ) → highest (n + 1) f ≡ max (highest n f) (f n)
unfolding highest
highest_next n f = ap (λ (k : ℕ). highest k f) (add-one n)

highest_start : (f : ℕ → ℕ) → highest 0 f ≡ 0
unfolding highest
highest_start f = refl

highest_cong : (n : ℕ) (f g : ℕ → ℕ) → ((k : ℕ) → f k ≡ g k) → highest n f ≡ highest n g
unfolding highest
highest_cong zero f g e = refl
highest_cong (suc n) f g e = ap₂ max (highest_cong n f g e) (e n)

highest_zero : (n : ℕ) → highest n (λ k. 0) ≡ 0
unfolding highest
highest_zero zero = refl
highest_zero (suc n) = omega (arith, highest_zero n)

pub reaches_none : (ws handsets records : List ℕ) (limit base : ℕ) (rs : List ℕ) → EdgesRaised ws handsets records 0 limit base rs rs
reaches_none ws handsets records limit base rs = record {
  size = refl;
  entries = λ k. omega (arith, highest_start (λ e. reach_entry (ends_proximity handsets (end_a records e) (end_b records e) limit) * bit_for base (inside_word ws records e) k));
}

-- of an edge inside no group it does not matter what is raised to
pub raised_inside : {rs : List ℕ} (base w x y : ℕ) {rs' : List ℕ} → x ≡ cond (eqb w 0) 0 y → RaisedTo rs base w x rs' → RaisedTo rs base w y rs'
raised_inside {rs} base w x y q r = record {
  size = r.size;
  entries = λ i. r.entries i ∙ ap (λ (z : ℕ). max (get_or rs i 0) (z * bit_for base w i)) q ∙ ap (max (get_or rs i 0)) (go i (ℕ_discrete w 0));
}
  where
    go : (i : ℕ) → Dec (w ≡ 0) → cond (eqb w 0) 0 y * bit_for base w i ≡ y * bit_for base w i
    go i (yes e) =
        let none : bit_for base w i ≡ 0 = bit_for_end base w (ones_none w e) i in
        let k : ℕ = cond (eqb w 0) 0 y in
        let z : k * 0 ≡ y * 0 = omega arith in
        ap (λ (b : ℕ). k * b) none ∙ z ∙ sym (ap (λ (b : ℕ). y * b) none)
    go i (no d) = ap (λ (b : Bool). cond b 0 y * bit_for base w i) (ne_eqb w 0 d)

pub reaches_more : (ws handsets records : List ℕ) (e limit base : ℕ) (rs₀ rs rs' : List ℕ) {w x : ℕ} → EdgesRaised ws handsets records e limit base rs₀ rs
    → w ≡ inside_word ws records e → x ≡ reach_entry (ends_proximity handsets (end_a records e) (end_b records e) limit) → RaisedTo rs base w x rs'
    → EdgesRaised ws handsets records (e + 1) limit base rs₀ rs'
reaches_more ws handsets records e limit base rs₀ rs rs' c p q held = record {
  size = held.size ∙ c.size;
  entries = λ k.
      let f : ℕ → ℕ = λ i. reach_entry (ends_proximity handsets (end_a records i) (end_b records i) limit) * bit_for base (inside_word ws records i) k in
      held.entries k ∙ ap₂ (λ (y z : ℕ). max (get_or rs k 0) (z * bit_for base y k)) p q
      ∙ ap (λ (y : ℕ). max y (f e)) (c.entries k) ∙ (let z : max (max (get_or rs₀ k 0) (highest e f)) (f e) ≡ max (get_or rs₀ k 0) (max (highest e f) (f e)) = omega arith in z)
      ∙ ap (max (get_or rs₀ k 0)) (sym (highest_next e f));
}

-- ---- 64 groups more
entry_highest : (m : ℕ) (b : ℕ → Bool) (p : ℕ → Option ℕ) → highest m (λ e. reach_entry (p e) * bit (b e)) ≡ reach_entry (farthest m (λ e. cond (b e) (p e) None))
unfolding highest farthest
entry_highest zero b p = refl
entry_highest (suc m) b p =
    ap₂ max (entry_highest m b p) (sym (entry_share (b m) (p m))) ∙ sym (entry_farther (farthest m (λ e. cond (b e) (p e) None)) (cond (b m) (p m) None))

reach_step : (first k x y m : ℕ) (w : ℕ → ℕ) (b : ℕ → Bool) (p : ℕ → Option ℕ) (r : ℕ) → r ≡ reach_entry (farthest m (λ e. cond (b e) (p e) None)) → x ≡ cond (ltb k first) r 0
    → y ≡ max x (highest m (λ e. reach_entry (p e) * bit_for first (w e) k)) → ((i : ℕ) → i < 64 → k ≡ first + i → (e : ℕ) → bit_of (w e) i ≡ bit (b e)) → y ≡ cond (ltb k (first + 64)) r 0
reach_step first k x y m w b p r is held q bits =
    ⊎_elim
    (λ h.
    let z : highest m (λ e. reach_entry (p e) * bit_for first (w e) k) ≡ 0 = nothing (λ e. bit_for_before first (w e) k h) in
    let g : x ≡ r = held ∙ ap (λ (c : Bool). cond c r 0) (lt-ltb k first h) in
    (let s : y ≡ r = omega (arith, q, z, g) in s) ∙ sym (ap (λ (c : Bool). cond c r 0) (lt-ltb k (first + 64) (omega (arith, h)))))
    (⊎_elim
    (λ s.
    let z : highest m (λ e. reach_entry (p e) * bit_for first (w e) k) ≡ r =
    highest_cong m (λ e. reach_entry (p e) * bit_for first (w e) k) (λ e. reach_entry (p e) * bit (b e)) (λ e. ap (λ (c : ℕ). reach_entry (p e) * c) (bit_for_of first (w e) k s.0 s.1 s.2 ∙ bits s.0 s.1 s.2 e))
    ∙ entry_highest m b p ∙ sym is in
    let g : x ≡ 0 = held ∙ ap (λ (c : Bool). cond c r 0) (le-ltb k first (omega (arith, s.2))) in
    (let u : y ≡ r = omega (arith, q, z, g) in u) ∙ sym (ap (λ (c : Bool). cond c r 0) (lt-ltb k (first + 64) (omega (arith, s.1, s.2)))))
    (λ h.
    let z : highest m (λ e. reach_entry (p e) * bit_for first (w e) k) ≡ 0 = nothing (λ e. bit_for_past first (w e) k h) in
    let g : x ≡ 0 = held ∙ ap (λ (c : Bool). cond c r 0) (le-ltb k first (omega (arith, h))) in
    (let s : y ≡ 0 = omega (arith, q, z, g) in s) ∙ sym (ap (λ (c : Bool). cond c r 0) (le-ltb k (first + 64) h))))
    (where_is first k)
  where
    nothing : ((e : ℕ) → bit_for first (w e) k ≡ 0) → highest m (λ e. reach_entry (p e) * bit_for first (w e) k) ≡ 0
    nothing z =
        highest_cong m (λ e. reach_entry (p e) * bit_for first (w e) k) (λ e. 0) (λ e. ap (λ (c : ℕ). reach_entry (p e) * c) (z e) ∙ (let o : reach_entry (p e) * 0 ≡ 0 = omega arith in o))
        ∙ highest_zero m

pub progress_none : (handsets records : List ℕ) (m limit : ℕ) (rows : List ℕ) (all : ℕ) → Progress handsets records m limit rows all 0 (replicate 1024 0) (replicate 512 0)
progress_none handsets records m limit rows all = record {
  ts_size = length-replicate {A = ℕ} 1024 0;
  rs_size = length-replicate {A = ℕ} 512 0;
  joined = λ k h. get_or-replicate 1024 k 0 0 (omega (arith, h)) ∙ sym (ap (λ (b : Bool). cond b (count m (is_inside records rows all k)) 0) (le-ltb k 0 (omega arith)));
  ends = λ k h. get_or-replicate 1024 (512 + k) 0 0 (omega (arith, h)) ∙ sym (ap (λ (b : Bool). cond b (ends_in records rows m all k) 0) (le-ltb k 0 (omega arith)));
  reaches = λ k h. get_or-replicate 512 k 0 0 h ∙ sym (ap (λ (b : Bool). cond b (reach_entry (farthest m (λ e. cond (is_inside records rows all k e) (ends_proximity handsets (end_a records e) (end_b records e) limit) None))) 0) (le-ltb k 0 (omega arith)));
}

pub progress_chunk : (handsets records : List ℕ) (m limit : ℕ) (rows : List ℕ) (all first : ℕ) (ws ds ts ts₁ rs ts₂ rs₂ : List ℕ)
    → WordsHold (in_rows rows first (min (all - first) 64)) ws → first < all → first ≤ 448 → DegreesHold records every_edge m ds → RowsSummed rows first (min (all - first) 64) ds ts ts₁
    → Progress handsets records m limit rows all first ts rs → EdgesCounted ws records m first ts₁ ts₂ → EdgesRaised ws handsets records m limit first rs rs₂
    → Progress handsets records m limit rows all (first + 64) ts₂ rs₂
progress_chunk handsets records m limit rows all first ws ds ts ts₁ rs ts₂ rs₂ held before low degrees summed p c r = record {
  ts_size = c.size ∙ summed.size;
  rs_size = r.size ∙ p.rs_size;
  joined = λ k h. joined_chunk records rows m all first ws ds ts ts₁ ts₂ held before low degrees summed c k h (p.joined k h);
  ends = λ k h. ends_chunk records rows m all first ws ds ts ts₁ ts₂ held before low degrees summed c k h (p.ends k h);
  reaches = λ k h.
      reach_step first k (get_or rs k 0) (get_or rs₂ k 0) m (inside_word ws records) (is_inside records rows all k) (λ e. ends_proximity handsets (end_a records e) (end_b records e) limit)
      _ refl (p.reaches k h) (r.entries k)
      (λ i l q e. inside_bit rows all first ws held before records e i l ∙ ap (λ (x : ℕ). bit (is_inside records rows all x e)) (sym q));
}

-- ---- all groups
module _ (handsets records : List ℕ) (m most limit : ℕ) (rows : List ℕ) (groups all first : ℕ) (ts rs : List ℕ) (few : all ≡ min groups 512) (past : all ≤ first)
    (edges : m ≡ edges_in records) (bounded : most ≡ min limit limit_most) (p : Progress handsets records m most rows all first ts rs) where
  member_is : (k v : ℕ) → k < 512 → is_member rows all k v ≡ is_member rows groups k v
  unfolding is_member
  member_is k v h = ap (λ (b : Bool). b && contains v (row_members rows k)) (pick (dec_lt k groups))
    where
      pick : Dec (k < groups) → ltb k all ≡ ltb k groups
      pick (yes l) = lt-ltb k all (omega (arith, few, h, l)) ∙ sym (lt-ltb k groups l)
      pick (no l) = le-ltb k all (omega (arith, few, l)) ∙ sym (le-ltb k groups (omega (arith, l)))

  inside_is : (k e : ℕ) → k < 512 → is_inside records rows all k e ≡ is_inside records rows groups k e
  inside_is k e h = ap₂ (λ (a b : Bool). a && b) (member_is k (end_a records e) h) (member_is k (end_b records e) h)

  leaving_is : (k e : ℕ) → k < 512 → is_leaving records rows all k e ≡ is_leaving records rows groups k e
  leaving_is k e h = ap₂ just_one (member_is k (end_a records e) h) (member_is k (end_b records e) h)

  -- past the first groups the counts are 0 too
  due : (k : ℕ) (x : ℕ) → (first ≤ k → x ≡ 0) → cond (ltb k first) x 0 ≡ x
  due k x z = pick (dec_lt k first)
    where
      pick : Dec (k < first) → cond (ltb k first) x 0 ≡ x
      pick (yes l) = ap (λ (b : Bool). cond b x 0) (lt-ltb k first l)
      pick (no l) = ap (λ (b : Bool). cond b x 0) (le-ltb k first (omega (arith, l))) ∙ sym (z (omega (arith, l)))

  none : (k : ℕ) → first ≤ k → (v : ℕ) → is_member rows all k v ≡ false
  none k h v = member_none rows all k v (omega (arith, past, h))

  inside_none : (k : ℕ) → first ≤ k → count m (is_inside records rows all k) ≡ 0
  inside_none k h =
      count_cong m (is_inside records rows all k) (λ e. false) (λ e q. ap (λ (b : Bool). b && is_member rows all k (end_b records e)) (none k h (end_a records e))) ∙ count_false m

  leaving_none : (k : ℕ) → first ≤ k → count m (is_leaving records rows all k) ≡ 0
  leaving_none k h =
      count_cong m (is_leaving records rows all k) (λ e. false) (λ e q. ap₂ just_one (none k h (end_a records e)) (none k h (end_b records e))) ∙ count_false m

  joined_is : (k : ℕ) → k < 512 → get_or ts k 0 ≡ count m (is_inside records rows all k)
  joined_is k h = p.joined k h ∙ due k (count m (is_inside records rows all k)) (inside_none k)

  ends_is : (k : ℕ) → k < 512 → get_or ts (512 + k) 0 ≡ ends_in records rows m all k
  ends_is k h = p.ends k h ∙ due k (ends_in records rows m all k) (λ l. omega (arith, inside_none k l, leaving_none k l))

  -- where the edges inside are taken out
  pub inside_fits : InsideFits all ts
  inside_fits = record {
    size = p.ts_size;
    few = λ k h. omega (arith, joined_is k (omega (arith, h, few)), count_le m (is_inside records rows all k), edges);
    enough = λ k h. omega (arith, joined_is k (omega (arith, h, few)), ends_is k (omega (arith, h, few)));
  }

  leaving_left : (ts' : List ℕ) → InsideTaken all ts ts' → (k : ℕ) → k < 512 → Dec (k < all) → get_or ts' (512 + k) 0 ≡ count m (is_leaving records rows all k)
  leaving_left ts' t k h (yes l) = omega (arith, t.taken k l, joined_is k h, ends_is k h)
  leaving_left ts' t k h (no l) =
      let q : count m (is_inside records rows all k) ≡ 0 =
      count_cong m (is_inside records rows all k) (λ e. false) (λ e d. ap (λ (b : Bool). b && is_member rows all k (end_b records e)) (member_none rows all k (end_a records e) (omega (arith, l)))) ∙ count_false m in
      omega (arith, t.others (512 + k) (λ i d e. omega (arith, d, e, l)), ends_is k h, q)

  pub groups_counted : (ts' : List ℕ) → InsideTaken all ts ts' → GroupsCounted records rows groups ts'
  groups_counted ts' t = record {
    size = t.size ∙ p.ts_size;
    joined = λ k h.
        t.others k (λ i d e. omega (arith, h, e)) ∙ joined_is k h
        ∙ count_cong m (is_inside records rows all k) (is_inside records rows groups k) (λ e q. inside_is k e h) ∙ count_at m (edges_in records) _ edges;
    leaving = λ k h.
        leaving_left ts' t k h (dec_lt k all)
        ∙ count_cong m (is_leaving records rows all k) (is_leaving records rows groups k) (λ e q. leaving_is k e h) ∙ count_at m (edges_in records) _ edges;
  }

  abbrev share : ℕ → ℕ → Option ℕ
  share k e = cond (is_inside records rows all k e) (ends_proximity handsets (end_a records e) (end_b records e) most) None

  no_reach : (n : ℕ) → farthest n (λ e. None) ≡ None
  unfolding farthest farther
  no_reach zero = refl
  no_reach (suc n) = ap (λ (x : Option ℕ). farther x None) (no_reach n)

  reach_none : (k : ℕ) → first ≤ k → reach_entry (farthest m (share k)) ≡ 0
  reach_none k h =
      ap reach_entry (farthest_cong m (share k) (λ e. None)
      (λ e q. ap (λ (b : Bool). cond (b && is_member rows all k (end_b records e)) (ends_proximity handsets (end_a records e) (end_b records e) most) None) (none k h (end_a records e))) ∙ no_reach m)

  pub groups_reach : GroupsReach handsets records limit rows groups rs
  groups_reach = record {
    size = p.rs_size;
    reaches = λ k h.
        p.reaches k h ∙ due k (reach_entry (farthest m (share k))) (reach_none k)
        ∙ ap reach_entry (farthest_cong m (share k) _
        (λ e q. ap₂ (λ (b : Bool) (x : ℕ). cond b (ends_proximity handsets (end_a records e) (end_b records e) x) None) (inside_is k e h) bounded)
        ∙ ap (λ (n : ℕ). farthest n (λ e. cond (is_inside records rows groups k e) (ends_proximity handsets (end_a records e) (end_b records e) (min limit limit_most)) None)) edges);
  }

pub member_listed : (rows : List ℕ) (g : ℕ) (gs : List (List ℕ)) (k v : ℕ) → rows_of rows g ≡ gs → k < g → is_member rows g k v ≡ contains v (get_or gs k [])
unfolding is_member
member_listed rows g gs k v listed h =
    ap (λ (b : Bool). b && contains v (row_members rows k)) (lt-ltb k g h)
    ∙ ap (contains v) (sym (rows_at rows g k h) ∙ ap (λ (l : List (List ℕ)). get_or l k []) listed)
