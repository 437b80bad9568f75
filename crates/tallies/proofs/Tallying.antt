-- The counts of all groups, 64 at a time. The `and` of the words of an edge's ends holds the groups that it is inside: each place of the table of counts gets its bit
-- of every edge's word, so that the sum over the edges is the count. In the place of the edges that leave a group stand the ends that the edges have among its members.
--
--     edges_none, edges_more, edges_room     the first edges, one more; the next has room
--     member_bit, inside_bit     what the bits of the words say of the groups
--     joined_chunk, ends_chunk   the counts, 64 groups more
use Prim.Native.Nat.{ℕ, ◌+◌, ◌-◌, ◌≤◌, ◌<◌, min}
use native.Mathlib.Omega.{arith}
use native.Mathlib.Decide.{dec_lt}
use native.Mathlib.Numerals.{add-one}
use mathlib.Core.Path.{◌≡◌, refl, sym, ap, ap₂, ◌∙◌}
use mathlib.Core.Logic.{⊎_elim}
use mathlib.Core.Bool.{Bool, true, false, ◌&&◌, cond, and-false}
use mathlib.Core.List.{List}
use lib.Dec.{ltb}
use lib.ListN.{get_or, get_or-eq_default}
use borrow.Author.Tests.{lt-ltb, le-ltb}
use Rattle.sets.specs.Below.{bit, count, sum}
use Rattle.sets.specs.Bits.{bit_of}
use Rattle.sets.proofs.Bits.{bit_of_none, bit_of_and, word_bit}
use Rattle.sets.proofs.Counting.{count_sum, sum_le, sum_const, sum_zero, sum_cong}
use Rattle.image.specs.Image.{end_a, end_b}
use Rattle.community.specs.Network.{contains}
use Rattle.community.specs.Scores.{every_edge}
use Rattle.rows.specs.Rows.{row_members}
use Rattle.rows.proofs.Rows.{contains_past}
use Rattle.tallies.specs.Tallies.{is_member, is_inside}
use Rattle.tallies.specs.ForProofs.{DegreesHold, degree_sum, bit_for, WordsHold, RowsSummed, Raised, inside_word, EdgesCounted, ends_in}
use Rattle.tallies.proofs.Words.{where_is, bit_for_before, bit_for_past, bit_for_of, bit_for_le, in_rows}
use Rattle.tallies.proofs.Degrees.{degree_sum_cong, degree_sum_none, ends_summed}

-- ---- the edges inside
sum_next : (n : ℕ) (f : ℕ → ℕ) → sum (n + 1) f ≡ f n + sum n f
unfolding sum
sum_next n f = ap (λ (k : ℕ). sum k f) (add-one n)

sum_start : (f : ℕ → ℕ) → sum 0 f ≡ 0
unfolding sum
sum_start f = refl

pub edges_none : (ws records : List ℕ) (base : ℕ) (ts : List ℕ) → EdgesCounted ws records 0 base ts ts
edges_none ws records base ts = record { size = refl; counts = λ i. omega (arith, sum_start (λ e. bit_for base (inside_word ws records e) i)) }

pub edges_more : (ws records : List ℕ) (e base : ℕ) (ts₀ ts ts' : List ℕ) {w : ℕ} → EdgesCounted ws records e base ts₀ ts
    → w ≡ inside_word ws records e → Raised ts base w ts' → EdgesCounted ws records (e + 1) base ts₀ ts'
edges_more ws records e base ts₀ ts ts' {w} c p held = record {
  size = held.size ∙ c.size;
  counts = λ i. omega (arith, held.counts i, ap (λ (x : ℕ). bit_for base x i) p, c.counts i, sum_next e (λ j. bit_for base (inside_word ws records j) i));
}

pub edges_room : (ws records : List ℕ) (e base : ℕ) (ts₀ ts : List ℕ) → EdgesCounted ws records e base ts₀ ts → (i : ℕ) → get_or ts i 0 ≤ get_or ts₀ i 0 + e
edges_room ws records e base ts₀ ts c i =
    let f : ℕ → ℕ = λ j. bit_for base (inside_word ws records j) i in
    omega (arith, c.counts i, sum_le e f (λ j. 1) (λ j l. bit_for_le base (inside_word ws records j) i), sum_const e 1)

-- ---- 64 groups more

-- both bits, as a test
both_bits : (a b : Bool) → min (bit a) (bit b) ≡ bit (a && b)
both_bits true true = refl
both_bits true false = refl
both_bits false true = refl
both_bits false false = refl

pub member_none : (rows : List ℕ) (all k v : ℕ) → all ≤ k → is_member rows all k v ≡ false
unfolding is_member
member_none rows all k v h = ap (λ (b : Bool). b && contains v (row_members rows k)) (le-ltb k all h)

pub member_some : (rows : List ℕ) (all k v : ℕ) → k < all → is_member rows all k v ≡ contains v (row_members rows k)
unfolding is_member
member_some rows all k v h = ap (λ (b : Bool). b && contains v (row_members rows k)) (lt-ltb k all h)

pub member_past : (rows : List ℕ) (all k v : ℕ) → 512 ≤ v → is_member rows all k v ≡ false
unfolding is_member
member_past rows all k v h = ap (λ (b : Bool). ltb k all && b) (contains_past rows k v h) ∙ and-false (ltb k all)

module _ (rows : List ℕ) (all first : ℕ) (ws : List ℕ) (held : WordsHold (in_rows rows first (min (all - first) 64)) ws) (before : first < all) where
  pub member_bit : (v i : ℕ) → i < 64 → bit_of (get_or ws v 0) i ≡ bit (is_member rows all (first + i) v)
  unfolding is_member
  member_bit v i h = pick (dec_lt v 512)
    where
      same : Dec (first + i < all) → ltb i (min (all - first) 64) ≡ ltb (first + i) all
      same (yes l) = lt-ltb i (min (all - first) 64) (omega (arith, h, l)) ∙ sym (lt-ltb (first + i) all l)
      same (no l) = le-ltb i (min (all - first) 64) (omega (arith, l)) ∙ sym (le-ltb (first + i) all (omega (arith, l)))

      pick : Dec (v < 512) → bit_of (get_or ws v 0) i ≡ bit (ltb (first + i) all && contains v (row_members rows (first + i)))
      pick (yes l) =
          sym (word_bit ws v i h) ∙ held.bits v i l h
          ∙ ap (λ (b : Bool). bit (b && contains v (row_members rows (first + i)))) (same (dec_lt (first + i) all))
      pick (no l) =
          ap (λ (x : ℕ). bit_of x i) (get_or-eq_default ws 0 (omega (arith, held.size, l))) ∙ bit_of_none i
          ∙ sym (ap bit (ap (λ (b : Bool). ltb (first + i) all && b) (contains_past rows (first + i) v (omega (arith, l))) ∙ and-false (ltb (first + i) all)))

  pub inside_bit : (records : List ℕ) (e i : ℕ) → i < 64 → bit_of (inside_word ws records e) i ≡ bit (is_inside records rows all (first + i) e)
  inside_bit records e i h =
      bit_of_and (get_or ws (end_a records e) 0) (get_or ws (end_b records e) 0) i ∙ ap₂ min (member_bit (end_a records e) i h) (member_bit (end_b records e) i h)
      ∙ both_bits (is_member rows all (first + i) (end_a records e)) (is_member rows all (first + i) (end_b records e))

-- a count that is due below first is due below first + 64, with the bits of the words between
pub count_step : (first k x y m : ℕ) (w : ℕ → ℕ) (f : ℕ → Bool) → x ≡ cond (ltb k first) (count m f) 0 → y ≡ x + sum m (λ e. bit_for first (w e) k)
    → ((i : ℕ) → i < 64 → k ≡ first + i → (e : ℕ) → bit_of (w e) i ≡ bit (f e)) → y ≡ cond (ltb k (first + 64)) (count m f) 0
count_step first k x y m w f p q bits =
    ⊎_elim
    (λ h.
    let z : sum m (λ e. bit_for first (w e) k) ≡ 0 = sum_cong m (λ e. bit_for first (w e) k) (λ e. 0) (λ e l. bit_for_before first (w e) k h) ∙ sum_zero m in
    let g : x ≡ count m f = p ∙ ap (λ (b : Bool). cond b (count m f) 0) (lt-ltb k first h) in
    (let r : y ≡ count m f = omega (arith, q, z, g) in r) ∙ sym (ap (λ (b : Bool). cond b (count m f) 0) (lt-ltb k (first + 64) (omega (arith, h)))))
    (⊎_elim
    (λ s.
    let z : sum m (λ e. bit_for first (w e) k) ≡ count m f =
    sum_cong m (λ e. bit_for first (w e) k) (λ e. bit (f e)) (λ e l. bit_for_of first (w e) k s.0 s.1 s.2 ∙ bits s.0 s.1 s.2 e) ∙ sym (count_sum m f) in
    let g : x ≡ 0 = p ∙ ap (λ (b : Bool). cond b (count m f) 0) (le-ltb k first (omega (arith, s.2))) in
    (let r : y ≡ count m f = omega (arith, q, z, g) in r) ∙ sym (ap (λ (b : Bool). cond b (count m f) 0) (lt-ltb k (first + 64) (omega (arith, s.1, s.2)))))
    (λ h.
    let z : sum m (λ e. bit_for first (w e) k) ≡ 0 = sum_cong m (λ e. bit_for first (w e) k) (λ e. 0) (λ e l. bit_for_past first (w e) k h) ∙ sum_zero m in
    let g : x ≡ 0 = p ∙ ap (λ (b : Bool). cond b (count m f) 0) (le-ltb k first (omega (arith, h))) in
    (let r : y ≡ 0 = omega (arith, q, z, g) in r) ∙ sym (ap (λ (b : Bool). cond b (count m f) 0) (le-ltb k (first + 64) h))))
    (where_is first k)

module _ (records rows : List ℕ) (m all first : ℕ) (ws ds ts ts₁ ts₂ : List ℕ) (held : WordsHold (in_rows rows first (min (all - first) 64)) ws) (before : first < all)
    (low : first ≤ 448) (degrees : DegreesHold records every_edge m ds) (summed : RowsSummed rows first (min (all - first) 64) ds ts ts₁) (counted : EdgesCounted ws records m first ts₁ ts₂) where
  pub joined_chunk : (k : ℕ) → k < 512 → get_or ts k 0 ≡ cond (ltb k first) (count m (is_inside records rows all k)) 0 → get_or ts₂ k 0 ≡ cond (ltb k (first + 64)) (count m (is_inside records rows all k)) 0
  joined_chunk k h p =
      count_step first k (get_or ts₁ k 0) (get_or ts₂ k 0) m (inside_word ws records) (is_inside records rows all k) (summed.others k (λ i l e. omega (arith, h, e)) ∙ p) (counted.counts k)
      (λ i l q e. inside_bit rows all first ws held before records e i l ∙ ap (λ (x : ℕ). bit (is_inside records rows all x e)) (sym q))

  -- no edge is counted in the second half of the table
  second_half : (k : ℕ) → get_or ts₂ (512 + k) 0 ≡ get_or ts₁ (512 + k) 0
  second_half k =
      let f : ℕ → ℕ = λ e. bit_for first (inside_word ws records e) (512 + k) in
      omega (arith, counted.counts (512 + k), sum_cong m f (λ e. 0) (λ e l. bit_for_past first (inside_word ws records e) (512 + k) (omega (arith, low))), sum_zero m)

  members_ends : (k : ℕ) → degree_sum (λ v. bit (is_member rows all k v)) ds ≡ ends_in records rows m all k
  members_ends k = ends_summed records every_edge m ds degrees (is_member rows all k) (λ v h. member_past rows all k v h)

  row_ends : (i : ℕ) → i < 64 → Dec (i < min (all - first) 64) → get_or ts (512 + (first + i)) 0 ≡ 0 → get_or ts₁ (512 + (first + i)) 0 ≡ ends_in records rows m all (first + i)
  row_ends i h (yes l) z =
      summed.sums i l
      ∙ degree_sum_cong (λ v. bit (contains v (row_members rows (first + i)))) (λ v. bit (is_member rows all (first + i) v)) ds (λ v q. ap bit (sym (member_some rows all (first + i) v (omega (arith, l)))))
      ∙ members_ends (first + i)
  row_ends i h (no l) z =
      summed.others (512 + (first + i)) (λ j q e. omega (arith, q, e, l)) ∙ z
      ∙ sym (sym (members_ends (first + i)) ∙ degree_sum_cong (λ v. bit (is_member rows all (first + i) v)) (λ v. 0) ds (λ v q. ap bit (member_none rows all (first + i) v (omega (arith, h, l)))) ∙ degree_sum_none ds)

  pub ends_chunk : (k : ℕ) → k < 512 → get_or ts (512 + k) 0 ≡ cond (ltb k first) (ends_in records rows m all k) 0 → get_or ts₂ (512 + k) 0 ≡ cond (ltb k (first + 64)) (ends_in records rows m all k) 0
  ends_chunk k h p =
      second_half k
      ∙ ⊎_elim
      (λ l.
      summed.others (512 + k) (λ i q e. omega (arith, l, e)) ∙ p ∙ ap (λ (b : Bool). cond b (ends_in records rows m all k) 0) (lt-ltb k first l)
      ∙ sym (ap (λ (b : Bool). cond b (ends_in records rows m all k) 0) (lt-ltb k (first + 64) (omega (arith, l)))))
      (⊎_elim
      (λ s.
      let none : get_or ts (512 + k) 0 ≡ 0 = p ∙ ap (λ (b : Bool). cond b (ends_in records rows m all k) 0) (le-ltb k first (omega (arith, s.2))) in
      ap (λ (x : ℕ). get_or ts₁ (512 + x) 0) s.2
      ∙ row_ends s.0 s.1 (dec_lt s.0 (min (all - first) 64)) (ap (λ (x : ℕ). get_or ts (512 + x) 0) (sym s.2) ∙ none)
      ∙ ap (ends_in records rows m all) (sym s.2)
      ∙ sym (ap (λ (b : Bool). cond b (ends_in records rows m all k) 0) (lt-ltb k (first + 64) (omega (arith, s.1, s.2)))))
      (λ l.
      summed.others (512 + k) (λ i q e. omega (arith, l, e, q)) ∙ p ∙ ap (λ (b : Bool). cond b (ends_in records rows m all k) 0) (le-ltb k first (omega (arith, l)))
      ∙ sym (ap (λ (b : Bool). cond b (ends_in records rows m all k) 0) (le-ltb k (first + 64) l))))
      (where_is first k)
