-- The edges that leave a group, by degrees. Each end of an edge adds 1 to the degree of its handset, so that the degrees of a group's members, summed, count each edge
-- inside it twice and each edge that leaves it once, whatever test the edges have to pass.
--
--     degrees_none, degrees_more     the degrees of no edge, and of one edge more; degrees_fit: none is above the most
--     degrees_room                   there is room for one more end
--     sum_times, sum_one             a factor of all terms of a sum; two sums that differ in one term
--     degree_sum_le                  a sum of degrees fits its word
--     sum_step, sum_end              the sum by the set bits of a word, one by one
--     row_sum_none, row_sum_more     the sum by the words of a row
--     summed_none, summed_more       the sums of the first rows, and of one row more
--     taken_more                     the edges inside taken out of the ends, of one group more
--     ends_summed                    the degrees of the handsets that pass f, summed: two for each edge with both ends among them, one for each with just one
use Prim.Native.Nat.{ℕ, zero, suc, ◌+◌, ◌*◌, ◌-◌, ◌≤◌, ◌<◌}
use native.Mathlib.Omega.{arith}
use native.Mathlib.Decide.{ℕ_discrete, dec_lt}
use native.Mathlib.Numerals.{add-one}
use native.Mathlib.Nat.{mul-add, add-mul, mul-le-mul}
use mathlib.Core.Path.{◌≡◌, refl, sym, ap, ap₂, ◌∙◌}
use mathlib.Core.Logic.{⊎_elim}
use mathlib.Core.Bool.{Bool, true, false, ◌&&◌, cond}
use mathlib.Core.List.{List, []}
use lib.Dec.{eqb}
use lib.ListN.{length, get_or, set, length-set, replicate, length-replicate, get_or-replicate, get_or-eq_default}
use lib.Seq.{get_or-set_same, get_or-set_other}
use borrow.Author.Tests.{eq-eqb, ne_eqb, le-ltb}
use Rattle.sets.specs.Below.{bit, count, sum}
use Rattle.sets.specs.Bits.{bit_at, ones_of}
use Rattle.sets.proofs.Tests.{below}
use Rattle.sets.proofs.Counting.{bit_le, count_sum, sum_add, sum_cong, sum_const, sum_le, sum_swap, sum_zero}
use Rattle.sets.proofs.Ascending.{Step}
use Rattle.limits.specs.Limits.{edges_most}
use Rattle.image.specs.Image.{end_a, end_b}
use Rattle.community.specs.Network.{contains}
use Rattle.community.specs.Scores.{just_one}
use Rattle.rows.specs.Rows.{row_members, row_words}
use Rattle.tallies.specs.ForProofs.{EndAdded, ends_at, DegreesHold, degree_most, DegreesFit, degree_sum, bit_for, RowsSummed, InsideTaken}
use Rattle.tallies.proofs.Words.{bit_for_first, bit_for_gone, bit_for_rest, bit_for_end, up_to, row_more, row_bit}

-- ---- counting the ends

sum_next : (n : ℕ) (f : ℕ → ℕ) → sum (n + 1) f ≡ f n + sum n f
unfolding sum
sum_next n f = ap (λ (k : ℕ). sum k f) (add-one n)

sum_start : (f : ℕ → ℕ) → sum 0 f ≡ 0
unfolding sum
sum_start f = refl

pub degrees_none : (records : List ℕ) (test : ℕ → Bool) → DegreesHold records test 0 (replicate 512 0)
degrees_none records test = record {
  size = length-replicate {A = ℕ} 512 0;
  degrees = λ v h. get_or-replicate 512 v 0 0 h ∙ sym (sum_start (ends_at records test v));
}

pub degrees_more : (records : List ℕ) (test : ℕ → Bool) (e : ℕ) (ds ds₁ ds₂ : List ℕ) {a b : ℕ} → test e ≡ true → DegreesHold records test e ds
    → a ≡ end_a records e → b ≡ end_b records e → EndAdded ds a ds₁ → EndAdded ds₁ b ds₂ → DegreesHold records test (e + 1) ds₂
degrees_more records test e ds ds₁ ds₂ {a} {b} t held p q one two = record {
  size = two.size ∙ one.size ∙ held.size;
  degrees = λ v h.
      let add : ends_at records test v e ≡ bit (eqb a v) + bit (eqb b v) =
      ap (λ (x : Bool). cond x (bit (eqb (end_a records e) v) + bit (eqb (end_b records e) v)) 0) t ∙ sym (ap₂ (λ (x y : ℕ). bit (eqb x v) + bit (eqb y v)) p q) in
      omega (arith, sum_next e (ends_at records test v), add, held.degrees v h, one.degrees v (omega (arith, h, held.size)), two.degrees v (omega (arith, h, one.size, held.size)));
}

ends_le : (records : List ℕ) (test : ℕ → Bool) (m v : ℕ) → sum m (ends_at records test v) ≤ m * 2
ends_le records test m v = omega (arith, sum_le m (ends_at records test v) (λ e. 2) (λ e h. most e (test e)), sum_const m 2)
  where
    most : (e : ℕ) (b : Bool) → cond b (bit (eqb (end_a records e) v) + bit (eqb (end_b records e) v)) 0 ≤ 2
    most e true = omega (arith, bit_le (eqb (end_a records e) v), bit_le (eqb (end_b records e) v))
    most e false = omega arith

pub degrees_fit : (records : List ℕ) (test : ℕ → Bool) (m : ℕ) (ds : List ℕ) → m ≤ edges_most → DegreesHold records test m ds → DegreesFit ds
degrees_fit records test m ds few held = record { size = held.size; most = λ v h. omega (arith, held.degrees v h, ends_le records test m v) }

pub degrees_room : (ds : List ℕ) → DegreesFit ds → (v : ℕ) → get_or ds v 0 ≤ degree_most
degrees_room ds fit v = pick (dec_lt v 512)
  where
    pick : Dec (v < 512) → get_or ds v 0 ≤ degree_most
    pick (yes h) = fit.most v h
    pick (no h) = omega (arith, get_or-eq_default ds 0 {n = v} (omega (arith, fit.size, h)))

-- an end that is added raises no degree by more than 1
pub added_le : (ds ds' : List ℕ) (v : ℕ) → EndAdded ds v ds' → (u : ℕ) → get_or ds' u 0 ≤ get_or ds u 0 + 1
added_le ds ds' v a u = pick (dec_lt u (length ds))
  where
    pick : Dec (u < length ds) → get_or ds' u 0 ≤ get_or ds u 0 + 1
    pick (yes h) = omega (arith, a.degrees u h, bit_le (eqb v u))
    pick (no h) = omega (arith, get_or-eq_default ds' 0 {n = u} (omega (arith, a.size, h)))

-- ---- sums of degrees

sum_times : (n x : ℕ) (f : ℕ → ℕ) → x * sum n f ≡ sum n (λ v. x * f v)
unfolding sum
sum_times zero x f = omega arith
sum_times (suc n) x f = mul-add x (f n) (sum n f) ∙ ap (λ (y : ℕ). x * f n + y) (sum_times n x f)

pub sum_one : (n : ℕ) (f g : ℕ → ℕ) (i d : ℕ) → i < n → f i ≡ g i + d → ((j : ℕ) → (j ≡ i → ⊥) → f j ≡ g j) → sum n f ≡ sum n g + d
unfolding sum
sum_one zero f g i d h e o = absurd (omega (arith, h))
sum_one (suc n) f g i d h e o =
    ⊎_elim
    (λ q.
    let here : f n ≡ g n + d = ap f (sym q) ∙ e ∙ ap (λ (j : ℕ). g j + d) q in
    omega (arith, here, sum_cong n f g (λ j l. o j (λ p. omega (arith, p, q, l)))))
    (λ l. omega (arith, o n (λ p. omega (arith, p, l)), sum_one n f g i d l e o))
    (below h)

pub degree_sum_le : (f : ℕ → ℕ) (ds : List ℕ) → ((v : ℕ) → f v ≤ 1) → DegreesFit ds → degree_sum f ds ≤ 4194304
unfolding degree_sum
degree_sum_le f ds bits fit =
    omega (arith, sum_le 512 (λ v. f v * get_or ds v 0) (λ v. degree_most) (λ v h. let z : f v * get_or ds v 0 ≤ 1 * degree_most = mul-le-mul (bits v) (fit.most v h) in omega (arith, z)), sum_const 512 degree_most)

pub degree_sum_cong : (f g : ℕ → ℕ) (ds : List ℕ) → ((v : ℕ) → v < 512 → f v ≡ g v) → degree_sum f ds ≡ degree_sum g ds
unfolding degree_sum
degree_sum_cong f g ds e = sum_cong 512 (λ v. f v * get_or ds v 0) (λ v. g v * get_or ds v 0) (λ v h. ap (λ (x : ℕ). x * get_or ds v 0) (e v h))

pub degree_sum_add : (f g : ℕ → ℕ) (ds : List ℕ) → degree_sum (λ v. f v + g v) ds ≡ degree_sum f ds + degree_sum g ds
unfolding degree_sum
degree_sum_add f g ds =
    sum_cong 512 (λ v. (f v + g v) * get_or ds v 0) (λ v. f v * get_or ds v 0 + g v * get_or ds v 0) (λ v h. add-mul (f v) (g v) (get_or ds v 0))
    ∙ sum_add 512 (λ v. f v * get_or ds v 0) (λ v. g v * get_or ds v 0)

pub degree_sum_none : (ds : List ℕ) → degree_sum (λ v. 0) ds ≡ 0
unfolding degree_sum
degree_sum_none ds = sum_cong 512 (λ v. 0 * get_or ds v 0) (λ v. 0) (λ v h. omega arith) ∙ sum_zero 512

-- by the set bits of a word, the first taken out
pub sum_step : (ds : List ℕ) (base : ℕ) {w k r : ℕ} → Step w k r → base + k < 512
    → degree_sum (bit_for base w) ds ≡ degree_sum (bit_for base r) ds + get_or ds (base + k) 0
unfolding degree_sum
sum_step ds base {w} {k} {r} s room =
    sum_one 512 (λ v. bit_for base w v * get_or ds v 0) (λ v. bit_for base r v * get_or ds v 0) (base + k) (get_or ds (base + k) 0) room
    (rw (bit_for_first base s, bit_for_gone base s) (omega arith))
    (λ j n. ap (λ (b : ℕ). b * get_or ds j 0) (sym (bit_for_rest base s j n)))

pub sum_end : (ds : List ℕ) (base w : ℕ) → ones_of w ≡ [] → degree_sum (bit_for base w) ds ≡ 0
sum_end ds base w e = degree_sum_cong (bit_for base w) (λ v. 0) ds (λ v h. bit_for_end base w e v) ∙ degree_sum_none ds

-- one word of a row more
pub row_sum_none : (row ds : List ℕ) → degree_sum (up_to row 0) ds ≡ 0
row_sum_none row ds =
    degree_sum_cong (up_to row 0) (λ v. 0) ds (λ v h. ap (λ (b : Bool). cond b (bit_at row v) 0) (le-ltb v (0 * 64) (omega arith))) ∙ degree_sum_none ds

pub row_sum_more : (row ds : List ℕ) (j : ℕ) → degree_sum (up_to row (j + 1)) ds ≡ degree_sum (up_to row j) ds + degree_sum (bit_for (j * 64) (get_or row j 0)) ds
row_sum_more row ds j =
    degree_sum_cong (up_to row (j + 1)) (λ v. up_to row j v + bit_for (j * 64) (get_or row j 0) v) ds (λ v h. sym (row_more row j v))
    ∙ degree_sum_add (up_to row j) (bit_for (j * 64) (get_or row j 0)) ds

-- ---- the degrees of a group

-- one end, looked for among all handsets
end_found : (n : ℕ) (f : ℕ → ℕ) (a : ℕ) → a < n → sum n (λ v. f v * bit (eqb a v)) ≡ f a
end_found n f a h =
    sum_one n (λ v. f v * bit (eqb a v)) (λ v. 0) a (f a) h
    (ap (λ (b : Bool). f a * bit b) (eq-eqb a a refl) ∙ (let e : f a * 1 ≡ 0 + f a = omega arith in e))
    (λ j d. ap (λ (b : Bool). f j * bit b) (ne_eqb a j (λ q. d (sym q))) ∙ (let e : f j * 0 ≡ 0 = omega arith in e))
    ∙ omega (arith, sum_zero n)

end_lost : (n : ℕ) (f : ℕ → ℕ) (a : ℕ) → n ≤ a → sum n (λ v. f v * bit (eqb a v)) ≡ 0
end_lost n f a h =
    sum_cong n (λ v. f v * bit (eqb a v)) (λ v. 0)
    (λ v l. ap (λ (b : Bool). f v * bit b) (ne_eqb a v (λ q. omega (arith, q, l, h))) ∙ (let e : f v * 0 ≡ 0 = omega arith in e))
    ∙ sum_zero n

two_and_one : (x y : Bool) → bit x + bit y ≡ bit (x && y) * 2 + bit (just_one x y)
two_and_one true true = refl
two_and_one true false = refl
two_and_one false true = refl
two_and_one false false = refl

module _ (records : List ℕ) (test : ℕ → Bool) (m : ℕ) (ds : List ℕ) (held : DegreesHold records test m ds) (f : ℕ → Bool) (low : (v : ℕ) → 512 ≤ v → f v ≡ false) where
  end_of : (a : ℕ) → sum 512 (λ v. bit (f v) * bit (eqb a v)) ≡ bit (f a)
  end_of a = pick (dec_lt a 512)
    where
      pick : Dec (a < 512) → sum 512 (λ v. bit (f v) * bit (eqb a v)) ≡ bit (f a)
      pick (yes h) = end_found 512 (λ v. bit (f v)) a h
      pick (no h) = end_lost 512 (λ v. bit (f v)) a (omega (arith, h)) ∙ sym (ap bit (low a (omega (arith, h))))

  -- the two ends of one edge
  abbrev both : ℕ → Bool
  both e = test e && (f (end_a records e) && f (end_b records e))

  abbrev one : ℕ → Bool
  one e = test e && just_one (f (end_a records e)) (f (end_b records e))

  of_edge : (e : ℕ) (t : Bool) → sum 512 (λ v. bit (f v) * cond t (bit (eqb (end_a records e) v) + bit (eqb (end_b records e) v)) 0)
      ≡ bit (t && (f (end_a records e) && f (end_b records e))) * 2 + bit (t && just_one (f (end_a records e)) (f (end_b records e)))
  of_edge e true =
      let a : ℕ = end_a records e in
      let b : ℕ = end_b records e in
      sum_cong 512 (λ v. bit (f v) * (bit (eqb a v) + bit (eqb b v))) (λ v. bit (f v) * bit (eqb a v) + bit (f v) * bit (eqb b v)) (λ v h. mul-add (bit (f v)) (bit (eqb a v)) (bit (eqb b v)))
      ∙ sum_add 512 (λ v. bit (f v) * bit (eqb a v)) (λ v. bit (f v) * bit (eqb b v))
      ∙ ap₂ ◌+◌ (end_of a) (end_of b) ∙ two_and_one (f a) (f b)
  of_edge e false = sum_cong 512 (λ v. bit (f v) * 0) (λ v. 0) (λ v h. omega arith) ∙ sum_zero 512

  pub ends_summed : degree_sum (λ v. bit (f v)) ds ≡ count m both * 2 + count m one
  unfolding degree_sum
  ends_summed =
      sum_cong 512 (λ v. bit (f v) * get_or ds v 0) (λ v. sum m (λ e. bit (f v) * ends_at records test v e))
      (λ v h. ap (λ (x : ℕ). bit (f v) * x) (held.degrees v h) ∙ sum_times m (bit (f v)) (ends_at records test v))
      ∙ sum_swap 512 m (λ v e. bit (f v) * ends_at records test v e)
      ∙ sum_cong m (λ e. sum 512 (λ v. bit (f v) * ends_at records test v e)) (λ e. bit (both e) * 2 + bit (one e)) (λ e h. of_edge e (test e))
      ∙ sum_add m (λ e. bit (both e) * 2) (λ e. bit (one e))
      ∙ ap₂ ◌+◌ (twice m) (sym (count_sum m one))
    where
      twice : (n : ℕ) → sum n (λ e. bit (both e) * 2) ≡ count n both * 2
      twice n =
          sum_cong n (λ e. bit (both e) * 2) (λ e. 2 * bit (both e)) (λ e h. omega arith) ∙ sym (sum_times n 2 (λ e. bit (both e)))
          ∙ (let q : 2 * sum n (λ e. bit (both e)) ≡ count n both * 2 = omega (arith, count_sum n both) in q)

-- ---- the sums of the rows
pub summed_none : (rows : List ℕ) (first : ℕ) (ds ts : List ℕ) → length ts ≡ 1024 → RowsSummed rows first 0 ds ts ts
summed_none rows first ds ts size = record { size = size; sums = λ i h. absurd (omega (arith, h)); others = λ j n. refl }

pub summed_more : (rows row : List ℕ) (first i : ℕ) (ds ts₀ ts : List ℕ) (x : ℕ) → first + i < 512 → row ≡ row_words rows (first + i) → x ≡ degree_sum (bit_at row) ds
    → RowsSummed rows first i ds ts₀ ts → RowsSummed rows first (i + 1) ds ts₀ (set ts (512 + (first + i)) x)
summed_more rows row first i ds ts₀ ts x few same e held = record {
  size = length-set ts (512 + (first + i)) x ∙ held.size;
  sums = λ j h. pick j h (ℕ_discrete j i);
  others = λ j n. get_or-set_other ts (512 + (first + i)) j x 0 (n i (omega arith)) ∙ held.others j (λ l h. n l (omega (arith, h)));
}
  where
    pick : (j : ℕ) → j < i + 1 → Dec (j ≡ i) → get_or (set ts (512 + (first + i)) x) (512 + (first + j)) 0 ≡ degree_sum (λ v. bit (contains v (row_members rows (first + j)))) ds
    pick j h (yes q) =
        ap (λ (k : ℕ). get_or (set ts (512 + (first + i)) x) (512 + (first + k)) 0) q ∙ get_or-set_same ts (512 + (first + i)) x 0 (omega (arith, held.size, few)) ∙ e
        ∙ degree_sum_cong (bit_at row) (λ v. bit (contains v (row_members rows (first + i)))) ds (λ v l. row_bit rows row (first + i) v same l)
        ∙ ap (λ (k : ℕ). degree_sum (λ v. bit (contains v (row_members rows (first + k)))) ds) (sym q)
    pick j h (no q) = get_or-set_other ts (512 + (first + i)) (512 + (first + j)) x 0 (λ p. q (omega (arith, p))) ∙ held.sums j (omega (arith, h, q))

-- ---- the edges inside taken out of the ends
pub taken_more : (k : ℕ) (ts₀ ts : List ℕ) → length ts₀ ≡ 1024 → k < 512 → InsideTaken k ts₀ ts
    → InsideTaken (k + 1) ts₀ (set ts (512 + k) (get_or ts (512 + k) 0 - get_or ts k 0 * 2))
taken_more k ts₀ ts size few held = record {
  size = length-set ts (512 + k) x ∙ held.size;
  taken = λ j h. pick j h (ℕ_discrete j k);
  others = λ j n. get_or-set_other ts (512 + k) j x 0 (n k (omega arith)) ∙ held.others j (λ i h. n i (omega (arith, h)));
}
  where
    x : ℕ
    x = get_or ts (512 + k) 0 - get_or ts k 0 * 2

    pick : (j : ℕ) → j < k + 1 → Dec (j ≡ k) → get_or (set ts (512 + k) (get_or ts (512 + k) 0 - get_or ts k 0 * 2)) (512 + j) 0 ≡ get_or ts₀ (512 + j) 0 - get_or ts₀ j 0 * 2
    pick j h (yes q) =
        ap (λ (i : ℕ). get_or (set ts (512 + k) x) (512 + i) 0) q ∙ get_or-set_same ts (512 + k) x 0 (omega (arith, held.size, size, few))
        ∙ ap₂ (λ (y z : ℕ). y - z * 2) (held.others (512 + k) (λ i d e. omega (arith, d, e))) (held.others k (λ i d e. omega (arith, e, few)))
        ∙ ap (λ (i : ℕ). get_or ts₀ (512 + i) 0 - get_or ts₀ i 0 * 2) (sym q)
    pick j h (no q) = get_or-set_other ts (512 + k) (512 + j) x 0 (λ p. q (omega (arith, p))) ∙ held.taken j (omega (arith, h, q))
