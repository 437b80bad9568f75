-- Laws of `count` and `sum`: equal tests have equal counts, and a one-to-one map from what passes one test into what passes another bounds the
-- counts. A count is a sum of bits, so that two counts nested in each other can be swapped.
use Prim.Native.Nat.{ℕ, zero, suc, ◌+◌, ◌*◌, ◌≤◌, ◌<◌}
use native.Mathlib.Omega.{arith}
use native.Mathlib.Numerals.{add-one}
use native.Mathlib.Nat.{le_antisymm, le_trans}
use mathlib.Core.Path.{◌≡◌, refl, sym, ap, ap₂, ◌∙◌, subst}
use mathlib.Core.Logic.{⊎_elim, ◌≢◌}
use mathlib.Core.Bool.{Bool, true, false, ◌&&◌, ◌||◌, not}
use lib.Dec.{T, eqb, eqb→eq, eqb_refl, T_not, not_T, ltb, lt→ltb, ltb→lt}
use Rattle.sets.specs.Below.{any, count, bit, sum}
use Rattle.sets.specs.Renumbering.{Renumbering}
use Rattle.sets.proofs.Tests.{and_make, and_left, and_right, or_left, or_right, decide, any_take, T_true, T_false, T-ext, below}

pub count_cong : (n : ℕ) (f g : ℕ → Bool) → ((v : ℕ) → v < n → f v ≡ g v) → count n f ≡ count n g
unfolding count
count_cong zero f g e = refl
count_cong (suc n) f g e = ap₂ (λ (x : Bool) (y : ℕ). bit x + y) (e n (omega arith)) (count_cong n f g (λ v h. e v (omega arith)))

pub bit_true : (b : Bool) → T b → bit b ≡ 1
bit_true true t = refl
bit_true false t = absurd t

pub bit_false : (b : Bool) → T (not b) → bit b ≡ 0
bit_false true t = absurd t
bit_false false t = refl

pub bit_le : (b : Bool) → bit b ≤ 1
bit_le true = omega arith
bit_le false = omega arith

-- a test as a bit, and a bit as a test
pub bit_test : (b : Bool) → eqb (bit b) 1 ≡ b
bit_test true = refl
bit_test false = refl

pub test_bit : (x : ℕ) → x < 2 → bit (eqb x 1) ≡ x
test_bit zero h = refl
test_bit (suc zero) h = refl
test_bit (suc (suc x)) h = absurd (omega arith)

pub count_le : (n : ℕ) (f : ℕ → Bool) → count n f ≤ n
unfolding count
count_le zero f = omega arith
count_le (suc n) f =
    ⊎_elim (λ t. omega (arith, bit_true (f n) t, count_le n f)) (λ t. omega (arith, bit_false (f n) t, count_le n f)) (decide (f n))

-- a count that is not 0 counts something
pub count_some : (n : ℕ) (f : ℕ → Bool) → 1 ≤ count n f → T (any n f)
unfolding any count
count_some zero f h = absurd (omega arith)
count_some (suc n) f h =
    ⊎_elim (λ t. or_left (f n) (any n f) t) (λ t. or_right (f n) (any n f) (count_some n f (omega (arith, bit_false (f n) t)))) (decide (f n))

-- f, but for k
abbrev pub but : (ℕ → Bool) → ℕ → ℕ → Bool
but f k v = f v && not (eqb v k)

pub but_other : (f : ℕ → Bool) (k v : ℕ) → v ≢ k → but f k v ≡ f v
but_other f k v h = T-ext (but f k v) (f v) (λ t. and_left (f v) (not (eqb v k)) t) (λ t. and_make (f v) (not (eqb v k)) t (not_T (eqb v k) (λ e. h (eqb→eq v k e))))

pub but_self : (f : ℕ → Bool) (k : ℕ) → T (not (but f k k))
but_self f k = not_T (but f k k) (λ t. T_not (eqb k k) (and_right (f k) (not (eqb k k)) t) (eqb_refl k))

-- one that passes, and the others
pub count_but : (n : ℕ) (f : ℕ → Bool) (k : ℕ) → k < n → T (f k) → count n f ≡ suc (count n (but f k))
unfolding count
count_but zero f k h t = absurd (omega arith)
count_but (suc n) f k h t =
    ⊎_elim
    (λ e.
    let p : bit (f n) ≡ 1 = bit_true (f n) (rw (← e) t) in
    let q : bit (but f k n) ≡ 0 = rw e (bit_false (but f n n) (but_self f n)) in
    let r : count n (but f k) ≡ count n f = count_cong n (but f k) f (λ v l. but_other f k v (omega arith)) in
    omega arith)
    (λ l.
    let p : bit (but f k n) ≡ bit (f n) = ap bit (but_other f k n (omega arith)) in
    let r : count n f ≡ suc (count n (but f k)) = count_but n f k l t in
    omega arith)
    (below h)

-- what passes f is paired with what passes g, and no two of it with the same
pub record Pairs (n : ℕ) (f : ℕ → Bool) (m : ℕ) (g : ℕ → Bool) (R : ℕ → ℕ → Type 0) : Type 0 where
  pub pair : (v : ℕ) → v < n → T (f v) → (w : ℕ) × (w < m) × T (g w) × R v w
  pub apart : (v v' w : ℕ) → v < n → v' < n → T (f v) → T (f v') → R v w → R v' w → v ≡ v'

pub count_pairs_lem : (n : ℕ) (f : ℕ → Bool) (m : ℕ) (g : ℕ → Bool) (R : ℕ → ℕ → Type 0) → Pairs n f m g R → count n f ≤ count m g
unfolding count
count_pairs_lem zero f m g R o = omega arith
count_pairs_lem (suc n) f m g R o =
    ⊎_elim
    (λ t.
    let a : bit (f n) ≡ 1 = bit_true (f n) t in
    let x = o.pair n (omega arith) t in
    let b : count m g ≡ suc (count m (but g x.0)) = count_but m g x.0 x.1 x.2 in
    let c : count n f ≤ count m (but g x.0) =
    count_pairs_lem n f m (but g x.0) R (record {
      pair = λ v h s.
          let y = o.pair v (omega arith) s in (
            y.0,
            y.1,
            and_make (g y.0) (not (eqb y.0 x.0)) y.2
                (not_T (eqb y.0 x.0) (λ e.
                differ v h (o.apart v n x.0 (omega arith) (omega arith) s t (subst (R v) (eqb→eq y.0 x.0 e) y.3) x.3))),
            y.3,
          );
      apart = λ v w z h k x y. o.apart v w z (omega arith) (omega arith) x y;
    }) in
    omega arith)
    (λ t.
    let a : bit (f n) ≡ 0 = bit_false (f n) t in
    let c : count n f ≤ count m g =
    count_pairs_lem n f m g R (record {
      pair = λ v h s. o.pair v (omega arith) s;
      apart = λ v w z h k x y. o.apart v w z (omega arith) (omega arith) x y;
    }) in
    omega arith)
    (decide (f n))
  where
    differ : (v : ℕ) → v < n → v ≡ n → ⊥
    differ v h e = omega arith

pub to_apart : {n : ℕ} (r : Renumbering n) (v w : ℕ) → v < n → w < n → r.to v ≡ r.to w → v ≡ w
to_apart r v w a b e = sym (r.back_to v a) ∙ ap r.back e ∙ r.back_to w b

pub back_apart : {n : ℕ} (r : Renumbering n) (v w : ℕ) → v < n → w < n → r.back v ≡ r.back w → v ≡ w
back_apart r v w a b e = sym (r.to_back v a) ∙ ap r.to e ∙ r.to_back w b

-- a count is the same where the test is renumbered
pub count_across : {n : ℕ} (r : Renumbering n) (f g : ℕ → Bool) → ((v : ℕ) → v < n → g (r.to v) ≡ f v) → count n f ≡ count n g
count_across {n} r f g e =
    le_antisymm
    (count_pairs_lem n f n g (λ v w. r.to v ≡ w) (record {
      pair = λ v h x. (r.to v, r.to_below v h, rw (e v h) x, refl);
      apart = λ v w z h k x y a b. to_apart r v w h k (a ∙ sym b);
    }))
    (count_pairs_lem n g n f (λ v w. r.back v ≡ w) (record {
      pair = λ v h x. (r.back v, r.back_below v h, rw (← e (r.back v) (r.back_below v h), r.to_back v h) x, refl);
      apart = λ v w z h k x y a b. back_apart r v w h k (a ∙ sym b);
    }))

abbrev pub inverse : {n : ℕ} → Renumbering n → Renumbering n
inverse r = record {
  to = r.back;
  back = r.to;
  to_below = r.back_below;
  back_below = r.to_below;
  back_to = r.to_back;
  to_back = r.back_to;
}

-- one more, as a loop counts
pub count_none : (f : ℕ → Bool) → count 0 f ≡ 0
unfolding count
count_none f = refl

pub count_more : (n : ℕ) (f : ℕ → Bool) → count (n + 1) f ≡ count n f + bit (f n)
unfolding count
count_more n f = rw (add-one n) (omega arith)

pub count_yes : (n : ℕ) (f : ℕ → Bool) → T (f n) → count (n + 1) f ≡ count n f + 1
count_yes n f t = omega (arith, count_more n f, bit_true (f n) t)

pub count_no : (n : ℕ) (f : ℕ → Bool) → T (not (f n)) → count (n + 1) f ≡ count n f
count_no n f t = omega (arith, count_more n f, bit_false (f n) t)

pub count_at : (i j : ℕ) (f : ℕ → Bool) → i ≡ j → count i f ≡ count j f
count_at i j f e = ap (λ (k : ℕ). count k f) e

-- the first number apart from the others
pub count_first : (n : ℕ) (f : ℕ → Bool) → count (suc n) f ≡ bit (f 0) + count n (λ i. f (suc i))
unfolding count
count_first zero f = refl
count_first (suc n) f = omega (arith, count_first n f)

-- a test that no two pass counts 0 or 1
pub count_once : (n : ℕ) (f : ℕ → Bool) → ((i j : ℕ) → i < j → j < n → T (f i) → T (f j) → ⊥) → bit (any n f) ≡ count n f
unfolding any count
count_once zero f h = refl
count_once (suc n) f h =
    let e : bit (any n f) ≡ count n f = count_once n f (λ i j a b. h i j a (omega arith)) in
    ⊎_elim
    (λ t.
    let z : bit (any n f) ≡ 0 = bit_false (any n f) (not_T (any n f) (λ x. let r = any_take n f x in h r.0 n r.1 (omega arith) r.2 t)) in
    omega (arith, bit_true (f n) t, bit_true (f n || any n f) (or_left (f n) (any n f) t)))
    (λ t. rw (T_false (f n) t) (omega arith))
    (decide (f n))

-- ---- sums, and counts as sums

pub sum_cong : (n : ℕ) (f g : ℕ → ℕ) → ((v : ℕ) → v < n → f v ≡ g v) → sum n f ≡ sum n g
unfolding sum
sum_cong zero f g e = refl
sum_cong (suc n) f g e = omega (arith, e n (omega arith), sum_cong n f g (λ v h. e v (omega arith)))

pub sum_le : (n : ℕ) (f g : ℕ → ℕ) → ((v : ℕ) → v < n → f v ≤ g v) → sum n f ≤ sum n g
unfolding sum
sum_le zero f g e = omega arith
sum_le (suc n) f g e = omega (arith, e n (omega arith), sum_le n f g (λ v h. e v (omega arith)))

pub sum_add : (n : ℕ) (f g : ℕ → ℕ) → sum n (λ v. f v + g v) ≡ sum n f + sum n g
unfolding sum
sum_add zero f g = refl
sum_add (suc n) f g = omega (arith, sum_add n f g)

pub sum_zero : (n : ℕ) → sum n (λ v. 0) ≡ 0
unfolding sum
sum_zero zero = refl
sum_zero (suc n) = omega (arith, sum_zero n)

pub sum_const : (n c : ℕ) → sum n (λ v. c) ≡ n * c
unfolding sum
sum_const zero c = omega arith
sum_const (suc n) c = omega (arith, sum_const n c)

pub sum_swap : (n m : ℕ) (f : ℕ → ℕ → ℕ) → sum n (λ u. sum m (f u)) ≡ sum m (λ v. sum n (λ u. f u v))
unfolding sum
sum_swap zero m f = sym (sum_zero m)
sum_swap (suc n) m f = ap (λ (x : ℕ). sum m (f n) + x) (sum_swap n m f) ∙ sym (sum_add m (f n) (λ v. sum n (λ u. f u v)))

pub count_sum : (n : ℕ) (f : ℕ → Bool) → count n f ≡ sum n (λ v. bit (f v))
unfolding sum count
count_sum zero f = refl
count_sum (suc n) f = omega (arith, count_sum n f)

pub count_swap : (n m : ℕ) (f : ℕ → ℕ → Bool) → sum n (λ u. count m (f u)) ≡ sum m (λ v. count n (λ u. f u v))
count_swap n m f =
    sum_cong n (λ u. count m (f u)) (λ u. sum m (λ v. bit (f u v))) (λ u h. count_sum m (f u))
    ∙ sum_swap n m (λ u v. bit (f u v))
    ∙ sum_cong m (λ v. sum n (λ u. bit (f u v))) (λ v. count n (λ u. f u v)) (λ v h. sym (count_sum n (λ u. f u v)))

pub count_false : (n : ℕ) → count n (λ v. false) ≡ 0
unfolding count
count_false zero = refl
count_false (suc n) = omega (arith, count_false n)

pub count_eqb : (n a : ℕ) → count n (λ v. eqb a v) ≤ 1
count_eqb n a =
    le_trans
    (count_pairs_lem n (λ v. eqb a v) 1 (λ w. true) (λ v w. w ≡ 0) (record {
      pair = λ v h t. (0, omega arith, tt, refl);
      apart = λ v w z h k x y p q. sym (eqb→eq a v x) ∙ eqb→eq a w y;
    }))
    (count_le 1 (λ w. true))

bit_or : (a b : Bool) → bit (a || b) ≤ bit a + bit b
bit_or true true = omega arith
bit_or true false = omega arith
bit_or false true = omega arith
bit_or false false = omega arith

pub count_or : (n : ℕ) (f g : ℕ → Bool) → count n (λ v. f v || g v) ≤ count n f + count n g
unfolding count
count_or zero f g = omega arith
count_or (suc n) f g = omega (arith, bit_or (f n) (g n), count_or n f g)

-- numbers from a bound on that do not pass add nothing
pub count_wide : (n d : ℕ) (f : ℕ → Bool) → ((v : ℕ) → n ≤ v → T (not (f v))) → count (d + n) f ≡ count n f
unfolding count
count_wide n zero f h = count_at (0 + n) n f (omega arith)
count_wide n (suc d) f h =
    count_at (suc d + n) (suc (d + n)) f (omega arith) ∙ omega (arith, bit_false (f (d + n)) (h (d + n) (omega arith)), count_wide n d f h)

-- ---- a sum is the same where its terms are renumbered: it counts the pairs of a v and a number below its term

count_below : (b k : ℕ) → k ≤ b → count b (λ i. ltb i k) ≡ k
unfolding count
count_below zero k h = omega arith
count_below (suc b) k h =
    let top : k < suc (suc b) = omega arith in
    ⊎_elim
    (λ e. let l : T (ltb b k) = lt→ltb b k (omega arith) in omega (arith, bit_true (ltb b k) l, count_cong b (λ i. ltb i k) (λ i. true) (λ i q. T_true (ltb i k) (lt→ltb i k (omega arith))), count_all b))
    (λ l. omega (arith, bit_false (ltb b k) (not_T (ltb b k) (λ t. omega (arith, ltb→lt b k t))), count_below b k (omega arith)))
    (below top)
  where
    count_all : (n : ℕ) → count n (λ i. true) ≡ n
    count_all zero = refl
    count_all (suc n) = omega (arith, count_all n)

sum_by_level : (n b : ℕ) (f : ℕ → ℕ) → ((v : ℕ) → v < n → f v ≤ b) → sum n f ≡ sum b (λ i. count n (λ v. ltb i (f v)))
sum_by_level n b f h =
    sum_cong n f (λ v. count b (λ i. ltb i (f v))) (λ v l. sym (count_below b (f v) (h v l))) ∙ count_swap n b (λ v i. ltb i (f v))

pub sum_across : {n : ℕ} (r : Renumbering n) (f g : ℕ → ℕ) (b : ℕ) → ((v : ℕ) → v < n → f v ≤ b) → ((v : ℕ) → v < n → g (r.to v) ≡ f v) → sum n f ≡ sum n g
sum_across {n} r f g b h e =
    sum_by_level n b f h
    ∙ sum_cong b (λ i. count n (λ v. ltb i (f v))) (λ i. count n (λ v. ltb i (g v)))
    (λ i l. count_across r (λ v. ltb i (f v)) (λ v. ltb i (g v)) (λ v q. ap (ltb i) (e v q)))
    ∙ sym (sum_by_level n b g (λ v l. rw (← r.to_back v l, e (r.back v) (r.back_below v l)) (h (r.back v) (r.back_below v l))))
