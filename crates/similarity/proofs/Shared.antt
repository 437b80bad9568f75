-- What two rows of a table have in common.
--
--     in_both_most    no more than 512 numbers are in both sets
--     shared_words    the ones of the `and` of two words, summed over the first n pairs of words
--     shared_all      of eight pairs of words these are the numbers in both sets; shared_step, shared_end: one pair more, and none
--     rows_common     of the slices that two rows of a table stand in, those are the columns marked in both rows
use Prim.Native.Nat.{ℕ, zero, suc, ◌+◌, ◌*◌, ◌/◌, ◌%◌, ◌≤◌, ◌<◌, min}
use native.Mathlib.Omega.{arith}
use native.Mathlib.Nat.{le_trans, le_of_eq}
use native.Mathlib.Numerals.{add-one}
use mathlib.Core.Path.{◌≡◌, refl, sym, ap, ap₂, ◌∙◌}
use mathlib.Core.Logic.{◌⊎◌, inl, inr, ⊎_elim}
use mathlib.Core.List.{List, [], ◌∷◌}
use lib.Bits.{bit_and}
use lib.Count.{ones}
use lib.ListN.{length, get_or, take, drop}
use lib.Seq.{get_or-take, get_or-drop}
use Rattle.sets.specs.Below.{sum}
use Rattle.sets.specs.Bits.{bit_of, bit_at, Words, cell}
use Rattle.sets.proofs.Counting.{sum_cong, sum_le, sum_const, sum_zero}
use Rattle.sets.proofs.Bits.{bit_at_lt, bit_at_past, sum_split, ones_and}
use Rattle.sets.proofs.Front.{bit_first, bit_later}
use Rattle.similarity.specs.Similarity.{in_both}

pub in_both_most : (a b : List ℕ) → in_both a b ≤ 512
unfolding in_both
in_both_most a b =
    le_trans (sum_le 512 (λ v. min (bit_at a v) (bit_at b v)) (λ v. 1) (λ v h. one v)) (le_of_eq (sum_const 512 1))
  where
    one : (v : ℕ) → min (bit_at a v) (bit_at b v) ≤ 1
    one v = omega (arith, bit_at_lt a v)

-- ---- by pairs of words
unfoldable pub shared_words : List ℕ → List ℕ → ℕ → ℕ
shared_words [] b n = 0
shared_words (x ∷ a) [] n = 0
shared_words (x ∷ a) (y ∷ b) zero = 0
shared_words (x ∷ a) (y ∷ b) (suc n) = ones (bit_and x y) + shared_words a b n

pub shared_step : {a b a' b' : List ℕ} {x y n : ℕ} (m : ℕ) → a ≡ x ∷ a' → b ≡ y ∷ b' → m + 1 ≡ n → shared_words a b n ≡ ones (bit_and x y) + shared_words a' b' m
unfolding shared_words
shared_step m p q r = rw (p, q, ← r, add-one m) refl

pub shared_end : (a b : List ℕ) (n : ℕ) → (0 < n → (length a ≡ 0) ⊎ (length b ≡ 0)) → shared_words a b n ≡ 0
unfolding shared_words
shared_end [] b n h = refl
shared_end (x ∷ a) [] n h = refl
shared_end (x ∷ a) (y ∷ b) zero h = refl
shared_end (x ∷ a) (y ∷ b) (suc n) h = ⊎_elim (λ e. absurd (omega arith)) (λ e. absurd (omega arith)) (h (omega arith))

abbrev both_at : List ℕ → List ℕ → ℕ → ℕ
both_at a b v = min (bit_at a v) (bit_at b v)

none_at : (n : ℕ) (a b : List ℕ) → (length a ≡ 0) ⊎ (length b ≡ 0) → sum n (both_at a b) ≡ 0
none_at n a b h = sum_cong n (both_at a b) (λ v. 0) (λ v l. none v h) ∙ sum_zero n
  where
    none : (v : ℕ) → (length a ≡ 0) ⊎ (length b ≡ 0) → both_at a b v ≡ 0
    none v h = ⊎_elim (λ e. omega (arith, bit_at_past a v (omega arith))) (λ e. omega (arith, bit_at_past b v (omega arith))) h

sum_none : (f : ℕ → ℕ) → sum 0 f ≡ 0
unfolding sum
sum_none f = refl

shared_sum : (n : ℕ) (a b : List ℕ) → Words a → Words b → sum (n * 64) (both_at a b) ≡ shared_words a b n
unfolding shared_words
shared_sum n [] b h l = none_at (n * 64) [] b (inl refl)
shared_sum n (x ∷ a) [] h l = none_at (n * 64) (x ∷ a) [] (inr refl)
shared_sum zero (x ∷ a) (y ∷ b) h l = sum_none (both_at (x ∷ a) (y ∷ b))
shared_sum (suc n) (x ∷ a) (y ∷ b) h l =
    let f : ℕ → ℕ = both_at (x ∷ a) (y ∷ b) in
    let e : suc n * 64 ≡ 64 + n * 64 = omega arith in
    ap (λ (m : ℕ). sum m f) e ∙ sum_split 64 (n * 64) f
    ∙ ap₂ ◌+◌
    (sum_cong 64 f (λ k. min (bit_of x k) (bit_of y k)) (λ k q. ap₂ min (bit_first x a k q) (bit_first y b k q)) ∙ sym (ones_and 64 x y (h 0) (l 0)))
    (sum_cong (n * 64) (λ k. f (64 + k)) (both_at a b) (λ k q. ap₂ min (bit_later x a k) (bit_later y b k))
    ∙ shared_sum n a b (λ i. h (suc i)) (λ i. l (suc i)))

pub shared_all : (a b : List ℕ) → Words a → Words b → in_both a b ≡ shared_words a b 8
unfolding in_both
shared_all a b h l = shared_sum 8 a b h l

-- ---- rows of a table
-- bit v of the slice that row u stands in
row_bit : (ws : List ℕ) (u v : ℕ) → v < 512 → bit_at (take 8 (drop (u * 8) ws)) v ≡ cell ws u v
unfolding bit_at
row_bit ws u v h =
    let word : (u * 512 + v) / 64 ≡ u * 8 + v / 64 = omega arith in
    let place : (u * 512 + v) % 64 ≡ v % 64 = omega arith in
    ap (λ (w : ℕ). bit_of w (v % 64)) (get_or-take 8 (drop (u * 8) ws) (v / 64) 0 (omega arith) ∙ get_or-drop (u * 8) ws (v / 64) 0)
    ∙ sym (ap₂ (λ (i k : ℕ). bit_of (get_or ws i 0) k) word place)

pub rows_common : (ws : List ℕ) (u v : ℕ) → in_both (take 8 (drop (u * 8) ws)) (take 8 (drop (v * 8) ws)) ≡ sum 512 (λ w. min (cell ws u w) (cell ws v w))
unfolding in_both
rows_common ws u v = sum_cong 512 _ _ (λ w h. ap₂ min (row_bit ws u w h) (row_bit ws v w h))
