-- Bits of words and of lists of words: how `and`, `or` and `xor` act on them, one bit set or cleared, and the ones of a word as a sum of bits.
--
--     bit_of_and, bit_of_or, bit_of_xor      an operation on words works bit by bit; bit_of_none: 0 has no bit set
--     differ_self, differ_none            a bit's `xor` with itself and with 0
--     bit_of_first, bit_of_half             bit 0 is the lowest digit; the other bits are those of the half
--     bit_at_set_same, bit_at_set_other     the words with bit i set
--     bit_at_clear_same, bit_at_clear_other the words with bit i cleared
--     shl_one                             how the code makes 2 ^ k; stored_with, stored_without, stored_masked: how it sets and clears bit i
--     ones_sum, ones_and                  the ones of a word, and of the `and` of two
--     word_bit, cell_word                 a bit by its word
use mathlib.Core.Path.{◌≡◌, refl, sym, ap, ap₂, ◌∙◌, subst}
use mathlib.Core.List.{List}
use Prim.Native.Nat.{ℕ, zero, suc, ◌+◌, ◌-◌, ◌*◌, ◌/◌, ◌%◌, ◌^◌, ◌≤◌, ◌<◌, min, max}
use native.Mathlib.Nat.{zero-lt-suc, mod-lt, div_self, div-eq_of_lt, div-one, pow-suc, mul-mod_left, min-le_left, max-le, lt_of_le_of_lt, le_of_suc-le-suc, le_refl, div-div-eq-div-mul, mul_comm, one-mul, add-zero, add-suc, zero-div}
use native.Mathlib.Omega.{arith}
use native.Mathlib.Decide.{ℕ_discrete, dec_lt}
use native.Mathlib.Numerals.{add-one}
use lib.ListN.{length, get_or, set, length-set, replicate, length-replicate, get_or-replicate, get_or-eq_default}
use lib.Seq.{get_or-set_same, get_or-set_other}
use lib.Bits.{bit_and, bit_or, bit_xor, differ, and_step, or_step, xor_step, and_shr, or_shr, xor_shr, and_lt}
use lib.Count.{ones, ones_step}
use lib.Arith.{digits_mod, lt-one}
use lib.Pow.{pow_pos, pow-add, pow-lt, shr_lt, shl-shr, shl_exact}
use Rattle.std.proofs.lemmas.Nat.{xor_lt}
use Rattle.std.proofs.lemmas.Nat.Bits.{same_from_bits_below, bit_at_clear_same as masked_same, bit_at_clear_other as masked_other}
use Rattle.std.specs.Int.{w64}
use Rattle.sets.specs.Below.{sum}
use Rattle.sets.specs.Bits.{bit_of, bit_at, cell, with_bit, without_bit}
use Rattle.sets.proofs.Counting.{sum_cong}

two_pos : zero < 2
two_pos = zero-lt-suc 1

pub bit_of_lt : (w k : ℕ) → bit_of w k < 2
unfolding bit_of
bit_of_lt w k = mod-lt (w / 2 ^ k) two_pos

-- ---- an operation on words works bit by bit
module _ (op f : ℕ → ℕ → ℕ)
    (step : (a b : ℕ) → op a b ≡ op (a / 2) (b / 2) * 2 + f (a % 2) (b % 2))
    (shr : (a b k : ℕ) → op a b / 2 ^ k ≡ op (a / 2 ^ k) (b / 2 ^ k))
    (small : (x y : ℕ) → x < 2 → y < 2 → f x y < 2) where
  pub op_bit : (a b k : ℕ) → bit_of (op a b) k ≡ f (bit_of a k) (bit_of b k)
  unfolding bit_of
  op_bit a b k =
      ap (λ (x : ℕ). x % 2) (shr a b k) ∙ ap (λ (x : ℕ). x % 2) (step (a / 2 ^ k) (b / 2 ^ k))
      ∙ digits_mod (op (a / 2 ^ k / 2) (b / 2 ^ k / 2)) (small (a / 2 ^ k % 2) (b / 2 ^ k % 2) (mod-lt (a / 2 ^ k) two_pos) (mod-lt (b / 2 ^ k) two_pos))

pub bit_of_none : (k : ℕ) → bit_of 0 k ≡ 0
unfolding bit_of
bit_of_none k = ap (λ (x : ℕ). x % 2) (zero-div (2 ^ k))

pub bit_of_and : (a b k : ℕ) → bit_of (bit_and a b) k ≡ min (bit_of a k) (bit_of b k)
bit_of_and = op_bit bit_and min and_step and_shr (λ x y h l. omega (arith, min-le_left x y))

pub bit_of_or : (a b k : ℕ) → bit_of (bit_or a b) k ≡ max (bit_of a k) (bit_of b k)
bit_of_or = op_bit bit_or max or_step or_shr (λ x y h l. lt_of_le_of_lt (max-le {k = 1} (le_of_suc-le-suc h) (le_of_suc-le-suc l)) (le_refl 2))

-- ---- the bits of a power of two
pub bit_of_pow_same : (k : ℕ) → bit_of (2 ^ k) k ≡ 1
unfolding bit_of
bit_of_pow_same k = ap (λ (x : ℕ). x % 2) (div_self (pow_pos k))

-- bit j of 2 ^ (suc d + j), which is even once shifted
above : (d j : ℕ) → bit_of (2 ^ (suc d + j)) j ≡ 0
unfolding bit_of
above d j =
    ap (λ (x : ℕ). x / 2 ^ j % 2) (pow-add 2 (suc d) j) ∙ ap (λ (x : ℕ). x % 2) (shl-shr (2 ^ suc d) j)
    ∙ ap (λ (x : ℕ). x % 2) (pow-suc 2 d) ∙ mul-mod_left (2 ^ d) 2

pub bit_of_pow_other : (k j : ℕ) → (j ≡ k → ⊥) → bit_of (2 ^ k) j ≡ 0
unfolding bit_of
bit_of_pow_other k j h = pick (dec_lt j k)
  where
    pick : Dec (j < k) → 2 ^ k / 2 ^ j % 2 ≡ 0
    pick (yes l) = let e : suc (k - suc j) + j ≡ k = omega arith in ap (λ (x : ℕ). bit_of (2 ^ x) j) (sym e) ∙ above (k - suc j) j
    pick (no n) = let g : k < j = omega arith in ap (λ (x : ℕ). x % 2) (div-eq_of_lt (pow-lt g))

-- ---- one bit of a word is set
pub bit_of_set_same : (w k : ℕ) → bit_of (bit_or w (2 ^ k)) k ≡ 1
bit_of_set_same w k = omega (arith, bit_of_or w (2 ^ k) k, bit_of_pow_same k, bit_of_lt w k)

pub bit_of_set_other : (w k j : ℕ) → (j ≡ k → ⊥) → bit_of (bit_or w (2 ^ k)) j ≡ bit_of w j
bit_of_set_other w k j h = omega (arith, bit_of_or w (2 ^ k) j, bit_of_pow_other k j h)

-- ---- one bit of a word is cleared
differ_small : (x y : ℕ) → x < 2 → y < 2 → differ x y < 2
differ_small zero y h l = l
differ_small (suc x) zero h l = h
differ_small (suc zero) (suc zero) h l = omega arith
differ_small (suc zero) (suc (suc y)) h l = absurd (omega arith)
differ_small (suc (suc x)) (suc y) h l = absurd (omega arith)

pub bit_of_xor : (a b k : ℕ) → bit_of (bit_xor a b) k ≡ differ (bit_of a k) (bit_of b k)
bit_of_xor = op_bit bit_xor differ xor_step xor_shr differ_small

-- a bit differs not from itself, and from 0 if it is 1
pub differ_self : (x : ℕ) → x < 2 → differ x x ≡ 0
differ_self zero h = refl
differ_self (suc zero) h = refl
differ_self (suc (suc x)) h = absurd (omega arith)

pub differ_none : (x : ℕ) → differ x 0 ≡ x
differ_none zero = refl
differ_none (suc x) = refl

clear_bit : (w k j : ℕ) → bit_of (bit_xor w (bit_and w (2 ^ k))) j ≡ differ (bit_of w j) (min (bit_of w j) (bit_of (2 ^ k) j))
clear_bit w k j = bit_of_xor w (bit_and w (2 ^ k)) j ∙ ap (differ (bit_of w j)) (bit_of_and w (2 ^ k) j)

pub bit_of_clear_same : (w k : ℕ) → bit_of (bit_xor w (bit_and w (2 ^ k))) k ≡ 0
bit_of_clear_same w k = clear_bit w k k ∙ ap (differ (bit_of w k)) (omega (arith, bit_of_pow_same k, bit_of_lt w k)) ∙ differ_self (bit_of w k) (bit_of_lt w k)

pub bit_of_clear_other : (w k j : ℕ) → (j ≡ k → ⊥) → bit_of (bit_xor w (bit_and w (2 ^ k))) j ≡ bit_of w j
bit_of_clear_other w k j n = clear_bit w k j ∙ ap (differ (bit_of w j)) (omega (arith, bit_of_pow_other k j n)) ∙ differ_none (bit_of w j)

-- ---- one bit of a list of words is set or cleared
pub shl_one : (k : ℕ) → k < 64 → 1 * 2 ^ k % 2 ^ 64 ≡ 2 ^ k
shl_one k h = shl_exact {a = 1} 1 k 64 (le_refl 2) (omega arith) ∙ one-mul (2 ^ k)

module _ (m : List ℕ) (i : ℕ) (h : i / 64 < length m) where
  word : get_or (with_bit m i) (i / 64) 0 ≡ bit_or (get_or m (i / 64) 0) (2 ^ (i % 64))
  unfolding with_bit
  word = get_or-set_same m (i / 64) (bit_or (get_or m (i / 64) 0) (2 ^ (i % 64))) 0 h

  pub bit_at_set_same : bit_at (with_bit m i) i ≡ 1
  unfolding bit_at
  bit_at_set_same = ap (λ (w : ℕ). bit_of w (i % 64)) word ∙ bit_of_set_same (get_or m (i / 64) 0) (i % 64)

  word_without : get_or (without_bit m i) (i / 64) 0 ≡ bit_xor (get_or m (i / 64) 0) (bit_and (get_or m (i / 64) 0) (2 ^ (i % 64)))
  unfolding without_bit
  word_without = get_or-set_same m (i / 64) (bit_xor (get_or m (i / 64) 0) (bit_and (get_or m (i / 64) 0) (2 ^ (i % 64)))) 0 h

  pub bit_at_clear_same : bit_at (without_bit m i) i ≡ 0
  unfolding bit_at
  bit_at_clear_same = ap (λ (w : ℕ). bit_of w (i % 64)) word_without ∙ bit_of_clear_same (get_or m (i / 64) 0) (i % 64)

-- another bit is as it was, wherever it stands: in the same word, or in another
other_bit : (m : List ℕ) (i w : ℕ) → ((j : ℕ) → (j ≡ i % 64 → ⊥) → bit_of w j ≡ bit_of (get_or m (i / 64) 0) j)
    → (j : ℕ) → (j ≡ i → ⊥) → bit_at (set m (i / 64) w) j ≡ bit_at m j
unfolding bit_at
other_bit m i w keep j ne = pick (ℕ_discrete (j / 64) (i / 64)) (dec_lt (i / 64) (length m))
  where
    pick : Dec (j / 64 ≡ i / 64) → Dec (i / 64 < length m) → bit_of (get_or (set m (i / 64) w) (j / 64) 0) (j % 64) ≡ bit_of (get_or m (j / 64) 0) (j % 64)
    pick (yes e) (yes h) =
        let d : j % 64 ≡ i % 64 → ⊥ = λ q. ne (omega arith) in
        ap (λ (k : ℕ). bit_of (get_or (set m (i / 64) w) k 0) (j % 64)) e
        ∙ ap (λ (x : ℕ). bit_of x (j % 64)) (get_or-set_same m (i / 64) w 0 h)
        ∙ keep (j % 64) d
        ∙ ap (λ (k : ℕ). bit_of (get_or m k 0) (j % 64)) (sym e)
    pick (yes e) (no h) =
        let l : length m ≤ j / 64 = omega arith in
        ap (λ (x : ℕ). bit_of x (j % 64))
        (get_or-eq_default (set m (i / 64) w) 0 (rw (length-set m (i / 64) w) l) ∙ sym (get_or-eq_default m 0 l))
    pick (no n) d = ap (λ (x : ℕ). bit_of x (j % 64)) (get_or-set_other m (i / 64) (j / 64) w 0 n)

pub bit_at_set_other : (m : List ℕ) (i j : ℕ) → (j ≡ i → ⊥) → bit_at (with_bit m i) j ≡ bit_at m j
unfolding with_bit
bit_at_set_other m i =
    other_bit m i (bit_or (get_or m (i / 64) 0) (2 ^ (i % 64))) (λ j n. bit_of_set_other (get_or m (i / 64) 0) (i % 64) j n)

pub bit_at_clear_other : (m : List ℕ) (i j : ℕ) → (j ≡ i → ⊥) → bit_at (without_bit m i) j ≡ bit_at m j
unfolding without_bit
bit_at_clear_other m i =
    other_bit m i (bit_xor (get_or m (i / 64) 0) (bit_and (get_or m (i / 64) 0) (2 ^ (i % 64)))) (λ j n. bit_of_clear_other (get_or m (i / 64) 0) (i % 64) j n)

pub length_with_bit : (m : List ℕ) (i : ℕ) → length (with_bit m i) ≡ length m
unfolding with_bit
length_with_bit m i = simp length-set

pub length_without_bit : (m : List ℕ) (i : ℕ) → length (without_bit m i) ≡ length m
unfolding without_bit
length_without_bit m i = simp length-set

pub stored_with : (m : List ℕ) (i : ℕ) → set m (i / 64) (bit_or (get_or m (i / 64) 0) (1 * 2 ^ (i % 64) % 2 ^ 64)) ≡ with_bit m i
unfolding with_bit
stored_with m i = rw (shl_one (i % 64) (omega arith))

pub stored_without : (m : List ℕ) (i : ℕ)
    → set m (i / 64) (bit_xor (get_or m (i / 64) 0) (bit_and (get_or m (i / 64) 0) (1 * 2 ^ (i % 64) % 2 ^ 64))) ≡ without_bit m i
unfolding without_bit
stored_without m i = rw (shl_one (i % 64) (omega arith))

-- a bit cleared by a mask of all the others
cleared : (w k : ℕ) → w < 2 ^ 64 → k < 64 → bit_and w (2 ^ 64 - 1 - 1 * 2 ^ k % 2 ^ 64) ≡ bit_xor w (bit_and w (2 ^ k))
unfolding bit_of
cleared w k h l =
    same_from_bits_below 64 _ _ (and_lt 64 _ _ h (omega arith)) (xor_lt 64 _ _ h (and_lt 64 _ _ h (pow-lt l))) (λ j q. pick j q (ℕ_discrete j k))
  where
    pick : (j : ℕ) → j < 64 → Dec (j ≡ k) → bit_of (bit_and w (2 ^ 64 - 1 - 1 * 2 ^ k % 2 ^ 64)) j ≡ bit_of (bit_xor w (bit_and w (2 ^ k))) j
    pick j q (yes e) = rw e (masked_same w64 w k l ∙ sym (bit_of_clear_same w k))
    pick j q (no n) = masked_other w64 w k l j q n ∙ sym (bit_of_clear_other w k j n)

pub stored_masked : (m : List ℕ) (i : ℕ) → get_or m (i / 64) 0 < 2 ^ 64
    → set m (i / 64) (bit_and (get_or m (i / 64) 0) (2 ^ 64 - 1 - 1 * 2 ^ (i % 64) % 2 ^ 64)) ≡ without_bit m i
unfolding without_bit
stored_masked m i fit = ap (set m (i / 64)) (cleared _ (i % 64) fit (omega arith))

pub sum_first : (n : ℕ) (f : ℕ → ℕ) → sum (suc n) f ≡ f 0 + sum n (λ (k : ℕ). f (suc k))
unfolding sum
sum_first zero f = refl
sum_first (suc n) f = omega (arith, sum_first n f)

-- ---- the ones of a word are its bits' sum
pub bit_of_first : (w : ℕ) → bit_of w 0 ≡ w % 2
unfolding bit_of
bit_of_first w = ap (λ (x : ℕ). x % 2) (div-one w)

pub bit_of_half : (w k : ℕ) → bit_of w (suc k) ≡ bit_of (w / 2) k
unfolding bit_of
bit_of_half w k = ap (λ (x : ℕ). w / x % 2) (pow-suc 2 k ∙ mul_comm (2 ^ k) 2) ∙ ap (λ (x : ℕ). x % 2) (sym (div-div-eq-div-mul w 2 (2 ^ k)))

pub ones_sum : (n w : ℕ) → w < 2 ^ n → ones w ≡ sum n (bit_of w)
unfolding sum bit_of ones
ones_sum zero w h = ap ones (lt-one h)
ones_sum (suc n) w h =
    let rest : sum n (λ (k : ℕ). bit_of w (suc k)) ≡ sum n (bit_of (w / 2)) = sum_cong n (λ (k : ℕ). bit_of w (suc k)) (bit_of (w / 2)) (λ k l. bit_of_half w k) in
    let half : w / 2 < 2 ^ n = shr_lt n 1 (subst (λ (x : ℕ). w < 2 ^ x) (sym (add-one n)) h) in
    omega (arith, sum_first n (bit_of w), bit_of_first w, rest, ones_step w, ones_sum n (w / 2) half)

-- the ones of an and are the places where both have a one
pub ones_and : (n x y : ℕ) → x < 2 ^ n → y < 2 ^ n → ones (bit_and x y) ≡ sum n (λ (k : ℕ). min (bit_of x k) (bit_of y k))
ones_and n x y h l = ones_sum n (bit_and x y) (and_lt n x y h l) ∙ sum_cong n (bit_of (bit_and x y)) (λ (k : ℕ). min (bit_of x k) (bit_of y k)) (λ k q. bit_of_and x y k)

pub bit_at_lt : (m : List ℕ) (i : ℕ) → bit_at m i < 2
unfolding bit_at
bit_at_lt m i = bit_of_lt (get_or m (i / 64) 0) (i % 64)

-- ---- a bit by its word
pub word_bit : (ws : List ℕ) (j k : ℕ) → k < 64 → bit_at ws (j * 64 + k) ≡ bit_of (get_or ws j 0) k
unfolding bit_at
word_bit ws j k h =
    let d : (j * 64 + k) / 64 ≡ j = omega arith in
    let r : (j * 64 + k) % 64 ≡ k = omega arith in
    ap₂ (λ (x y : ℕ). bit_of (get_or ws x 0) y) d r

pub cell_word : (ws : List ℕ) (u j k : ℕ) → k < 64 → cell ws u (j * 64 + k) ≡ bit_of (get_or ws (u * 8 + j) 0) k
cell_word ws u j k h = ap (bit_at ws) (let e : u * 512 + (j * 64 + k) ≡ (u * 8 + j) * 64 + k = omega arith in e) ∙ word_bit ws (u * 8 + j) k h

abbrev pub zeros : ℕ → List ℕ
zeros n = replicate n 0

-- there is no bit past the last word
pub bit_at_past : (m : List ℕ) (i : ℕ) → length m ≤ i / 64 → bit_at m i ≡ 0
unfolding bit_at bit_of
bit_at_past m i h =
    ap (λ (x : ℕ). x / 2 ^ (i % 64) % 2) (get_or-eq_default m 0 h) ∙ ap (λ (x : ℕ). x % 2) (zero-div (2 ^ (i % 64)))

pub bit_at_zeros : (n i : ℕ) → bit_at (zeros n) i ≡ 0
unfolding bit_at bit_of
bit_at_zeros n i = ap (λ (x : ℕ). x / 2 ^ (i % 64) % 2) (none (dec_lt (i / 64) n)) ∙ ap (λ (x : ℕ). x % 2) (zero-div (2 ^ (i % 64)))
  where
    none : Dec (i / 64 < n) → get_or (zeros n) (i / 64) 0 ≡ 0
    none (yes h) = get_or-replicate n (i / 64) 0 0 h
    none (no h) = get_or-eq_default (zeros n) 0 (omega (arith, length-replicate {A = ℕ} n 0))

-- ---- sums of bits
pub sum_split : (a b : ℕ) (f : ℕ → ℕ) → sum (a + b) f ≡ sum a f + sum b (λ (k : ℕ). f (a + k))
unfolding sum
sum_split a zero f = ap (λ (n : ℕ). sum n f) (add-zero a) ∙ sym (add-zero (sum a f))
sum_split a (suc b) f = omega (arith, ap (λ (n : ℕ). sum n f) (add-suc a b), sum_split a b f)

-- a sum over words, one word more: 64 terms that are the bits of a word
pub sum_word : (f : ℕ → ℕ) (j w : ℕ) → w < 2 ^ 64 → ((k : ℕ) → k < 64 → f (j * 64 + k) ≡ bit_of w k) → sum ((j + 1) * 64) f ≡ sum (j * 64) f + ones w
sum_word f j w h e =
    let p : (j + 1) * 64 ≡ j * 64 + 64 = omega arith in
    ap (λ (n : ℕ). sum n f) p ∙ sum_split (j * 64) 64 f
    ∙ ap (λ (x : ℕ). sum (j * 64) f + x) (sum_cong 64 (λ (k : ℕ). f (j * 64 + k)) (bit_of w) e ∙ sym (ones_sum 64 w h))

-- a sum with one term less by one
sum_same : (f g : ℕ → ℕ) (i : ℕ) → ((j : ℕ) → (j ≡ i → ⊥) → g j ≡ f j) → (k : ℕ) → k ≤ i → sum k g ≡ sum k f
unfolding sum
sum_same f g i r zero l = refl
sum_same f g i r (suc k) l = ap₂ (λ (x y : ℕ). x + y) (r k (λ e. omega arith)) (sum_same f g i r k (omega arith))

pub sum_drop : (f g : ℕ → ℕ) (i n : ℕ) → i < n → f i ≡ 1 → g i ≡ 0 → ((j : ℕ) → (j ≡ i → ⊥) → g j ≡ f j) → sum n g + 1 ≡ sum n f
unfolding sum
sum_drop f g i zero h p q r = absurd (omega arith)
sum_drop f g i (suc n) h p q r = pick (λ (l : i < n). sum_drop f g i n l p q r) (ℕ_discrete n i)
  where
    pick : (i < n → sum n g + 1 ≡ sum n f) → Dec (n ≡ i) → g n + sum n g + 1 ≡ f n + sum n f
    pick ih (yes e) = omega (arith, sum_same f g i r n (omega arith), ap f e, ap g e)
    pick ih (no d) = omega (arith, ih (omega arith), r n d)
