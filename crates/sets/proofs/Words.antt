-- Words of 64 bits are equal where their bits are: so is a table whose words fit, by its cells.
--
--     word_one       words with the same bits are equal
--     word_cell      the bits of word i of a table are 64 cells of row i / 8
--     lowest_alone   the lowest set bit of a word, as the code makes it
use Prim.Native.Nat.{ℕ, zero, suc, ◌+◌, ◌*◌, ◌/◌, ◌%◌, ◌^◌, ◌<◌}
use native.Mathlib.Omega.{arith}
use native.Mathlib.Decide.{ℕ_discrete}
use native.Mathlib.Numerals.{add-one}
use mathlib.Core.Path.{◌≡◌, sym, ap, ap₂, ◌∙◌, subst}
use mathlib.Core.List.{List}
use lib.ListN.{get_or}
use lib.Bits.{bit_xor, xor_lt, differ}
use lib.Pow.{shr_lt, pow-lt}
use Rattle.sets.specs.Bits.{bit_of, cell}
use Rattle.sets.proofs.Bits.{bit_of_lt, bit_of_first, bit_of_half, bit_of_xor, bit_of_pow_same, bit_of_pow_other, differ_self, cell_word}
use Rattle.sets.proofs.Lowest.{Lowest, cleared, cleared_lt, cleared_same, cleared_other}

half_lt : (n y : ℕ) → y < 2 ^ suc n → y / 2 < 2 ^ n
half_lt n y b = shr_lt n 1 (subst (λ (z : ℕ). y < 2 ^ z) (sym (add-one n)) b)

pub word_one : (n w x : ℕ) → w < 2 ^ n → x < 2 ^ n → ((k : ℕ) → k < n → bit_of w k ≡ bit_of x k) → w ≡ x
word_one zero w x h l e = omega arith
word_one (suc n) w x h l e =
    let rest : w / 2 ≡ x / 2 = word_one n (w / 2) (x / 2) (half_lt n w h) (half_lt n x l) (λ k q. sym (bit_of_half w k) ∙ e (suc k) (omega arith) ∙ bit_of_half x k) in
    omega (arith, rest, bit_of_first w, bit_of_first x, e 0 (omega arith))

pub word_cell : (ws : List ℕ) (i k : ℕ) → k < 64 → bit_of (get_or ws i 0) k ≡ cell ws (i / 8) (i % 8 * 64 + k)
word_cell ws i k h =
    let e : i / 8 * 8 + i % 8 ≡ i = omega arith in
    sym (cell_word ws (i / 8) (i % 8) k h ∙ ap (λ (j : ℕ). bit_of (get_or ws j 0) k) e)

pub lowest_alone : (w t : ℕ) → w < 2 ^ 64 → t < 64 → Lowest w t → bit_xor w (cleared w) ≡ 2 ^ t
lowest_alone w t h q l =
    word_one 64 (bit_xor w (cleared w)) (2 ^ t) (xor_lt 64 w (cleared w) h (cleared_lt w h)) (pow-lt q) (λ k p. bit_of_xor w (cleared w) k ∙ pick k (ℕ_discrete k t))
  where
    pick : (k : ℕ) → Dec (k ≡ t) → differ (bit_of w k) (bit_of (cleared w) k) ≡ bit_of (2 ^ t) k
    pick k (yes e) = rw e (ap₂ differ l.here (cleared_same w t l) ∙ sym (bit_of_pow_same t))
    pick k (no d) = ap (differ (bit_of w k)) (cleared_other w t l k d) ∙ differ_self (bit_of w k) (bit_of_lt w k) ∙ sym (bit_of_pow_other t k d)
