-- The lowest set bit of a word, which `u64::trailing_zeros` finds.
--
--     Lowest w t     t is the place of the lowest set bit of w
--     lowest         the number of trailing zeros of a word that is not 0 is that place
--     cleared w      w with its lowest set bit cleared, as the code makes it
--     cleared_lt, cleared_le, cleared_same, cleared_other, cleared_falls     it fits, has no other bit than w, not the lowest, and one bit less
use Prim.Native.Nat.{ℕ, zero, suc, ◌-◌, ◌/◌, ◌%◌, ◌^◌, ◌≤◌, ◌<◌, min}
use mathlib.Core.Path.{◌≡◌, refl, sym, ap, ◌∙◌, subst}
use native.Mathlib.Omega.{arith}
use native.Mathlib.Numerals.{add-one}
use native.Mathlib.Nat.{mod-lt, zero-lt-suc}
use lib.Arith.{lt-one}
use lib.Pow.{shr_lt}
use lib.Bits.{bit_and, and_lt}
use lib.Count.{count_trailing_zeros, under}
use Rattle.sets.specs.Below.{sum}
use Rattle.sets.specs.Bits.{bit_of}
use Rattle.sets.proofs.Bits.{bit_of_and, bit_of_first, bit_of_half, sum_drop}

-- t is the place of the lowest set bit of w
pub record Lowest (w t : ℕ) : Type 0 where
  pub here : bit_of w t ≡ 1
  pub lower : (j : ℕ) → j < t → bit_of w j ≡ 0

lower_more : (w t : ℕ) → w % 2 ≡ 0 → Lowest (w / 2) t → (j : ℕ) → j < suc t → bit_of w j ≡ 0
lower_more w t e l zero h = bit_of_first w ∙ e
lower_more w t e l (suc j) h = bit_of_half w j ∙ l.lower j (omega arith)

-- the lowest digit, and the rest
by_digit : (k w : ℕ) → zero < w → ((zero < w / 2) → (count_trailing_zeros k (w / 2) < k) × Lowest (w / 2) (count_trailing_zeros k (w / 2)))
    → (d : ℕ) → w % 2 ≡ d → d < 2 → (under d (count_trailing_zeros k (w / 2)) < suc k) × Lowest w (under d (count_trailing_zeros k (w / 2)))
by_digit k w p rest zero e h =
    let r = rest (omega arith) in
    (omega arith, record { here = bit_of_half w (count_trailing_zeros k (w / 2)) ∙ r.1.here; lower = lower_more w (count_trailing_zeros k (w / 2)) e r.1 })
by_digit k w p rest (suc zero) e h = (omega arith, record { here = bit_of_first w ∙ e; lower = λ j l. absurd (omega arith) })
by_digit k w p rest (suc (suc d)) e h = absurd (omega arith)

pub lowest : (k w : ℕ) → zero < w → w < 2 ^ k → (count_trailing_zeros k w < k) × Lowest w (count_trailing_zeros k w)
unfolding count_trailing_zeros
lowest zero w p h = absurd (omega (arith, lt-one h))
lowest (suc k) w p h =
    by_digit k w p (λ q. lowest k (w / 2) q (shr_lt k 1 (subst (λ (x : ℕ). w < 2 ^ x) (sym (add-one k)) h))) (w % 2) refl (mod-lt w (zero-lt-suc 1))

-- ---- the lowest set bit is cleared
lowest_half : (w t : ℕ) → Lowest w (suc t) → Lowest (w / 2) t
lowest_half w t l = record { here = sym (bit_of_half w t) ∙ l.here; lower = λ j h. sym (bit_of_half w j) ∙ l.lower (suc j) (omega arith) }

-- w - 1 has the bits of w above its lowest set bit, and there a 0
half_less : (w : ℕ) → w % 2 ≡ 0 → (w - 1) / 2 ≡ w / 2 - 1
half_less w e = omega arith

bit_of_less : (t w : ℕ) → Lowest w t → bit_of (w - 1) t ≡ 0
bit_of_less zero w l = omega (arith, bit_of_first (w - 1), bit_of_first w, l.here)
bit_of_less (suc t) w l =
    bit_of_half (w - 1) t
    ∙ ap (λ (x : ℕ). bit_of x t) (half_less w (sym (bit_of_first w) ∙ l.lower 0 (omega arith)))
    ∙ bit_of_less t (w / 2) (lowest_half w t l)

bit_of_keeps : (t w k : ℕ) → Lowest w t → (k ≡ t → ⊥) → min (bit_of w k) (bit_of (w - 1) k) ≡ bit_of w k
bit_of_keeps zero w zero l d = absurd (d refl)
bit_of_keeps zero w (suc k) l d =
    let e : (w - 1) / 2 ≡ w / 2 = omega (arith, bit_of_first w, l.here) in
    omega (arith, bit_of_half w k, bit_of_half (w - 1) k, ap (λ (x : ℕ). bit_of x k) e)
bit_of_keeps (suc t) w zero l d = omega (arith, l.lower 0 (omega arith))
bit_of_keeps (suc t) w (suc k) l d =
    let e = half_less w (sym (bit_of_first w) ∙ l.lower 0 (omega arith)) in
    omega (arith, bit_of_half w k, bit_of_half (w - 1) k, ap (λ (x : ℕ). bit_of x k) e, bit_of_keeps t (w / 2) k (lowest_half w t l) (λ p. d (ap suc p)))

abbrev pub cleared : ℕ → ℕ
cleared w = bit_and w (w - 1)

pub cleared_lt : (w : ℕ) → w < 2 ^ 64 → cleared w < 2 ^ 64
cleared_lt w h = and_lt 64 w (w - 1) h (omega (arith, h))

pub cleared_le : (w k : ℕ) → bit_of (cleared w) k ≤ bit_of w k
cleared_le w k = omega (arith, bit_of_and w (w - 1) k)

module _ (w t : ℕ) (l : Lowest w t) where
  pub cleared_same : bit_of (cleared w) t ≡ 0
  cleared_same = omega (arith, bit_of_and w (w - 1) t, bit_of_less t w l)

  pub cleared_other : (k : ℕ) → (k ≡ t → ⊥) → bit_of (cleared w) k ≡ bit_of w k
  cleared_other k d = bit_of_and w (w - 1) k ∙ bit_of_keeps t w k l d

  pub cleared_falls : t < 64 → sum 64 (bit_of (cleared w)) < sum 64 (bit_of w)
  cleared_falls h = omega (arith, sum_drop (bit_of w) (bit_of (cleared w)) t 64 h l.here cleared_same cleared_other)
