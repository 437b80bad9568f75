-- Numbers in an i64, as they are below 2 ^ 63, and made negative below 2 ^ 62: neither wraps.
--
--     is_pos                      an i64 below 2 ^ 63 is its number
--     minus_fits, is_negative     the negative of a number below 2 ^ 62 fits an i64, and is what the code makes of it
use Prim.Native.Nat.{ℕ, zero, suc, ◌<◌}
use mathlib.Core.Path.{◌≡◌, ap, ◌∙◌}
use native.Mathlib.Omega.{arith}
use lib.IntN.{pos, neg_ℤ, ◌-ℤ◌, +ℤ_idl}
use mir.Syntax.{w64}
use mir.Val.{SFits, to_z, of_z}
use mir.Facts.{to_z_pos, to_z-of_z}

pub is_pos : (k : ℕ) → k < 9223372036854775808 → to_z w64 k ≡ pos k
is_pos k h = to_z_pos w64 {n = k} (omega arith)

minus : (k : ℕ) → k < 4611686018427387904 → pos 0 -ℤ to_z w64 k ≡ neg_ℤ (pos k)
minus k h = ap (λ z. pos 0 -ℤ z) (is_pos k (omega arith)) ∙ +ℤ_idl (neg_ℤ (pos k))

neg_fits : (k : ℕ) → k < 4611686018427387904 → SFits w64 (neg_ℤ (pos k))
neg_fits zero h = record { sfits = omega arith }
neg_fits (suc k) h = record { sfits = omega arith }

pub minus_fits : (k : ℕ) → k < 4611686018427387904 → SFits w64 (pos 0 -ℤ to_z w64 k)
minus_fits k h = rw (minus k h) (neg_fits k h)

pub is_negative : (k : ℕ) → k < 4611686018427387904 → to_z w64 (of_z w64 (pos 0 -ℤ to_z w64 k)) ≡ neg_ℤ (pos k)
is_negative k h = to_z-of_z (minus_fits k h) ∙ minus k h
