-- Laws of numbers in bytes.
--
--     le_cong, number_cong       equal bytes make equal numbers
--     number_le                  a number whose bytes are all there
--     number_slice               a number in a slice of a list
--     number_drop                a number at a place, by what stands from there on
use Prim.Native.Nat.{ℕ, zero, suc, ◌+◌, ◌*◌, ◌≤◌, ◌<◌}
use native.Mathlib.Omega.{arith}
use native.Mathlib.Nat.{add-zero}
use mathlib.Core.Path.{◌≡◌, refl, sym, ap, ap₂, ◌∙◌}
use mathlib.Core.Bool.{Bool, true, false, cond}
use mathlib.Core.List.{List}
use lib.Dec.{leb, leb→le, le→leb}
use lib.ListN.{length, get_or, take, drop, length-take, length-drop}
use lib.Seq.{get_or-take, get_or-drop}
use Rattle.sets.proofs.Tests.{T_true, T-ext}
use Rattle.little_endian.specs.Bytes.{le, number}

shift : (x i : ℕ) → x + 1 + i ≡ x + suc i
shift x i = omega arith

pub le_cong : (w : ℕ) (s t : List ℕ) (a b : ℕ) → ((i : ℕ) → i < w → get_or t (b + i) 0 ≡ get_or s (a + i) 0) → le w t b ≡ le w s a
le_cong zero s t a b e = refl
le_cong (suc w) s t a b e =
    ap₂ (λ (x y : ℕ). x + 256 * y)
    (ap (λ (x : ℕ). get_or t x 0) (sym (add-zero b)) ∙ e 0 (omega arith) ∙ ap (λ (x : ℕ). get_or s x 0) (add-zero a))
    (le_cong w s t (a + 1) (b + 1)
    (λ i h. ap (λ (x : ℕ). get_or t x 0) (shift b i) ∙ e (suc i) (omega arith) ∙ ap (λ (x : ℕ). get_or s x 0) (sym (shift a i))))

-- where all of its bytes are there
pub number_le : (w : ℕ) (s : List ℕ) (at : ℕ) → at + w ≤ length s → number w s at ≡ le w s at
unfolding number
number_le w s at h = ap (λ (b : Bool). cond b (le w s at) 0) (T_true (leb (at + w) (length s)) (le→leb (at + w) (length s) h))

-- the same bytes at two places of two lists that both have them
pub number_cong : (w : ℕ) (s t : List ℕ) (a b : ℕ) → a + w ≤ length s → b + w ≤ length t
    → ((i : ℕ) → i < w → get_or t (b + i) 0 ≡ get_or s (a + i) 0) → number w t b ≡ number w s a
number_cong w s t a b ha hb e = number_le w t b hb ∙ le_cong w s t a b e ∙ sym (number_le w s a ha)

-- a number in a slice of a list; where its bytes are not all there, they are not in the slice either
pub number_slice : (w : ℕ) (s : List ℕ) (from n at : ℕ) → 1 ≤ w → at + w ≤ n → number w (take n (drop from s)) at ≡ number w s (from + at)
unfolding number
number_slice w s from n at some h =
    let t : List ℕ = take n (drop from s) in
    ap₂ (λ (b : Bool) (x : ℕ). cond b x 0)
    (T-ext (leb (at + w) (length t)) (leb (from + at + w) (length s))
    (λ q. le→leb (from + at + w) (length s) (omega (arith, leb→le (at + w) (length t) q, length-take n (drop from s), length-drop from s)))
    (λ q. le→leb (at + w) (length t) (omega (arith, leb→le (from + at + w) (length s) q, length-take n (drop from s), length-drop from s))))
    (le_cong w s t (from + at) at
    (λ i l. get_or-take n (drop from s) (at + i) 0 (omega arith) ∙ get_or-drop from s (at + i) 0 ∙ ap (λ (x : ℕ). get_or s x 0) (omega arith)))

-- a number at a place is the one at the front of what stands from there on
nothing : (b : Bool) → cond {A = ℕ} b 0 0 ≡ 0
nothing true = refl
nothing false = refl

pub number_drop : (w : ℕ) (s : List ℕ) (at : ℕ) → number w (drop at s) 0 ≡ number w s at
unfolding number
number_drop zero s at = nothing (leb (0 + 0) (length (drop at s))) ∙ sym (nothing (leb (at + 0) (length s)))
number_drop (suc w) s at =
    ap₂ (λ (b : Bool) (x : ℕ). cond b x 0)
    (T-ext (leb (0 + suc w) (length (drop at s))) (leb (at + suc w) (length s))
    (λ q. le→leb (at + suc w) (length s) (omega (arith, leb→le (0 + suc w) (length (drop at s)) q, length-drop at s)))
    (λ q. le→leb (0 + suc w) (length (drop at s)) (omega (arith, leb→le (at + suc w) (length s) q, length-drop at s))))
    (le_cong (suc w) s (drop at s) at 0 (λ i l. get_or-drop at s (0 + i) 0 ∙ ap (λ (x : ℕ). get_or s x 0) (omega arith)))
