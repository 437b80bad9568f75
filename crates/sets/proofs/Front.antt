-- The bits of a list of words, by its first word and the others.
--
--     bit_first, bit_later    a bit of the first word; a bit of the others
use Prim.Native.Nat.{ℕ, suc, ◌+◌, ◌/◌, ◌%◌, ◌<◌}
use native.Mathlib.Omega.{arith}
use mathlib.Core.Path.{◌≡◌, ap₂}
use mathlib.Core.List.{List, ◌∷◌}
use lib.ListN.{get_or}
use Rattle.sets.specs.Bits.{bit_of, bit_at}

pub bit_first : (w : ℕ) (ws : List ℕ) (k : ℕ) → k < 64 → bit_at (w ∷ ws) k ≡ bit_of w k
unfolding bit_at
bit_first w ws k h =
    let word : k / 64 ≡ 0 = omega arith in
    let place : k % 64 ≡ k = omega arith in
    ap₂ (λ (i j : ℕ). bit_of (get_or (w ∷ ws) i 0) j) word place

pub bit_later : (w : ℕ) (ws : List ℕ) (k : ℕ) → bit_at (w ∷ ws) (64 + k) ≡ bit_at ws k
unfolding bit_at
bit_later w ws k =
    let word : (64 + k) / 64 ≡ suc (k / 64) = omega arith in
    let place : (64 + k) % 64 ≡ k % 64 = omega arith in
    ap₂ (λ (i j : ℕ). bit_of (get_or (w ∷ ws) i 0) j) word place
