-- Tables of rows of bits, and the sizes of the rows. A bit less in a row is one less in its size, and changes no other row.
--
--     row_bit, counted_out          a row's size is at least any of its bits, and the sizes without it
use Prim.Native.Nat.{ℕ, ◌+◌, ◌*◌, ◌-◌, ◌≤◌, ◌<◌}
use native.Mathlib.Omega.{arith}
use native.Mathlib.Decide.{ℕ_discrete}
use mathlib.Core.Path.{◌≡◌, sym, ap, ◌∙◌}
use mathlib.Core.List.{List}
use lib.ListN.{length, get_or, set}
use lib.Seq.{get_or-set_same, get_or-set_other}
use Rattle.sets.specs.Below.{sum}
use Rattle.sets.specs.Bits.{cell, without_bit}
use Rattle.sets.specs.Rows.{Counted}
use Rattle.sets.proofs.Counting.{sum_cong}
use Rattle.sets.proofs.Bits.{bit_at_lt, bit_at_clear_same, bit_at_clear_other, sum_drop}
use Rattle.image.specs.Rows.{Room}

-- one row changes, and its size with it
module _ (ws next sizes : List ℕ) (u x : ℕ) (h : u < length sizes) (c : Counted ws sizes)
    (others : (a b : ℕ) → (a ≡ u → ⊥) → b < 512 → cell next a b ≡ cell ws a b) (row : x ≡ sum 512 (λ v. cell next u v)) where
  change : Counted next (set sizes u x)
  change = record { rows = λ a l. go a l (ℕ_discrete a u) }
    where
      go : (a : ℕ) → a < 512 → Dec (a ≡ u) → get_or (set sizes u x) a 0 ≡ sum 512 (λ v. cell next a v)
      go a l (yes e) =
          ap (λ (k : ℕ). get_or (set sizes u x) k 0) e ∙ get_or-set_same sizes u x 0 h ∙ row ∙ ap (λ (k : ℕ). sum 512 (λ v. cell next k v)) (sym e)
      go a l (no d) =
          get_or-set_other sizes u a x 0 d ∙ c.rows a l ∙ sym (sum_cong 512 (λ v. cell next a v) (λ v. cell ws a v) (λ v q. others a v d q))

module _ (ws sizes : List ℕ) (u v : ℕ) (hu : u < 512) (hv : v < 512) (room : Room ws sizes) (c : Counted ws sizes) where
  -- the bit at another place of the row
  apart_in : (w : ℕ) → (w ≡ v → ⊥) → u * 512 + w ≡ u * 512 + v → ⊥
  apart_in w d e = d (omega arith)

  -- the bit in another row
  apart_row : (a b : ℕ) → (a ≡ u → ⊥) → b < 512 → a * 512 + b ≡ u * 512 + v → ⊥
  apart_row a b d l e = d (omega arith)

  row_taken : cell ws u v ≡ 1 → sum 512 (λ w. cell (without_bit ws (u * 512 + v)) u w) + 1 ≡ sum 512 (λ w. cell ws u w)
  row_taken o =
      sum_drop (λ w. cell ws u w) (λ w. cell (without_bit ws (u * 512 + v)) u w) v 512 hv
      o (bit_at_clear_same ws (u * 512 + v) (omega (arith, hu, hv, room.0))) (λ w d. bit_at_clear_other ws (u * 512 + v) (u * 512 + w) (apart_in w d))

  row_left : (w : ℕ) → cell ws u v ≡ 0 → cell (without_bit ws (u * 512 + v)) u w ≡ cell ws u w
  row_left w z = go (ℕ_discrete w v)
    where
      go : Dec (w ≡ v) → cell (without_bit ws (u * 512 + v)) u w ≡ cell ws u w
      go (yes e) =
          ap (λ (k : ℕ). cell (without_bit ws (u * 512 + v)) u k) e ∙ bit_at_clear_same ws (u * 512 + v) (omega (arith, hu, hv, room.0))
          ∙ sym (ap (λ (k : ℕ). cell ws u k) e ∙ z)
      go (no d) = bit_at_clear_other ws (u * 512 + v) (u * 512 + w) (apart_in w d)

  row_out : get_or sizes u 0 ≡ sum 512 (λ w. cell (without_bit ws (u * 512 + v)) u w) + cell ws u v
  row_out = c.rows u hu ∙ go (ℕ_discrete (cell ws u v) 1)
    where
      go : Dec (cell ws u v ≡ 1) → sum 512 (λ w. cell ws u w) ≡ sum 512 (λ w. cell (without_bit ws (u * 512 + v)) u w) + cell ws u v
      go (yes o) = omega (arith, row_taken o)
      go (no d) =
          let z : cell ws u v ≡ 0 = omega (arith, bit_at_lt ws (u * 512 + v)) in
          omega (arith, z, sum_cong 512 (λ w. cell (without_bit ws (u * 512 + v)) u w) (λ w. cell ws u w) (λ w q. row_left w z))

  pub row_bit : cell ws u v ≤ get_or sizes u 0
  row_bit = omega (arith, row_out)

  pub counted_out : Counted (without_bit ws (u * 512 + v)) (set sizes u (get_or sizes u 0 - cell ws u v))
  counted_out =
      change ws (without_bit ws (u * 512 + v)) sizes u (get_or sizes u 0 - cell ws u v) (omega (arith, hu, room.1)) c
      (λ a b d l. bit_at_clear_other ws (u * 512 + v) (a * 512 + b) (apart_row a b d l))
      (omega (arith, row_out))
