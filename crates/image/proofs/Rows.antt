-- Tables of rows of bits, and the sizes of the rows. A bit more in a row is one more in its size, and changes no other row.
--
--     cleared_bit, cleared_counted  a cleared table has no bit, and its sizes are those of its rows
--     counted_add                   the sizes with a bit more
--     row_most                      no size is above 512
--     zero_is                       a bit that the test for it tells to be 0
--     table_cong, table_has         equal relations have equal tables; the test of a cell is the relation
use Prim.Native.Nat.{ℕ, ◌+◌, ◌*◌, ◌≤◌, ◌<◌}
use native.Mathlib.Omega.{arith}
use native.Mathlib.Decide.{ℕ_discrete}
use mathlib.Core.Path.{◌≡◌, refl, sym, ap, ◌∙◌, subst}
use mathlib.Core.Bool.{Bool, true, false, not}
use mathlib.Core.List.{List}
use lib.Dec.{T, eqb, T_not}
use lib.ListN.{get_or, set, get_or-replicate}
use lib.Seq.{get_or-set_same, get_or-set_other}
use Rattle.sets.specs.Below.{bit, sum}
use Rattle.sets.specs.Bits.{bit_at, cell, with_bit}
use Rattle.sets.proofs.Tests.{eqb_of}
use Rattle.sets.proofs.Counting.{sum_cong, sum_le, sum_zero, sum_const}
use Rattle.sets.proofs.Bits.{bit_at_lt, bit_at_zeros, bit_at_set_same, bit_at_set_other, sum_drop}
use Rattle.sets.specs.Rows.{Table, Counted}
use Rattle.image.specs.Rows.{Room, Cleared}

pub cleared_bit : {rows sizes : List ℕ} → Cleared rows sizes → (i : ℕ) → bit_at rows i ≡ 0
cleared_bit e i = ap (λ (ws : List ℕ). bit_at ws i) e.0 ∙ bit_at_zeros 4096 i

pub cleared_counted : {rows sizes : List ℕ} → Cleared rows sizes → Counted rows sizes
cleared_counted {rows} {sizes} e = record {
  rows = λ u h.
      ap (λ (l : List ℕ). get_or l u 0) e.1 ∙ get_or-replicate 512 u 0 0 h
      ∙ sym (sum_cong 512 (λ v. cell rows u v) (λ v. 0) (λ v l. cleared_bit e (u * 512 + v)) ∙ sum_zero 512);
}

module _ (rows sizes : List ℕ) (u v : ℕ) (hu : u < 512) (hv : v < 512) (room : Room rows sizes) (c : Counted rows sizes) (new : cell rows u v ≡ 0) where
  abbrev next : List ℕ
  next = with_bit rows (u * 512 + v)

  row_added : sum 512 (λ w. cell rows u w) + 1 ≡ sum 512 (λ w. cell next u w)
  row_added =
      sum_drop (λ w. cell next u w) (λ w. cell rows u w) v 512 hv
      (bit_at_set_same rows (u * 512 + v) (omega (arith, room.0, hu, hv))) new
      (λ w d. sym (bit_at_set_other rows (u * 512 + v) (u * 512 + w) (λ e. d (omega arith))))

  pub counted_add : Counted next (set sizes u (get_or sizes u 0 + 1))
  counted_add = record { rows = λ a l. go a l (ℕ_discrete a u) }
    where
      go : (a : ℕ) → a < 512 → Dec (a ≡ u) → get_or (set sizes u (get_or sizes u 0 + 1)) a 0 ≡ sum 512 (λ w. cell next a w)
      go a l (yes e) =
          ap (λ (k : ℕ). get_or (set sizes u (get_or sizes u 0 + 1)) k 0) e
          ∙ get_or-set_same sizes u (get_or sizes u 0 + 1) 0 (omega (arith, hu, room.1))
          ∙ ap (λ (k : ℕ). k + 1) (c.rows u hu)
          ∙ row_added
          ∙ ap (λ (k : ℕ). sum 512 (λ w. cell next k w)) (sym e)
      go a l (no d) =
          get_or-set_other sizes u a (get_or sizes u 0 + 1) 0 d
          ∙ c.rows a l
          ∙ sym (sum_cong 512 (λ w. cell next a w) (λ w. cell rows a w)
          (λ w q. bit_at_set_other rows (u * 512 + v) (a * 512 + w) (λ e. d (omega (arith, e, q, hv)))))

pub row_most : {rows sizes : List ℕ} → Counted rows sizes → (u : ℕ) → u < 512 → get_or sizes u 0 ≤ 512
row_most {rows} {sizes} c u h =
    omega (arith, c.rows u h, sum_le 512 (λ v. cell rows u v) (λ v. 1) (λ v l. omega (arith, bit_at_lt rows (u * 512 + v))), sum_const 512 1)

pub zero_is : (x : ℕ) → x < 2 → eqb x 1 ≡ false → x ≡ 0
zero_is x h e = let d : x ≡ 1 → ⊥ = λ p. T_not (eqb x 1) (subst (λ (b : Bool). T (not b)) (sym e) tt) (eqb_of x 1 p) in omega (arith, d)

pub table_cong : {rows : List ℕ} (f g : ℕ → ℕ → Bool) → ((u v : ℕ) → u < 512 → v < 512 → f u v ≡ g u v) → Table rows f → Table rows g
table_cong f g e t = record { bits = λ u v h l. t.bits u v h l ∙ ap bit (e u v h l) }

one_bit : (a : Bool) → eqb (bit a) 1 ≡ a
one_bit true = refl
one_bit false = refl

pub table_has : {rows : List ℕ} (f : ℕ → ℕ → Bool) → Table rows f → (u v : ℕ) → u < 512 → v < 512 → eqb (cell rows u v) 1 ≡ f u v
table_has f t u v hu hv = ap (λ (x : ℕ). eqb x 1) (t.bits u v hu hv) ∙ one_bit (f u v)
