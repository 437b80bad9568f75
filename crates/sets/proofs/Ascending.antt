-- The set bits of a word, one after the other.
--
--     ones_none, ones_next     of 0 there are none; of another word the lowest comes first, and then those of the word without it
--     Step w k v               v is the word w without bit k, its lowest
--     ones_step                what is known of the first, and of the word whose set bits are the others
--     ones_below               the first is below 64
--     ones_end                 a word that has none
use Prim.Native.Nat.{ℕ, zero, suc, ◌<◌, ◌^◌}
use native.Mathlib.Omega.{arith}
use mathlib.Core.Path.{◌≡◌, refl, sym, ap, ap₂, ◌∙◌, subst}
use mathlib.Core.Logic.{⊎_elim}
use mathlib.Core.Bool.{Bool, not, cond}
use mathlib.Core.List.{Memᴰ, List, [], ◌∷◌, ◌++◌}
use lib.Dec.{T, eqb}
use lib.Count.{count_trailing_zeros}
use Rattle.sets.specs.Below.{select}
use Rattle.sets.specs.Bits.{bit_of}
use Rattle.sets.specs.Bits.{ones_of}
use mathlib.Core.List.Memᴰ
use lib.Dec.{eqb→eq}
use lib.ListN.{length, get_or}
use Rattle.sets.proofs.Tests.{below, eqb_of, eqb_not}
use Rattle.sets.proofs.Selecting.{select_mem, mem_select, mem_at, select_ascends, select_yes, select_no}
use Rattle.sets.proofs.Bits.{bit_of_none, bit_of_lt}
use Rattle.sets.proofs.Lowest.{Lowest, lowest, cleared, cleared_same, cleared_other}

pub select_none : (n : ℕ) (f : ℕ → Bool) → ((v : ℕ) → v < n → T (not (f v))) → select n f ≡ []
unfolding select
select_none zero f h = refl
select_none (suc n) f h = select_no n f (h n (omega arith)) ∙ select_none n f (λ v l. h v (omega arith))

-- the least that passes f, and those that pass f but for it
module _ (t : ℕ) (f g : ℕ → Bool) (here : T (f t)) (lower : (v : ℕ) → v < t → T (not (f v))) (gone : T (not (g t)))
    (same : (v : ℕ) → (v ≡ t → ⊥) → g v ≡ f v) where
  none_upto : (v : ℕ) → v < suc t → T (not (g v))
  none_upto v l = ⊎_elim (λ e. rw e gone) (λ h. rw (same v (λ e. omega arith)) (lower v h)) (below l)

  pub select_lowest : (n : ℕ) → t < n → select n f ≡ t ∷ select n g
  unfolding select
  select_lowest zero h = absurd (omega arith)
  select_lowest (suc n) h =
      ⊎_elim
      (λ e.
      select_yes n f (subst (λ (x : ℕ). T (f x)) e here)
      ∙ ap (λ (l : List ℕ). l ++ (n ∷ [])) (select_none n f (λ v l. lower v (omega arith)))
      ∙ ap (λ (x : ℕ). x ∷ []) (sym e)
      ∙ ap (λ (l : List ℕ). t ∷ l) (sym (select_none (suc n) g (λ v l. none_upto v (omega arith)))))
      (λ l. ap₂ (λ (x : List ℕ) (b : Bool). x ++ cond b (n ∷ []) []) (select_lowest n l) (sym (same n (λ e. omega arith))))
      (below h)

abbrev has_bit : ℕ → ℕ → Bool
has_bit w k = eqb (bit_of w k) 1

pub ones_none : (w : ℕ) → w ≡ 0 → ones_of w ≡ []
unfolding ones_of
ones_none w e = select_none 64 (has_bit w) (λ k l. eqb_not (bit_of w k) 1 (λ q. omega (arith, bit_of_none k, ap (λ (x : ℕ). bit_of x k) e)))

pub ones_first : (w t : ℕ) → t < 64 → Lowest w t → ones_of w ≡ t ∷ ones_of (cleared w)
unfolding ones_of
ones_first w t h l =
    select_lowest t (has_bit w) (has_bit (cleared w))
    (eqb_of (bit_of w t) 1 l.here)
    (λ j q. eqb_not (bit_of w j) 1 (λ e. omega (arith, l.lower j q)))
    (eqb_not (bit_of (cleared w) t) 1 (λ e. omega (arith, cleared_same w t l)))
    (λ j n. ap (λ (b : ℕ). eqb b 1) (cleared_other w t l j n))
    64 h

pub ones_next : (w : ℕ) → 0 < w → w < 2 ^ 64 → ones_of w ≡ count_trailing_zeros 64 w ∷ ones_of (cleared w)
ones_next w p h = let l = lowest 64 w p h in ones_first w (count_trailing_zeros 64 w) l.0 l.1

-- ---- two bits
zero_or : {b : ℕ} → b < 2 → (b ≡ 1 → ⊥) → b ≡ 0
zero_or h n = ⊎_elim (λ e. absurd (n e)) (λ l. omega arith) (below h)

agree : {a b : ℕ} → a < 2 → b < 2 → (a ≡ 1 → b ≡ 1) → (b ≡ 1 → a ≡ 1) → a ≡ b
agree {a} {b} h l f g = ⊎_elim (λ e. e ∙ sym (f e)) (λ x. ⊎_elim (λ e. g e ∙ sym e) (λ y. omega arith) (below l)) (below h)

-- ---- a step of a loop over the set bits of a word
pub record Step (w k v : ℕ) : Type 0 where
  pub below : k < 64
  pub here : bit_of w k ≡ 1
  pub lower : (j : ℕ) → j < k → bit_of w j ≡ 0
  pub gone : bit_of v k ≡ 0
  pub same : (j : ℕ) → j < 64 → (j ≡ k → ⊥) → bit_of v j ≡ bit_of w j

mem_ones : (w j : ℕ) → Memᴰ j (ones_of w) → (j < 64) × (bit_of w j ≡ 1)
unfolding ones_of
mem_ones w j m = let r = select_mem 64 (has_bit w) j m in (r.0, eqb→eq (bit_of w j) 1 r.1)

ones_mem : (w j : ℕ) → j < 64 → bit_of w j ≡ 1 → Memᴰ j (ones_of w)
unfolding ones_of
ones_mem w j h e = mem_select 64 (has_bit w) j h (eqb_of (bit_of w j) 1 e)

module _ (w k v : ℕ) (e : ones_of w ≡ k ∷ ones_of v) where
  later : (j : ℕ) → Memᴰ j (ones_of v) → k < j
  unfolding ones_of
  later j m =
      let r = mem_at (ones_of v) 0 j m in
      let h : suc r.0 < length (ones_of w) = rw e (omega arith) in
      let l : get_or (ones_of w) 0 0 < get_or (ones_of w) (suc r.0) 0 = select_ascends 64 (has_bit w) 0 (suc r.0) (omega arith) h in
      subst (λ (x : ℕ). k < x) r.2 (rw e at l)

  pub ones_step : Step w k v
  ones_step = record {
    below = first.0;
    here = first.1;
    lower = λ j l. zero_or (bit_of_lt w j) (λ b. let m = ones_mem w j (omega (arith, first.0)) b in rest j l (rw e at m));
    gone = zero_or (bit_of_lt v k) (λ b. let l = later k (ones_mem v k first.0 b) in absurd (omega arith));
    same = λ j l n. agree (bit_of_lt v j) (bit_of_lt w j) (λ b. (mem_ones w j (rw e (Memᴰ.tail (ones_mem v j l b)))).1)
        (λ b. let m = ones_mem w j l b in (mem_ones v j (other j n (rw e at m))).1);
  }
    where
      first : (k < 64) × (bit_of w k ≡ 1)
      first = mem_ones w k (rw e (Memᴰ.head refl))

      other : (j : ℕ) → (j ≡ k → ⊥) → Memᴰ j (k ∷ ones_of v) → Memᴰ j (ones_of v)
      other j n m = ⊎_elim (λ q. absurd (n q)) (λ x. x) (Memᴰ.cases_cons m)

      rest : (j : ℕ) → j < k → Memᴰ j (k ∷ ones_of v) → ⊥
      rest j l m = ⊎_elim (λ q. absurd (omega arith)) (λ x. let h = later j x in absurd (omega arith)) (Memᴰ.cases_cons m)

-- for the bounds in a loop: `#[tactic(auto, using(sets::proofs::Ascending::ones_below))]`
pub ones_below : (w k v : ℕ) → ones_of w ≡ k ∷ ones_of v → k < 64
ones_below w k v e = (ones_step w k v e).below

-- a word with no set bit left
pub ones_end : (w : ℕ) → ones_of w ≡ [] → (j : ℕ) → j < 64 → bit_of w j ≡ 0
ones_end w e j l = zero_or (bit_of_lt w j) (λ b. let m = ones_mem w j l b in absurd (Memᴰ.not-nil (rw e at m)))
