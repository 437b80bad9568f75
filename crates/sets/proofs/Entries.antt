-- Laws of how often a number stands in a list, and of the entries of a list counted into a table.
--
--     multiplicity_le       a number stands at most as often as there are places
--     multiplicity_none     a number that no place holds
--     multiplicity_append   in two lists, one after the other
--     multiplicity_step     in what is left of a list, one entry more
--     multiplicity_few      among n entries at most n times
--     CountsBy              the counts in a table and what is left of the list make those of the whole: before the first entry (counts_none), after one more
--                           (counts_more, or counts_past where it has no place in the table; counts_room: its count is not yet that of the whole), and once
--                           none is left (counts_all)
use Prim.Native.Nat.{ℕ, zero, suc, ◌+◌, ◌≤◌, ◌<◌}
use native.Mathlib.Omega.{arith}
use native.Mathlib.Decide.{ℕ_discrete}
use native.Mathlib.Nat.{zero-lt-suc}
use native.Mathlib.Numerals.{add-one}
use mathlib.Core.Path.{◌≡◌, refl, ap, ◌∙◌}
use mathlib.Core.Bool.{false, not}
use mathlib.Core.List.{List, [], ◌∷◌, ◌++◌}
use lib.Dec.{T, eqb}
use lib.ListN.{length, get_or, set, take, length-take, get_or-replicate}
use lib.Seq.{get_or-set_same, get_or-set_other}
use Rattle.sets.specs.Below.{bit}
use Rattle.sets.specs.Entries.{multiplicity, EntriesCounted}
use Rattle.sets.proofs.Tests.{eqb_of, eqb_not, T_true, T_false}
use Rattle.sets.proofs.Counting.{count_cong, count_le, count_first, count_false}
use Rattle.sets.proofs.Bits.{zeros}

pub multiplicity_le : (l : List ℕ) (v : ℕ) → multiplicity l v ≤ length l
unfolding multiplicity
multiplicity_le l v = count_le (length l) (λ i. eqb v (get_or l i 0))

pub multiplicity_none : (l : List ℕ) (v : ℕ) → ((i : ℕ) → i < length l → T (not (eqb v (get_or l i 0)))) → multiplicity l v ≡ 0
unfolding multiplicity
multiplicity_none l v none = count_cong (length l) _ (λ i. false) (λ i h. T_false (eqb v (get_or l i 0)) (none i h)) ∙ count_false (length l)

multiplicity_cons : (x : ℕ) (l : List ℕ) (v : ℕ) → multiplicity (x ∷ l) v ≡ bit (eqb v x) + multiplicity l v
unfolding multiplicity
multiplicity_cons x l v = count_first (length l) (λ i. eqb v (get_or (x ∷ l) i 0))

pub multiplicity_append : (a b : List ℕ) (v : ℕ) → multiplicity (a ++ b) v ≡ multiplicity a v + multiplicity b v
multiplicity_append [] b v = omega (arith, multiplicity_none [] v (λ i h. absurd (omega arith)))
multiplicity_append (x ∷ a) b v = omega (arith, multiplicity_cons x (a ++ b) v, multiplicity_append a b v, multiplicity_cons x a v)

-- ---- counting into a table

-- one entry more: what is left of the list after it
pub multiplicity_step : (l l' : List ℕ) (x n n' : ℕ) → l ≡ x ∷ l' → n' + 1 ≡ n → (v : ℕ) → multiplicity (take n l) v ≡ bit (eqb v x) + multiplicity (take n' l') v
multiplicity_step l l' x n n' e d v = rw (e, ← d, add-one) (multiplicity_cons x (take n' l') v)

-- the counts of the entries seen and of those left make those of all
abbrev pub CountsBy : List ℕ → (ℕ → ℕ) → List ℕ → Type 0
CountsBy table all left = (v : ℕ) → v < 512 → get_or table v 0 + multiplicity left v ≡ all v

pub counts_none : (l list : List ℕ) (n : ℕ) → l ≡ list → n ≡ 65535 → CountsBy (zeros 512) (multiplicity (take 65535 list)) (take n l)
counts_none l list n e d v h =
    rw (e, d) (let z : get_or (zeros 512) v 0 ≡ 0 = get_or-replicate 512 v 0 0 h in omega arith)

module _ (table l l' : List ℕ) (all : ℕ → ℕ) (x n n' : ℕ) (held : CountsBy table all (take n l)) (e : l ≡ x ∷ l') (d : n' + 1 ≡ n) where
  pub counts_more : length table ≡ 512 → x < 512 → CountsBy (set table x (get_or table x 0 + 1)) all (take n' l')
  counts_more size at v h = pick (ℕ_discrete v x)
    where
      pick : Dec (v ≡ x) → get_or (set table x (get_or table x 0 + 1)) v 0 + multiplicity (take n' l') v ≡ all v
      pick (yes s) =
          let one : bit (eqb x x) ≡ 1 = ap bit (T_true _ (eqb_of x x refl)) in
          rw (s, get_or-set_same table x (get_or table x 0 + 1) 0 (omega arith)) (omega (arith, held x at, multiplicity_step l l' x n n' e d x, one))
      pick (no s) =
          let none : bit (eqb v x) ≡ 0 = ap bit (T_false _ (eqb_not v x s)) in
          rw (get_or-set_other table x v (get_or table x 0 + 1) 0 s) (omega (arith, held v h, multiplicity_step l l' x n n' e d v, none))

  pub counts_past : 512 ≤ x → CountsBy table all (take n' l')
  counts_past past v h =
      let none : bit (eqb v x) ≡ 0 = ap bit (T_false _ (eqb_not v x (λ s. omega arith))) in
      omega (arith, held v h, multiplicity_step l l' x n n' e d v, none)

  pub counts_room : x < 512 → get_or table x 0 < all x
  counts_room at =
      let one : bit (eqb x x) ≡ 1 = ap bit (T_true _ (eqb_of x x refl)) in
      omega (arith, held x at, multiplicity_step l l' x n n' e d x, one)

none_left : (l : List ℕ) (n : ℕ) → (0 < n → length l ≡ 0) → length (take n l) ≡ 0
none_left l zero ended = refl
none_left l (suc n) ended = omega (arith, length-take (suc n) l, ended (zero-lt-suc n))

pub counts_all : (table l list : List ℕ) (n : ℕ) → CountsBy table (multiplicity (take 65535 list)) (take n l) → length table ≡ 512 → (0 < n → length l ≡ 0)
    → EntriesCounted list table
counts_all table l list n held size ended = record {
  size = size;
  counts = λ v h. omega (arith, held v h, multiplicity_le (take n l) v, none_left l n ended);
}

pub multiplicity_few : (n : ℕ) (l : List ℕ) (v : ℕ) → multiplicity (take n l) v ≤ n
multiplicity_few n l v = omega (arith, multiplicity_le (take n l) v, length-take n l)
