-- The start table and the member table give the communities back.
use Prim.Native.Nat.{ℕ, zero, suc, ◌+◌, ◌≤◌, ◌<◌}
use native.Mathlib.Omega.{arith}
use mathlib.Core.Path.{◌≡◌, refl, sym, ap, ◌∙◌}
use mathlib.Core.List.{List, [], ◌∷◌, ◌++◌, append_assoc}
use native.Mathlib.Numerals.{add-one}
use lib.ListN.{length, get_or, take, drop, length-append, get_or-append}
use lib.Seq.{slice, take_at, drop_at}
use Rattle.community.specs.Tables.{starts_from, start_table, member_table}

pub length_starts : (c : ℕ) (gs : List (List ℕ)) → length (starts_from c gs) ≡ suc (length gs)
unfolding starts_from
length_starts c [] = refl
length_starts c (x ∷ gs) = ap suc (length_starts (c + length x) gs)

pub start_at : (c : ℕ) (gs : List (List ℕ)) (k : ℕ) → k ≤ length gs → get_or (starts_from c gs) k 0 ≡ c + length (member_table (take k gs))
unfolding starts_from member_table
start_at c [] zero h = omega arith
start_at c [] (suc k) h = absurd (omega arith)
start_at c (x ∷ gs) zero h = omega arith
start_at c (x ∷ gs) (suc k) h =
    start_at (c + length x) gs k (omega arith) ∙ omega (arith, length-append x (member_table (take k gs)))

pub member_table_split : (gs : List (List ℕ)) (k : ℕ) → k < length gs → member_table gs ≡ member_table (take k gs) ++ (get_or gs k [] ++ member_table (drop (suc k) gs))
unfolding member_table
member_table_split [] k h = absurd (omega arith)
member_table_split (x ∷ gs) zero h = refl
member_table_split (x ∷ gs) (suc k) h = ap (λ l. x ++ l) (member_table_split gs k (omega arith)) ∙ sym (append_assoc x (member_table (take k gs)) (get_or gs k [] ++ member_table (drop (suc k) gs)))

member_table_suc : (gs : List (List ℕ)) (k : ℕ) → k < length gs → length (member_table (take (suc k) gs)) ≡ length (member_table (take k gs)) + length (get_or gs k [])
unfolding member_table
member_table_suc [] k h = absurd (omega arith)
member_table_suc (x ∷ gs) zero h = length-append x [] ∙ omega arith
member_table_suc (x ∷ gs) (suc k) h =
    length-append x (member_table (take (suc k) gs)) ∙ omega (arith, member_table_suc gs k (omega arith), length-append x (member_table (take k gs)))

pub length_start_table : (gs : List (List ℕ)) → length (start_table gs) ≡ length gs + 1
unfolding start_table
length_start_table gs = length_starts 0 gs ∙ omega arith

-- start k of a table that begins with the start table
start_of : (gs : List (List ℕ)) (x : List ℕ) (k : ℕ) → k ≤ length gs → get_or (start_table gs ++ x) k 0 ≡ length (member_table (take k gs))
unfolding start_table
start_of gs x k h =
    get_or-append (starts_from 0 gs) x 0 k (omega (arith, length_starts 0 gs)) ∙ start_at 0 gs k h ∙ omega arith

next_of : (gs : List (List ℕ)) (x : List ℕ) (k : ℕ) → k < length gs → get_or (start_table gs ++ x) (k + 1) 0 ≡ length (member_table (take k gs)) + length (get_or gs k [])
next_of gs x k h =
    start_of gs x (k + 1) (omega arith) ∙ ap (λ (j : ℕ). length (member_table (take j gs))) (add-one k) ∙ member_table_suc gs k h

-- of two tables that begin with the plan's: the slice of the member table from start k to start k + 1 is the k-th community
module _ (gs : List (List ℕ)) (x y : List ℕ) (k : ℕ) (h : k < length gs) where
  pub table_community : slice (get_or (start_table gs ++ x) k 0) (get_or (start_table gs ++ x) (k + 1) 0) (member_table gs ++ y) ≡ get_or gs k []
  table_community =
      let p : List ℕ = member_table (take k gs) in
      let c : List ℕ = get_or gs k [] in
      let q : List ℕ = member_table (drop (suc k) gs) in
      let e : member_table gs ++ y ≡ (p ++ c) ++ (q ++ y) =
      ap (λ (l : List ℕ). l ++ y) (member_table_split gs k h ∙ sym (append_assoc p c q)) ∙ append_assoc (p ++ c) q y in
      rw (start_of gs x k (omega arith), next_of gs x k h, e, take_at (p ++ c) (q ++ y) (length p + length c) (length-append p c), drop_at p c (length p) refl)

  -- the two starts are in order, and within the member table
  pub starts_ordered : get_or (start_table gs ++ x) k 0 ≤ get_or (start_table gs ++ x) (k + 1) 0
  starts_ordered = omega (arith, start_of gs x k (omega arith), next_of gs x k h)

  pub starts_within : get_or (start_table gs ++ x) (k + 1) 0 ≤ length (member_table gs ++ y)
  starts_within =
      omega (
        arith,
        next_of gs x k h,
        length-append (member_table gs) y,
        ap length (member_table_split gs k h),
        length-append (member_table (take k gs)) (get_or gs k [] ++ member_table (drop (suc k) gs)),
        length-append (get_or gs k []) (member_table (drop (suc k) gs)),
      )
