-- The rows of a table, listed: the members of a row, and of the first rows. Each list grows at its end, a row at a time, as the code goes.
--
--     in_row rows k v                              row k has v
--     row_room, row_length, row_small             how many members a row has, and those below a bound
--     rows_next, rows_length, rows_at             the rows, one more at a time
--     members_none, members_more, members_length  the member table, one row more
--     members_room, members_small                 how long the member table of the first rows can be
use Prim.Native.Nat.{ℕ, zero, suc, ◌+◌, ◌*◌, ◌≤◌, ◌<◌}
use native.Mathlib.Omega.{arith}
use native.Mathlib.Numerals.{add-one}
use native.Mathlib.Decide.{le_ind}
use mathlib.Core.Path.{◌≡◌, refl, sym, ap, ◌∙◌}
use mathlib.Core.Logic.{⊎_elim}
use mathlib.Core.Bool.{Bool}
use mathlib.Core.List.{List, [], ◌∷◌, ◌++◌, append-nil, append_assoc}
use lib.Dec.{eqb}
use lib.ListN.{length, get_or, length-append, get_or-append}
use lib.Seq.{get_or_at}
use Rattle.sets.specs.Below.{bit, select, sum}
use Rattle.sets.specs.Bits.{cell}
use Rattle.sets.proofs.Tests.{decide, below}
use Rattle.sets.proofs.Counting.{test_bit, count_le, count_sum, sum_cong}
use Rattle.sets.proofs.Selecting.{select_yes, select_no, length_select}
use Rattle.sets.proofs.Bits.{bit_at_lt}
use Rattle.community.specs.Tables.{member_table}
use Rattle.rows.specs.Rows.{row_members, rows_of}

-- ---- the members of a row
abbrev pub in_row : List ℕ → ℕ → ℕ → Bool
in_row rows k v = eqb (cell rows k v) 1

-- what is below a bound is no more than the row
pub row_room : (rows : List ℕ) (k n : ℕ) → n ≤ 512 → length (select n (in_row rows k)) ≤ length (row_members rows k)
unfolding row_members
row_room rows k n h =
    le_ind (λ (m : ℕ). length (select n (in_row rows k)) ≤ length (select m (in_row rows k))) (omega arith)
    (λ m l e. omega (arith, e, select_grows m (in_row rows k))) 512 h
  where
    select_grows : (m : ℕ) (f : ℕ → Bool) → length (select m f) ≤ length (select (suc m) f)
    select_grows m f =
        ⊎_elim
        (λ t. omega (arith, ap length (select_yes m f t), length-append (select m f) (m ∷ [])))
        (λ t. omega (arith, ap length (select_no m f t)))
        (decide (f m))

pub row_length : (rows : List ℕ) (k : ℕ) → length (row_members rows k) ≡ sum 512 (cell rows k)
unfolding row_members
row_length rows k =
    length_select 512 (in_row rows k) ∙ count_sum 512 (in_row rows k)
    ∙ sum_cong 512 (λ v. bit (in_row rows k v)) (cell rows k) (λ v h. test_bit (cell rows k v) (bit_at_lt rows (k * 512 + v)))

pub row_small : (rows : List ℕ) (k : ℕ) → length (row_members rows k) ≤ 512
unfolding row_members
row_small rows k = omega (arith, length_select 512 (in_row rows k), count_le 512 (in_row rows k))

-- ---- the rows, one more at a time
pub rows_next : (rows : List ℕ) (k : ℕ) → rows_of rows (k + 1) ≡ rows_of rows k ++ (row_members rows k ∷ [])
unfolding rows_of
rows_next rows k = ap (rows_of rows) (add-one k)

pub rows_length : (rows : List ℕ) (k : ℕ) → length (rows_of rows k) ≡ k
unfolding rows_of
rows_length rows zero = refl
rows_length rows (suc k) = omega (arith, length-append (rows_of rows k) (row_members rows k ∷ []), rows_length rows k)

pub rows_at : (rows : List ℕ) (k j : ℕ) → j < k → get_or (rows_of rows k) j [] ≡ row_members rows j
unfolding rows_of
rows_at rows zero j h = absurd (omega arith)
rows_at rows (suc k) j h =
    ⊎_elim
    (λ e. get_or_at (rows_of rows k) (row_members rows k) [] [] j (rows_length rows k ∙ sym e) ∙ ap (row_members rows) (sym e))
    (λ l. get_or-append (rows_of rows k) (row_members rows k ∷ []) [] j (omega (arith, rows_length rows k)) ∙ rows_at rows k j l)
    (below h)

-- ---- the member table, one row more
member_table_snoc : (gs : List (List ℕ)) (x : List ℕ) → member_table (gs ++ (x ∷ [])) ≡ member_table gs ++ x
unfolding member_table
member_table_snoc [] x = append-nil x
member_table_snoc (y ∷ gs) x = ap (λ (r : List ℕ). y ++ r) (member_table_snoc gs x) ∙ sym (append_assoc y (member_table gs) x)

pub members_none : (rows : List ℕ) → member_table (rows_of rows 0) ≡ []
unfolding member_table rows_of
members_none rows = refl

pub members_more : (rows : List ℕ) (k : ℕ) → member_table (rows_of rows (k + 1)) ≡ member_table (rows_of rows k) ++ row_members rows k
members_more rows k = ap member_table (rows_next rows k) ∙ member_table_snoc (rows_of rows k) (row_members rows k)

pub members_length : (rows : List ℕ) (k : ℕ)
    → length (member_table (rows_of rows (k + 1))) ≡ length (member_table (rows_of rows k)) + length (row_members rows k)
members_length rows k = ap length (members_more rows k) ∙ length-append (member_table (rows_of rows k)) (row_members rows k)

-- the members of the first rows are no more than those of more rows
pub members_room : (rows : List ℕ) (j k : ℕ) → j ≤ k → length (member_table (rows_of rows j)) ≤ length (member_table (rows_of rows k))
members_room rows j k h =
    le_ind (λ (m : ℕ). length (member_table (rows_of rows j)) ≤ length (member_table (rows_of rows m))) (omega arith)
    (λ m l e. omega (arith, e, members_length rows m, ap (λ (n : ℕ). length (member_table (rows_of rows n))) (add-one m))) k h

pub members_small : (rows : List ℕ) (k : ℕ) → length (member_table (rows_of rows k)) ≤ k * 512
members_small rows zero = omega (arith, ap length (members_none rows))
members_small rows (suc k) =
    omega (arith, members_small rows k, members_length rows k, row_small rows k, ap (λ (n : ℕ). length (member_table (rows_of rows n))) (add-one k))
