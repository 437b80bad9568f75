-- The lines of the report as they are written.
--
--     row_elements     the members of a row's words are the row's; row_few: at most 512
--     lines_more       the lines of the first groups, one more
--     fields_more      a line of fields from one on
use Prim.Native.Nat.{ℕ, ◌+◌, ◌*◌, ◌≤◌, ◌<◌}
use native.Mathlib.Omega.{arith}
use native.Mathlib.Numerals.{add-one}
use mathlib.Core.Path.{◌≡◌, sym, ap, ◌∙◌, subst}
use mathlib.Core.List.{List, ◌++◌, append_assoc}
use lib.Dec.{eqb}
use lib.ListN.{length, get_or, drop}
use lib.Seq.{drop-cons}
use Rattle.sets.specs.Bits.{bit_at, cell}
use Rattle.sets.proofs.Selecting.{select_cong}
use Rattle.rows.specs.Rows.{row_members, row_in, row_words}
use Rattle.rows.proofs.Rows.{row_in_lem, row_words_in}
use Rattle.rows.proofs.Listing.{row_small}
use Rattle.scores.specs.Scored.{scores_for}
use Rattle.std.specs.Borrow.{Bor}
use Rattle.text.specs.Text.{Writes, decimal, elements_of}
use Rattle.text.specs.declared.Text.{Text}
use Rattle.text.proofs.Writing.{then}
use Rattle.lines.specs.Lines.{group_line, group_tally, group_reach, table_lines}
use Rattle.lines.specs.ForProofs.{fields_line}

pub row_elements : (rows : List ℕ) (k : ℕ) → k < 512 → elements_of (row_words rows k) ≡ row_in rows k
unfolding elements_of row_members
row_elements rows k h =
    let ws : List ℕ = row_words rows k in
    select_cong 512 (λ v. eqb (bit_at ws v) 1) (λ v. eqb (cell ws 0 v) 1) (λ v l. ap (λ (i : ℕ). eqb (bit_at ws i) 1) (let e : v ≡ 0 * 512 + v = omega arith in e))
    ∙ row_words_in rows k h

pub row_few : (rows : List ℕ) (k : ℕ) → k < 512 → length (row_in rows k) ≤ 512
row_few rows k h = rw (row_in_lem rows k h) (row_small rows k)

pub lines_more : (rows ts rs : List ℕ) (k : ℕ)
    → table_lines rows ts rs (k + 1) ≡ table_lines rows ts rs k ++ group_line k (scores_for (group_tally ts k (length (row_in rows k)))) (group_reach rs k) (row_in rows k)
unfolding table_lines
lines_more rows ts rs k = ap (table_lines rows ts rs) (add-one k)

-- a line of fields from one on
pub fields_more : {s t u : Text} (l : List (Bor (List ℕ) × ℕ)) (i : ℕ) (d : Bor (List ℕ) × ℕ) → i < length l
    → Writes s ((get_or l i d).0.now ++ decimal (get_or l i d).1) t → Writes t (fields_line (drop (i + 1) l)) u → Writes s (fields_line (drop i l)) u
fields_more {s} {u = u} l i d h p q =
    let field : Bor (List ℕ) × ℕ = get_or l i d in
    subst (λ (x : List ℕ). Writes s x u)
    (append_assoc field.0.now (decimal field.1) (fields_line (drop (i + 1) l))
    ∙ ap (λ (k : ℕ). field.0.now ++ (decimal field.1 ++ fields_line (drop k l))) (add-one i)
    ∙ ap fields_line (sym (drop-cons l i d h)))
    (then p q)
