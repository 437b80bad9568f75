-- How long a report can be: 20 digits for a number, and four bytes for a member, line by line.
--
--     text_most     a report is no longer than `most_bytes` of its counts
use Rattle.std.specs.Prelude.{None, Option, Some}
use Prim.Native.Nat.{ℕ, zero, suc, ◌+◌, ◌*◌, ◌≤◌, min}
use native.Mathlib.Omega.{arith}
use native.Mathlib.Numerals.{add-one}
use mathlib.Core.Path.{◌≡◌, ap}
use mathlib.Core.Bool.{Bool}
use mathlib.Core.List.{List, ◌++◌}
use lib.Dec.{eqb}
use lib.ListN.{length, length-append}
use Rattle.sets.specs.Below.{select}
use Rattle.sets.specs.Bits.{bit_at, cell}
use Rattle.sets.proofs.Counting.{count_le}
use Rattle.sets.proofs.Selecting.{length_select}
use Rattle.community.specs.Tables.{member_table}
use Rattle.rows.specs.Rows.{row_members, rows_of, row_in}
use Rattle.rows.proofs.Rows.{row_in_lem}
use Rattle.rows.proofs.Listing.{members_length}
use Rattle.scores.specs.declared.Ratio.{Ratio}
use Rattle.scores.specs.declared.Scores.{Scores}
use Rattle.scores.specs.Scored.{scores_for}
use Rattle.text.specs.Text.{bytes, decimal, numbers, elements_of}
use Rattle.text.proofs.Lengths.{decimal_most, members_most}
use Rattle.totals.specs.declared.Totals.{Totals}
use Rattle.lines.specs.Lines.{newline, head_line, score_text, scores_text, reach_text, group_line, list_line, totals_line, group_tally, group_reach, table_lines, table_text}
use Rattle.lines.specs.ForProofs.{most_bytes}
use Rattle.lines.specs.declared.Head.{Head}
use Rattle.lines.specs.declared.Numbers.{Numbers}

-- a word with its number
labelled_most : (w : List ℕ) (n : ℕ) (rest : List ℕ) → length (w ++ (decimal n ++ rest)) ≤ length w + 20 + length rest
labelled_most w n rest = omega (arith, length-append w (decimal n ++ rest), length-append (decimal n) rest, decimal_most n)

head_most : (h : Head) → length (head_line h) ≤ 117
head_most h =
    let c = h.counts in
    let fourth : List ℕ = bytes " memberships " ++ (decimal c.memberships ++ newline) in
    let third : List ℕ = bytes " groups " ++ (decimal c.groups ++ fourth) in
    let second : List ℕ = bytes " ties " ++ (decimal h.ties ++ third) in
    omega (
      arith,
      labelled_most (bytes "handsets ") h.handsets second,
      labelled_most (bytes " ties ") h.ties third,
      labelled_most (bytes " groups ") c.groups fourth,
      labelled_most (bytes " memberships ") c.memberships newline,
    )

totals_most : (t : Totals) → length (totals_line t) ≤ 116
totals_most t =
    let fourth : List ℕ = bytes " multiple " ++ (decimal t.multiple ++ newline) in
    let third : List ℕ = bytes " outliers " ++ (decimal t.outliers ++ fourth) in
    let second : List ℕ = bytes " borders " ++ (decimal t.borders ++ third) in
    omega (
      arith,
      labelled_most (bytes "cores ") t.cores second,
      labelled_most (bytes " borders ") t.borders third,
      labelled_most (bytes " outliers ") t.outliers fourth,
      labelled_most (bytes " multiple ") t.multiple newline,
    )

score_most : (c : Option Ratio) → length (score_text c) ≤ 41
unfolding score_text
score_most (Some q) = omega (
  arith,
  length-append (decimal q.numerator) (bytes "/" ++ decimal q.denominator),
  length-append (bytes "/") (decimal q.denominator),
  decimal_most q.numerator,
  decimal_most q.denominator,
)
score_most None = omega arith

reach_most : (r : Option ℕ) → length (reach_text r) ≤ 20
unfolding reach_text
reach_most (Some d) = decimal_most d
reach_most None = omega arith

-- what stands before a group's members
scores_most : (k : ℕ) (c : Scores) → length (scores_text k c) ≤ 130
unfolding scores_text
scores_most k c =
    let second : List ℕ = bytes " conductance " ++ score_text c.conductance in
    let first : List ℕ = bytes " density " ++ (score_text c.density ++ second) in
    omega (
      arith,
      labelled_most (bytes "group ") k first,
      length-append (bytes " density ") (score_text c.density ++ second),
      length-append (score_text c.density) second,
      length-append (bytes " conductance ") (score_text c.conductance),
      score_most c.density,
      score_most c.conductance,
    )

group_most : (k : ℕ) (c : Scores) (r : Option ℕ) (l : List ℕ) → length (group_line k c r l) ≤ 160 + length (numbers l)
unfolding group_line
group_most k c r l =
    let members : List ℕ = numbers l ++ newline in
    let listed : List ℕ = bytes ":" ++ members in
    let far : List ℕ = reach_text r ++ listed in
    omega (
      arith,
      length-append (scores_text k c) (bytes " reach " ++ far),
      length-append (bytes " reach ") far,
      length-append (reach_text r) listed,
      length-append (bytes ":") members,
      length-append (numbers l) newline,
      scores_most k c,
      reach_most r,
    )

-- the members of a set of bits
list_most : (word set : List ℕ) → length (list_line word (elements_of set)) ≤ length word + 2049
unfolding list_line elements_of
list_most word set =
    let f : ℕ → Bool = λ v. eqb (bit_at set v) 1 in
    omega (
      arith,
      length-append word (numbers (select 512 f) ++ newline),
      length-append (numbers (select 512 f)) newline,
      members_most 512 f (omega arith),
      length_select 512 f,
      count_le 512 f,
    )

row_most : (rows : List ℕ) (k : ℕ) → length (numbers (row_members rows k)) ≤ 4 * length (row_members rows k)
unfolding row_members
row_most rows k = members_most 512 (λ v. eqb (cell rows k v) 1) (omega arith)

lines_most : (rows ts rs : List ℕ) (k : ℕ) → k ≤ 512 → length (table_lines rows ts rs k) ≤ 160 * k + 4 * length (member_table (rows_of rows k))
unfolding table_lines
lines_most rows ts rs zero h = omega arith
lines_most rows ts rs (suc k) h =
    let l : List ℕ = row_in rows k in
    let line : List ℕ = group_line k (scores_for (group_tally ts k (length l))) (group_reach rs k) l in
    let same : l ≡ row_members rows k = row_in_lem rows k (omega arith) in
    omega (
      arith,
      lines_most rows ts rs k (omega arith),
      length-append (table_lines rows ts rs k) line,
      group_most k (scores_for (group_tally ts k (length l))) (group_reach rs k) l,
      ap (λ (x : List ℕ). length (numbers x)) same,
      row_most rows k,
      members_length rows k,
      ap (λ (n : ℕ). length (member_table (rows_of rows n))) (add-one k),
    )

pub text_most : (f : Numbers) (rows ts rs cores outliers : List ℕ) → f.head.counts.groups ≤ 512
    → f.head.counts.memberships ≡ length (member_table (rows_of rows f.head.counts.groups))
    → length (table_text f rows ts rs cores outliers) ≤ most_bytes f.head.counts
unfolding table_text
text_most f rows ts rs cores outliers few listed =
    let k : ℕ = f.head.counts.groups in
    let all : min k 512 ≡ k = omega arith in
    let last : List ℕ = totals_line f.totals in
    let fourth : List ℕ = list_line (bytes "outliers:") (elements_of outliers) ++ last in
    let third : List ℕ = list_line (bytes "cores:") (elements_of cores) ++ fourth in
    let second : List ℕ = table_lines rows ts rs (min k 512) ++ third in
    omega (
      arith,
      length-append (head_line f.head) second,
      length-append (table_lines rows ts rs (min k 512)) third,
      length-append (list_line (bytes "cores:") (elements_of cores)) fourth,
      length-append (list_line (bytes "outliers:") (elements_of outliers)) last,
      head_most f.head,
      ap (λ (n : ℕ). length (table_lines rows ts rs n)) all,
      lines_most rows ts rs k few,
      list_most (bytes "cores:") cores,
      list_most (bytes "outliers:") outliers,
      totals_most f.totals,
    )
