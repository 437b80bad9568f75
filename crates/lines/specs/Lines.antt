-- The lines of a report (paper 01, "Scores, lookup, report"; paper 02, orders 1 and 6), and the text that a call writes from the tables it is lent.
--
--     newline                byte 10, which ends each line
--     head_line h             line one: n, m, and the plan's two counts
--     score_text c            a score: two numbers with a slash between, not reduced; a hyphen for no score
--     scores_text k c         how the line of group k begins: its number and its scores
--     reach_text r            a reach: its squared distance; a hyphen for none
--     group_line k c r l      the line of group k: those, its reach, a colon, the group's members
--     list_line word l        a line of a word and the numbers of a list
--     totals_line t           the last line: how many handsets have each role, and how many borders are in two communities or more
--     refused_text r          what the program prints for a refusal: "refused", number, place
--     group_tally ts k size   the tally of group k of so many members, from a table with the edges inside it at k and its leaving edges at 512 + k
--     reach_of x              the reach that a table's number x stands for (tallies/specs/Tallies: reach_entry)
--     group_reach rs k        the reach of group k, from a table of reaches
--     table_lines ..          the lines of the first k groups, from the groups as rows, the tallies and the reaches
--     table_text ..           the whole text from the numbers of the first and last line, the tables and the two sets; no more than 512 groups
use Rattle.std.specs.Prelude.{ℕ, zero, suc, ◌+◌, min, List, [], ◌++◌, length, get_or, None, Option, Some}
use Rattle.image.specs.declared.Refusal.{Refusal}
use Rattle.rows.specs.Rows.{row_in}
use Rattle.scores.specs.declared.Ratio.{Ratio}
use Rattle.scores.specs.declared.Scores.{Scores}
use Rattle.scores.specs.declared.Tally.{Tally}
use Rattle.scores.specs.Scored.{pairs_of, scores_for}
use Rattle.totals.specs.declared.Totals.{Totals}
use Rattle.text.specs.Text.{bytes, decimal, numbers, elements_of}
use Rattle.lines.specs.declared.Head.{Head}
use Rattle.lines.specs.declared.Numbers.{Numbers}

-- ---- the lines

abbrev pub newline : List ℕ
newline = bytes "\n"

abbrev pub head_line : Head → List ℕ
head_line h =
    bytes "handsets " ++ (decimal h.handsets ++ (bytes " ties " ++ (decimal h.ties
    ++ (bytes " groups " ++ (decimal h.counts.groups ++ (bytes " memberships " ++ (decimal h.counts.memberships ++ newline)))))))

unfoldable pub score_text : Option Ratio → List ℕ
score_text (Some q) = decimal q.numerator ++ (bytes "/" ++ decimal q.denominator)
score_text None = bytes "-"

unfoldable pub scores_text : ℕ → Scores → List ℕ
scores_text k c = bytes "group " ++ (decimal k ++ (bytes " density " ++ (score_text c.density ++ (bytes " conductance " ++ score_text c.conductance))))

unfoldable pub reach_text : Option ℕ → List ℕ
reach_text (Some d) = decimal d
reach_text None = bytes "-"

unfoldable pub group_line : ℕ → Scores → Option ℕ → List ℕ → List ℕ
group_line k c r l = scores_text k c ++ (bytes " reach " ++ (reach_text r ++ (bytes ":" ++ (numbers l ++ newline))))

unfoldable pub list_line : List ℕ → List ℕ → List ℕ
list_line word l = word ++ (numbers l ++ newline)

abbrev pub totals_line : Totals → List ℕ
totals_line t =
    bytes "cores " ++ (decimal t.cores ++ (bytes " borders " ++ (decimal t.borders
    ++ (bytes " outliers " ++ (decimal t.outliers ++ (bytes " multiple " ++ (decimal t.multiple ++ newline)))))))

unfoldable pub refused_text : Refusal → List ℕ
refused_text r = bytes "refused " ++ (decimal r.number ++ (bytes " " ++ (decimal r.place ++ newline)))

-- ---- the text from the tables

unfoldable pub group_tally : List ℕ → ℕ → ℕ → Tally
group_tally ts k size = record { pairs = pairs_of size; joined = get_or ts k 0; leaving = get_or ts (512 + k) 0 }

abbrev pub reach_of : ℕ → Option ℕ
reach_of zero = None
reach_of (suc d) = Some d

unfoldable pub group_reach : List ℕ → ℕ → Option ℕ
group_reach rs k = reach_of (get_or rs k 0)

unfoldable pub table_lines : List ℕ → List ℕ → List ℕ → ℕ → List ℕ
table_lines rows ts rs zero = []
table_lines rows ts rs (suc k) =
    table_lines rows ts rs k ++ group_line k (scores_for (group_tally ts k (length (row_in rows k)))) (group_reach rs k) (row_in rows k)

-- of the numbers, the rows, the tallies, the reaches, and the sets of cores and of outliers
unfoldable pub table_text : Numbers → List ℕ → List ℕ → List ℕ → List ℕ → List ℕ → List ℕ
table_text f rows ts rs cores outliers =
    head_line f.head
    ++ (table_lines rows ts rs (min f.head.counts.groups 512) ++ (list_line (bytes "cores:") (elements_of cores) ++ (list_line (bytes "outliers:") (elements_of outliers)
    ++ totals_line f.totals)))
