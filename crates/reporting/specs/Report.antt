-- The text of a report, and the answers of the calls that write it (paper 01, "Scores, lookup, report"; paper 02, orders 1 and 6). What each line looks like is
-- in lines/specs/Lines.
--
--     group_lines s gs k      the lines of the first k groups
--     outliers g             the handsets in no community, ascending
--     head_of s gs            the numbers of line one, for an image with the communities gs
--     report_with s gs        the whole text for an image with the communities gs
--     report_text s           the whole text for an accepted image: its exact bytes
--     written_of t room       the answer for the text t and a buffer of room bytes: 16, or the text's length
--     written_in t buffer     the buffer after: it begins with the text and past it holds what it held; as before where the text does not fit
--     report_of s room        the answer for an image and a buffer of room bytes: its refusal, 16, or the text's length
--     text_after s buffer     every byte of the buffer after the call
--     report_answer r         the answer's number, place and values: the text's length
--     ReportCall s ..        the outcome of a call: its answer and the buffer
--     printed s r            what the program prints for an answer
--     program_text s room     what the report program prints for an input, with a buffer of room bytes; 15 for an input that does not end within
--                            65,536 bytes
--     OneAnswer              the theorem: the number, place and values leave nothing of the answer free (proved in proofs/Answers)
use Rattle.std.specs.Prelude.{ℕ, zero, suc, ◌≡◌, cond, List, [], ◌∷◌, ◌++◌, leb, ltb, length, get_or, Err, Ok, Result}
use Rattle.sets.specs.Below.{select}
use Rattle.image.specs.Image.{handset_count, edge_count}
use Rattle.image.specs.Questions.{when_opened}
use Rattle.image.specs.Answers.{Answer, refused, refusal, given, Injective}
use Rattle.community.specs.Network.{Network, communities, cores, role}
use Rattle.community.specs.Reach.{reach}
use Rattle.community.specs.Site.{network}
use Rattle.rows.specs.Rows.{counts_of}
use Rattle.tables.specs.Plan.{over}
use Rattle.scores.specs.Scored.{tally_of, scores_for}
use Rattle.totals.specs.Totals.{is_outlier, totals}
use Rattle.text.specs.Text.{bytes}
use Rattle.lines.specs.Lines.{head_line, group_line, list_line, totals_line, refused_text}
use Rattle.image.specs.declared.Refusal.{Refusal}
use Rattle.lines.specs.declared.Head.{Head}

-- ---- the report of an accepted image

unfoldable pub group_lines : List ℕ → List (List ℕ) → ℕ → List ℕ
group_lines s gs zero = []
group_lines s gs (suc k) = group_lines s gs k ++ group_line k (scores_for (tally_of s (get_or gs k []))) (reach s (get_or gs k [])) (get_or gs k [])

unfoldable pub outliers : Network → List ℕ
outliers g = select g.n (λ v. is_outlier (role g v))

abbrev pub head_of : List ℕ → List (List ℕ) → Head
head_of s gs = record { handsets = handset_count s; ties = edge_count s; counts = counts_of gs }

unfoldable pub report_with : List ℕ → List (List ℕ) → List ℕ
report_with s gs =
    head_line (head_of s gs)
    ++ (group_lines s gs (length gs) ++ (list_line (bytes "cores:") (cores (network s)) ++ (list_line (bytes "outliers:") (outliers (network s))
    ++ totals_line (totals (network s)))))

unfoldable pub report_text : List ℕ → List ℕ
report_text s = report_with s (communities (network s))

-- ---- the call's answer

unfoldable pub written_of : List ℕ → ℕ → Result ℕ Refusal
written_of t room = cond (leb (length t) room) (Ok (length t)) (Err (refusal 16))

unfoldable pub written_in : List ℕ → List ℕ → List ℕ
written_in t buffer = cond (leb (length t) (length buffer)) (over t buffer) buffer

unfoldable pub report_of : List ℕ → ℕ → Result ℕ Refusal
report_of s room = when_opened s (λ h. written_of (report_text s) room) Err

unfoldable pub text_after : List ℕ → List ℕ → List ℕ
text_after s buffer = when_opened s (λ h. written_in (report_text s) buffer) (λ r. buffer)

abbrev pub report_answer : Result ℕ Refusal → Answer
report_answer (Ok k) = given (k ∷ [])
report_answer (Err r) = refused r

-- of the image s, the buffer l as lent, the answer r, and the buffer l' after the call
pub record ReportCall (s l : List ℕ) (r : Result ℕ Refusal) (l' : List ℕ) : Type 0 where
  pub answer : report_answer r ≡ report_answer (report_of s (length l))
  pub text : l' ≡ text_after s l

-- ---- the report program

abbrev pub printed : List ℕ → Result ℕ Refusal → List ℕ
printed s (Ok k) = report_text s
printed s (Err r) = refused_text r

unfoldable pub program_text : List ℕ → ℕ → List ℕ
program_text s room = cond (ltb 65536 (length s)) (refused_text (refusal 15)) (printed s (report_of s room))

pub record OneAnswer : Type 0 where
  pub reported : Injective report_answer
