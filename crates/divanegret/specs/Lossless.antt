-- The numbers that C gets lose nothing: what the macros of include/divanegret.h take out of a call's number is all of the call's answer. No count, place,
-- score or length is cut off, for any image, tables, handset, list, group, time or numbers. A call's number is its answer's code (codes/specs/Codes), by the
-- call's contract; its answer as a number, a place and values is that of the library's own definitions (plan_answer, known_answer, tally_answer, look_answer,
-- scheduled_answer, nearest_answer, report_answer, encoded_answer).
--
--     int32 k                    the (int32_t) of a macro: the low 32 bits of k, as a signed number
--     open_macros, plan_macros     the macros of dvg_open and dvg_plan, in the order of the answer's values
--     role_macros, scores_macros   those of dvg_role and dvg_scores
--     scheduled_macros            those of dvg_members_at
--     nearest_macros              those of dvg_nearest
--     itself                     of dvg_members, dvg_report and dvg_write: the number itself
--     Taken                      what a caller takes out of a call's number: a number, a place and values, each signed
--     taken_by macros z           what a caller takes out of the number z: 0 or more is a success, with its values by their macros; less is a refusal, with
--                                its number and place by DVG_NUMBER and DVG_PLACE
--     site_answer o               the answer of dvg_open: n and m, or the refusal
--     entry_limit                 2 ^ 62: a member table in C has fewer entries
--     number_only a               the answer with place 0, as dvg_report tells it
--     whole a                    all numbers of an answer
--     Lossless                   the theorem: what is taken out of each call's number is the whole answer
--
-- Proved in proofs/Lossless as `lossless`. The part of dvg_members asks for a member table of fewer than 2 ^ 63 entries, that of dvg_members_at for two of
-- fewer than 2 ^ 62, and that of dvg_report for a buffer of fewer than 2 ^ 63 bytes; a caller in C can lend no longer ones, since no object in C has 2 ^ 63
-- bytes, and an entry has two.
use Rattle.std.specs.Prelude.{ℕ, suc, ◌%◌, ◌/◌, ◌<◌, ◌≡◌, List, [], ◌∷◌, map, ℤ, pos, negsuc, length, Err, Ok, Result}
use Rattle.fields.specs.Fields.{coordinate_count}
use Rattle.image.specs.Answers.{Answer, refused, given}
use Rattle.image.specs.Questions.{open_of}
use Rattle.image.specs.Signed.{signed32}
use Rattle.tables.specs.Plan.{plan_answer}
use Rattle.planner.specs.Plan.{plan_of, known_of, known_answer}
use Rattle.scores.specs.Scored.{tallied_of}
use Rattle.scores.specs.Answers.{tally_answer}
use Rattle.lookup.specs.Lookup.{looked_of}
use Rattle.lookup.specs.Answers.{look_answer}
use Rattle.schedule.specs.Schedule.{choice_of, scheduled_of}
use Rattle.schedule.specs.Answers.{scheduled_answer}
use Rattle.schedule.specs.declared.Time.{Time}
use Rattle.schedule.specs.declared.Window.{Window}
use Rattle.nearest.specs.Nearest.{nearest_of, nearest_answer}
use Rattle.reporting.specs.Report.{report_of, report_answer}
use Rattle.layout.specs.declared.Parameters.{Parameters}
use Rattle.writer.specs.Writer.{encoded_of, encoded_answer}
use Rattle.codes.specs.Codes.{open_code, plan_code, role_code, tally_code, nearest_code, report_code}
use Rattle.image.specs.declared.Header.{Header}
use Rattle.image.specs.declared.Refusal.{Refusal}
use Rattle.table_codes.specs.Codes.{count_code, scheduled_code}

-- ---- the macros of a success r

abbrev pub int32 : ℕ → ℤ
int32 k = signed32 (k % 4294967296)

-- DVG_HANDSETS and DVG_TIES
abbrev pub open_macros : List (ℕ → ℤ)
open_macros = (λ r. int32 (r % 65536)) ∷ (λ r. int32 (r / 65536)) ∷ []

-- DVG_GROUPS and DVG_MEMBERSHIPS
abbrev pub plan_macros : List (ℕ → ℤ)
plan_macros = (λ r. int32 (r % 65536)) ∷ (λ r. int32 (r / 65536)) ∷ []

-- DVG_NEAR, DVG_KIND and DVG_VALUE
abbrev pub role_macros : List (ℕ → ℤ)
role_macros = (λ r. int32 (r / 4294967296)) ∷ (λ r. int32 (r % 65536)) ∷ (λ r. int32 (r / 65536 % 65536)) ∷ []

-- DVG_PAIRS, DVG_TIED_PAIRS and DVG_LEAVING, which stay int64_t
abbrev pub scores_macros : List (ℕ → ℤ)
scores_macros = (λ r. pos (r / 68719476736)) ∷ (λ r. pos (r / 65536 % 1048576)) ∷ (λ r. pos (r % 65536)) ∷ []

-- DVG_TABLE, and DVG_COUNT, which stays int64_t
abbrev pub scheduled_macros : List (ℕ → ℤ)
scheduled_macros = (λ r. int32 (r % 2)) ∷ (λ r. pos (r / 2)) ∷ []

-- DVG_FOUND, DVG_NEAREST_GROUP and DVG_SQUARED_DISTANCE, which stays int64_t
abbrev pub nearest_macros : List (ℕ → ℤ)
nearest_macros = (λ r. int32 (r % 2)) ∷ (λ r. int32 (r / 2 % 32768)) ∷ (λ r. pos (r / 65536)) ∷ []

abbrev pub itself : List (ℕ → ℤ)
itself = pos ∷ []

pub record Taken : Type 0 where
  pub number : ℤ
  pub place : ℤ
  pub values : List ℤ

-- a refusal, for which DVG_NUMBER and DVG_PLACE use -(r), is less than 0: negsuc k is -(suc k)
unfoldable pub taken_by : List (ℕ → ℤ) → ℤ → Taken
taken_by macros (pos r) = record { number = pos 0; place = pos 0; values = map (λ f. f r) macros }
taken_by macros (negsuc k) = record { number = int32 (suc k % 256); place = int32 (suc k / 256); values = [] }

-- ---- the answers

abbrev pub site_answer : Result Header Refusal → Answer
site_answer (Ok h) = given (h.n ∷ h.m ∷ [])
site_answer (Err r) = refused r

abbrev pub number_only : Answer → Answer
number_only a = record { number = a.number; place = 0; values = a.values }

abbrev pub whole : Answer → Taken
whole a = record { number = pos a.number; place = pos a.place; values = map pos a.values }

-- ---- the theorem

abbrev pub entry_limit : ℕ
entry_limit = 4611686018427387904

-- s is an image; a and b are the lengths of a start table and a member table; v is a handset, l a list of handsets, t a time, w a window and p a point
-- of as many coordinates as a handset has; x are a site's parameters, coords and ends its tables, and room is the length of a buffer
pub record Lossless : Type 0 where
  pub opened : (s : List ℕ) → taken_by open_macros (open_code (open_of s)) ≡ whole (site_answer (open_of s))
  pub planned : (s : List ℕ) (a b : ℕ) → taken_by plan_macros (plan_code (plan_of s a b)) ≡ whole (plan_answer (plan_of s a b))
  pub role : (s : List ℕ) (v : ℕ) → taken_by role_macros (role_code (known_of s v)) ≡ whole (known_answer (known_of s v))
  pub scores : (s l : List ℕ) → taken_by scores_macros (tally_code (tallied_of s l)) ≡ whole (tally_answer (tallied_of s l))
  pub members : (starts table : List ℕ) (k : ℕ) → length table < 9223372036854775808
      → taken_by itself (count_code (looked_of starts table k)) ≡ whole (look_answer (looked_of starts table k))
  pub scheduled : (t : Time) (w : Window) (k : ℕ) (starts table starts' table' : List ℕ) → length table < entry_limit → length table' < entry_limit
      → (let answer = scheduled_of (choice_of t w) (looked_of starts table k) (looked_of starts' table' k) in
      taken_by scheduled_macros (scheduled_code answer) ≡ whole (scheduled_answer answer))
  pub nearest : (s : List ℕ) (p : List ℤ) → length p ≡ coordinate_count
      → taken_by nearest_macros (nearest_code (nearest_of s p)) ≡ whole (nearest_answer (nearest_of s p))
  pub report : (s : List ℕ) (room : ℕ) → room < 9223372036854775808
      → taken_by itself (report_code (report_of s room)) ≡ whole (number_only (report_answer (report_of s room)))
  pub written : (x : Parameters) (coords : List ℤ) (ends : List ℕ) (room : ℕ)
      → taken_by itself (count_code (encoded_of x coords ends room)) ≡ whole (encoded_answer (encoded_of x coords ends room))
