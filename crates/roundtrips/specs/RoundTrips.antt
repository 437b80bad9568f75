-- What is written is read back, and what was read can be written again (paper 02, order 5). These are theorems of the calls, through their contracts:
-- `WriteCall`, `PlanCall` and `ReportCall` are what `write`, `plan` and `report` ensure, and the other calls ensure that their answer has the number, place and
-- values of the definition named. Proved in proofs/RoundTrips as `round_trips`.
--
--     ReadsBack x coords ends ..  what the reader finds in the k bytes that were written: the header, the same numbers; and the rest of the buffer is kept
--     SameOutcome s t             two images have the same parameters, and whatever a call makes of them is the same: the plan in both tables, roles, tallies,
--                                 scores, the nearest group and the report's text
--     RoundTrips                  the theorem:
--       reads_back                the reader, lent just the bytes written, accepts them and finds the same numbers in the same order
--       written_again             an accepted image's numbers are not refused where the buffer is long enough, and what is then written has the same outcome,
--                                 whatever the gaps and the order of the tables were
--       too_short                 they are refused with 20 where it is not
--       kept                      a refusal, whichever it is, keeps every byte of the buffer
--       same_refusals             tables are refused with 7 to 10 exactly when an image of these numbers is, with the same number and place
--       no_longer                 an image written again is no longer than the first, so that a buffer of the first one's length is long enough
--       an_image, its_tables      tables that pass 3, 5 and 6 are those of an image, and every image has its tables
use Rattle.std.specs.Prelude.{ℕ, ◌≤◌, ◌<◌, ◌≡◌, ◌↔◌, List, T, ℤ, length, take, drop, Err, Ok, Result}
use Rattle.little_endian.specs.Bytes.{Below}
use Rattle.limits.specs.Limits.{counts_fit, thresholds_fit}
use Rattle.image.specs.Image.{header_of}
use Rattle.image.specs.Questions.{open_of, HeaderAccepted, Accepted}
use Rattle.image.specs.Answers.{open_answer, refusal}
use Rattle.image.specs.declared.Refusal.{Refusal}
use Rattle.planner.specs.Plan.{PlanCall, known_of, known_answer}
use Rattle.scores.specs.Scored.{tallied_of, scored_of}
use Rattle.scores.specs.Answers.{tally_answer, score_answer}
use Rattle.nearest.specs.Nearest.{Nearest, nearest_of, nearest_answer}
use Rattle.reporting.specs.Report.{ReportCall}
use Rattle.layout.specs.Layout.{header_for, image_of, lengths_fit, Signed32}
use Rattle.layout.specs.declared.Parameters.{Parameters}
use Rattle.writer.specs.Holds.{parameters_of, Holds}
use Rattle.rows.specs.declared.Counts.{Counts}
use Rattle.image.specs.declared.Header.{Header}
use Rattle.scores.specs.declared.Scores.{Scores}
use Rattle.community.specs.declared.Standing.{Standing}
use Rattle.scores.specs.declared.Tally.{Tally}
use Rattle.writer.specs.Writer.{WriteCall}

pub record ReadsBack (x : Parameters) (coords : List ℤ) (ends l : List ℕ) (k : ℕ) (l' : List ℕ) : Type 0 where
  pub size : k ≡ (header_for x).len
  pub opens : (o : Result Header Refusal) → open_answer o ≡ open_answer (open_of (take k l')) → o ≡ Ok (header_for x)
  pub holds : Holds (take k l') x coords ends
  pub rest : drop k l' ≡ drop k l

pub record SameOutcome (s t : List ℕ) : Type 0 where
  pub parameters : parameters_of (header_of s) ≡ parameters_of (header_of t)
  pub plan : (ss ms : List ℕ) (a b : Result Counts Refusal) (ss' ms' ss'' ms'' : List ℕ) → PlanCall s ss ms a ss' ms' → PlanCall t ss ms b ss'' ms''
      → (a ≡ b) × (ss' ≡ ss'') × (ms' ≡ ms'')
  pub role : (v : ℕ) (a b : Result Standing Refusal) → known_answer a ≡ known_answer (known_of s v) → known_answer b ≡ known_answer (known_of t v) → a ≡ b
  pub tally : (list : List ℕ) (a b : Result Tally Refusal) → tally_answer a ≡ tally_answer (tallied_of s list) → tally_answer b ≡ tally_answer (tallied_of t list) → a ≡ b
  pub scores : (list : List ℕ) (a b : Result Scores Refusal) → score_answer a ≡ score_answer (scored_of s list) → score_answer b ≡ score_answer (scored_of t list) → a ≡ b
  pub nearest : (p : List ℤ) (a b : Nearest) → nearest_answer a ≡ nearest_answer (nearest_of s p) → nearest_answer b ≡ nearest_answer (nearest_of t p) → a ≡ b
  pub report : (l : List ℕ) (a b : Result ℕ Refusal) (l' l'' : List ℕ) → ReportCall s l a l' → ReportCall t l b l'' → (a ≡ b) × (l' ≡ l'')

-- x are the parameters, coords and ends the two tables and l the buffer as lent; r is the answer, and l' the buffer after the call
pub record RoundTrips : Type 0 where
  pub reads_back : (x : Parameters) (coords : List ℤ) (ends l : List ℕ) (k : ℕ) (l' : List ℕ) → Signed32 coords → Below 65536 ends
      → WriteCall x coords ends l (Ok k) l' → ReadsBack x coords ends l k l'
  pub written_again : (s : List ℕ) (x : Parameters) (coords : List ℤ) (ends l : List ℕ) (r : Result ℕ Refusal) (l' : List ℕ) → Accepted s → Below 256 s
      → Holds s x coords ends → (header_for x).len ≤ length l → WriteCall x coords ends l r l'
      → (r ≡ Ok (header_for x).len) × SameOutcome s (take (header_for x).len l')
  pub too_short : (s : List ℕ) (x : Parameters) (coords : List ℤ) (ends l : List ℕ) (r : Result ℕ Refusal) (l' : List ℕ) → Accepted s → Below 256 s
      → Holds s x coords ends → length l < (header_for x).len → WriteCall x coords ends l r l' → r ≡ Err (refusal 20)
  pub kept : (x : Parameters) (coords : List ℤ) (ends l : List ℕ) (q : Refusal) (l' : List ℕ) → WriteCall x coords ends l (Err q) l' → l' ≡ l
  pub same_refusals : (s : List ℕ) (x : Parameters) (coords : List ℤ) (ends l : List ℕ) (r : Result ℕ Refusal) (l' : List ℕ) → HeaderAccepted s → Below 256 s
      → Holds s x coords ends → WriteCall x coords ends l r l'
      → (q : Refusal) → (open_of s ≡ Err q) ↔ ((r ≡ Err q) × (7 ≤ q.number) × (q.number ≤ 10))
  pub no_longer : (s : List ℕ) (x : Parameters) (coords : List ℤ) (ends : List ℕ) → HeaderAccepted s → Holds s x coords ends
      → (header_for x).len ≤ length s
  pub an_image : (x : Parameters) (coords : List ℤ) (ends : List ℕ) → Signed32 coords → Below 65536 ends
      → T (counts_fit x.n x.m) → T (thresholds_fit x.limit x.p x.q x.mu) → T (lengths_fit x (length coords) (length ends))
      → HeaderAccepted (image_of x coords ends) × Below 256 (image_of x coords ends) × Holds (image_of x coords ends) x coords ends
  pub its_tables : (s : List ℕ) → Below 256 s
      → (coords : List ℤ) × (ends : List ℕ) × Signed32 coords × Below 65536 ends × Holds s (parameters_of (header_of s)) coords ends
