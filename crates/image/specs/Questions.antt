-- The ten questions put to an image (paper 01, "Questions put to an image"), and the reader's answer.
--
--     tables_fit h                question 6: the two tables lie past the header and within the image, and do not overlap
--     bad_end records n k         question 8 fails for edge k: an end is no handset
--     is_loop records k           question 9 fails: its two ends are the same
--     repeats_earlier records k   question 10 fails: it joins what an earlier edge joins
--     ask, ask_each               a question, and a question to each record: a yes goes on, a no is the refusal
--     ask_image, ask_header        questions 1 to 6 and 3 to 6, in their order; 3, 4, 5 and 7 of any numbers are in limits/specs/Limits
--     ask_records, ask_edges       questions 7 to 10 and 8 to 10
--     open_of s                   the questions in the paper's order, each of the whole image before the next: the header, or the number and
--                                place of the first no
--     by_answer o f g             what is said by an answer: f of the header, or g of the refusal
--     when_opened s f g           what a call says of an image, by the reader's answer: f of its header where it is accepted, else g of its refusal
--     refusal_of o                the refusal in an answer, for the else of let .. else; number 0 where the image is accepted
--     HeaderAccepted s           questions 1 to 6 pass
--     Accepted s                 every question passes (specs/Acceptance: exactly when the reader answers the header)
use Rattle.std.specs.Prelude.{ℕ, ◌+◌, ◌*◌, ◌<◌, Bool, true, false, ◌&&◌, ◌||◌, not, List, T, leb, ltb, eqb, length, Err, Ok, Result}
use Rattle.sets.specs.Below.{any, find}
use Rattle.fields.specs.Fields.{header_bytes, handset_bytes, edge_bytes}
use Rattle.limits.specs.Limits.{counts_fit, thresholds_fit, width_fits, out_of_limits}
use Rattle.image.specs.Image.{header_of, handset_count, edge_count, handset_records, edge_records, handset_record, end_a, end_b, joins}
use Rattle.image.specs.declared.Header.{Header}
use Rattle.image.specs.declared.Refusal.{Refusal}

abbrev pub tables_fit : Header → Bool
tables_fit h =
    leb header_bytes h.handsets && (leb header_bytes h.edges && (leb (h.handsets + handset_bytes * h.n) h.len && (leb (h.edges + edge_bytes * h.m) h.len
    && (leb (h.handsets + handset_bytes * h.n) h.edges || leb (h.edges + edge_bytes * h.m) h.handsets))))

unfoldable pub bad_end : List ℕ → ℕ → ℕ → Bool
unfolding end_a end_b
bad_end records n k = not (ltb (end_a records k) n && ltb (end_b records k) n)

unfoldable pub is_loop : List ℕ → ℕ → Bool
unfolding end_a end_b
is_loop records k = eqb (end_a records k) (end_b records k)

unfoldable pub repeats_earlier : List ℕ → ℕ → Bool
unfolding any joins end_a end_b
repeats_earlier records k = any k (joins records (end_a records k) (end_b records k))

-- a yes goes on; a no is the refusal with its number and place
unfoldable pub ask : Bool → ℕ → ℕ → Result Header Refusal → Result Header Refusal
ask true number place next = next
ask false number place next = Err (record { number = number; place = place })

-- a question to each of n records: its no is at the first bad one
unfoldable pub ask_each : ℕ → (ℕ → Bool) → ℕ → Result Header Refusal → Result Header Refusal
unfolding ask any find
ask_each n bad number next = ask (not (any n bad)) number (find n bad) next

-- questions 8 to 10, of the edges
unfoldable pub ask_edges : List ℕ → Header → Result Header Refusal
unfolding ask_each bad_end is_loop repeats_earlier
ask_edges edges h =
    ask_each h.m (bad_end edges h.n) 8
    (ask_each h.m (is_loop edges) 9
    (ask_each h.m (repeats_earlier edges) 10
    (Ok h)))

-- questions 7 to 10, of the two tables
unfoldable pub ask_records : List ℕ → List ℕ → Header → Result Header Refusal
unfolding ask_each out_of_limits handset_record ask_edges
ask_records handsets edges h = ask_each h.n (λ v. out_of_limits (handset_record handsets v)) 7 (ask_edges edges h)

-- questions 3 to 6, of the header
unfoldable pub ask_header : Header → Result Header Refusal → Result Header Refusal
unfolding ask
ask_header h next =
    ask (counts_fit h.n h.m) 3 0
    (ask (width_fits h.width) 4 0
    (ask (thresholds_fit h.limit h.p h.q h.mu) 5 0
    (ask (tables_fit h) 6 0
    next)))

-- questions 1 to 6, of the image's length and header
unfoldable pub ask_image : List ℕ → Result Header Refusal → Result Header Refusal
unfolding ask header_of ask_header
ask_image s next =
    ask (leb header_bytes (length s)) 1 0
    (ask (eqb (header_of s).len (length s)) 2 0
    (ask_header (header_of s)
    next))

unfoldable pub open_of : List ℕ → Result Header Refusal
unfolding ask_image header_of ask_records handset_records edge_records
open_of s = ask_image s (ask_records (handset_records s) (edge_records s) (header_of s))

abbrev pub by_answer : {A : Type 0} → Result Header Refusal → (Header → A) → (Refusal → A) → A
by_answer (Ok h) f g = f h
by_answer (Err r) f g = g r

abbrev pub when_opened : {A : Type 0} → List ℕ → (Header → A) → (Refusal → A) → A
when_opened s f g = by_answer (open_of s) f g

abbrev pub refusal_of : Result Header Refusal → Refusal
refusal_of (Ok h) = record { number = 0; place = 0 }
refusal_of (Err r) = r

pub record HeaderAccepted (s : List ℕ) : Type 0 where
  pub q1 : T (leb header_bytes (length s))
  pub q2 : T (eqb (header_of s).len (length s))
  pub q3 : T (counts_fit (header_of s).n (header_of s).m)
  pub q4 : T (width_fits (header_of s).width)
  pub q5 : T (thresholds_fit (header_of s).limit (header_of s).p (header_of s).q (header_of s).mu)
  pub q6 : T (tables_fit (header_of s))

pub record Accepted (s : List ℕ) : Type 0 where
  pub header : HeaderAccepted s
  pub q7 : (v : ℕ) → v < handset_count s → T (not (out_of_limits (handset_record (handset_records s) v)))
  pub q8 : (k : ℕ) → k < edge_count s → T (not (bad_end (edge_records s) (handset_count s) k))
  pub q9 : (k : ℕ) → k < edge_count s → T (not (is_loop (edge_records s) k))
  pub q10 : (k : ℕ) → k < edge_count s → T (not (repeats_earlier (edge_records s) k))
