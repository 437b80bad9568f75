-- The tally and the scores of a list of handsets (source document 003, 5.3; paper 01, "Scores, lookup, report" and question 13).
--
--     pairs_of n              s of a list of n places; pairs l is pairs_of (length l)
--     tally_by s test l       s, t and o of the paper for an image and a list, where the edges that count are those that pass a test
--     tally_of s l            the same where every edge counts: the paper's
--     scores_for t            density (s - t) / s and conductance o / (2t + o), neither reduced; a zero divisor gives no score
--     bad_entry n l i         question 13: entry i of the list is not below n, or stands at index 512 or later
--     tallied_of s l          the call's answer: the image's refusal, 13 with the index of the first bad entry, or the tally
--     scored_of s l           the same with the scores for the tally
--
-- The laws are in proofs/Tallying.
use Rattle.std.specs.Prelude.{ℕ, ◌+◌, ◌*◌, ◌-◌, Bool, true, ◌||◌, cond, List, leb, eqb, length, get_or, Err, None, Ok, Option, Result, Some}
use Rattle.sets.specs.Below.{any, find}
use Rattle.image.specs.Questions.{open_of, when_opened}
use Rattle.community.specs.Scores.{count_pairs, pairs, every_edge, joined_pairs, leaving}
use Rattle.scores.specs.declared.Tally.{Tally}
use Rattle.scores.specs.declared.Ratio.{Ratio}
use Rattle.image.specs.declared.Refusal.{Refusal}
use Rattle.scores.specs.declared.Scores.{Scores}

abbrev pub pairs_of : ℕ → ℕ
pairs_of n = count_pairs n (λ i j. true)

abbrev pub tally_by : List ℕ → (ℕ → Bool) → List ℕ → Tally
tally_by s test l = record { pairs = pairs l; joined = joined_pairs s test l; leaving = leaving s test l }

unfoldable pub tally_of : List ℕ → List ℕ → Tally
tally_of s l = tally_by s every_edge l

-- a score that is not reduced; none for a zero divisor
unfoldable pub score : ℕ → ℕ → Option Ratio
score a b = cond (eqb b 0) None (Some (record { numerator = a; denominator = b }))

unfoldable pub scores_for : Tally → Scores
unfolding score
scores_for t = record {
  density = score (t.pairs - t.joined) t.pairs;
  conductance = score t.leaving (2 * t.joined + t.leaving);
}

unfoldable pub bad_entry : ℕ → List ℕ → ℕ → Bool
bad_entry n l i = leb n (get_or l i 0) || leb 512 i

-- question 13: a no is the refusal with the first bad entry's index
unfoldable pub ask_entries : ℕ → List ℕ → Tally → Result Tally Refusal
unfolding any find bad_entry
ask_entries n l t = cond (any (length l) (bad_entry n l)) (Err (record { number = 13; place = find (length l) (bad_entry n l) })) (Ok t)

unfoldable pub tallied_of : List ℕ → List ℕ → Result Tally Refusal
unfolding open_of ask_entries tally_of
tallied_of s l = when_opened s (λ h. ask_entries h.n l (tally_of s l)) Err

abbrev pub scored_for : Result Tally Refusal → Result Scores Refusal
scored_for (Ok t) = Ok (scores_for t)
scored_for (Err r) = Err r

unfoldable pub scored_of : List ℕ → List ℕ → Result Scores Refusal
unfolding tallied_of scores_for
scored_of s l = scored_for (tallied_of s l)
