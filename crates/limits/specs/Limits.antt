-- Questions 3, 4, 5 and 7 of an image (paper 01, "Questions put to an image"; paper 02, order 7), put to any numbers, and the limits that they ask about.
--
--     handsets_most       the most handsets, and edges_most the most edges, that a site may have
--     limit_most          the most that G may be
--     counts_fit n m      question 3: the counts of handsets and edges are within their limits
--     width_fits w        question 4: a handset's record has as many bytes as the header says
--     thresholds_fit ..   question 5: G, p, q and mu are within theirs
--     out_of_limits r      question 7 fails for a handset's record: some coordinate is out of its limits
use Rattle.std.specs.Prelude.{ℕ, Bool, ◌&&◌, not, List, leb, eqb}
use Rattle.sets.specs.Below.{any}
use Rattle.fields.specs.Fields.{coordinate_count, handset_bytes, coordinate_of, in_limits}

abbrev pub handsets_most : ℕ
handsets_most = 512

abbrev pub edges_most : ℕ
edges_most = 4096

abbrev pub limit_most : ℕ
limit_most = 12000000000000

abbrev pub counts_fit : ℕ → ℕ → Bool
counts_fit n m = leb n handsets_most && leb m edges_most

abbrev pub width_fits : ℕ → Bool
width_fits width = eqb width handset_bytes

abbrev pub thresholds_fit : ℕ → ℕ → ℕ → ℕ → Bool
thresholds_fit limit p q mu = leb limit limit_most && (leb 1 p && (leb p q && (leb q 1000 && leb mu 512)))

unfoldable pub out_of_limits : List ℕ → Bool
unfolding any coordinate_of
out_of_limits r = any coordinate_count (λ i. not (in_limits (coordinate_of r i)))
