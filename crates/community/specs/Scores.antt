-- The scores of a list of handsets (source document 003, 5.3; paper 01, "Scores, lookup, report"). The edges that count are those whose number passes a
-- test; for the paper's t and o that is every edge.
--
--     count_pairs n f          how many pairs of places i < j of a list of length n pass
--     pairs l                 s, the count of all pairs of places in l
--     every_edge               the test that every edge passes
--     joined_by s test u v     u and v are the two ends of an edge that passes; with every edge, u and v are adjacent (the paper: tied)
--     joined_pairs s test l    t, the count of pairs of places whose handsets are joined so
--     just_one a b             one of two tests passes, and the other does not
--     leaving s test l        o, the count of edges that pass and have just one end in l
--
-- Density is (s - t) / s and conductance o / (2 t + o), neither reduced. The laws are in proofs/Tallying of the crate `scores`.
use Rattle.std.specs.Prelude.{ℕ, Bool, true, ◌&&◌, ◌||◌, not, List, length, get_or}
use Rattle.sets.specs.Below.{any, count, sum}
use Rattle.image.specs.Image.{edge_count, edge_records, end_a, end_b, joins}
use Rattle.community.specs.Network.{contains}

unfoldable pub count_pairs : ℕ → (ℕ → ℕ → Bool) → ℕ
unfolding count sum
count_pairs n f = sum n (λ j. count j (λ i. f i j))

unfoldable pub pairs : List ℕ → ℕ
unfolding count_pairs
pairs l = count_pairs (length l) (λ i j. true)

abbrev pub every_edge : ℕ → Bool
every_edge k = true

unfoldable pub joined_by : List ℕ → (ℕ → Bool) → ℕ → ℕ → Bool
unfolding any joins edge_records
joined_by s test u v = any (edge_count s) (λ k. test k && joins (edge_records s) u v k)

unfoldable pub joined_pairs : List ℕ → (ℕ → Bool) → List ℕ → ℕ
unfolding count_pairs joined_by
joined_pairs s test l = count_pairs (length l) (λ i j. joined_by s test (get_or l i 0) (get_or l j 0))

abbrev pub just_one : Bool → Bool → Bool
just_one a b = (a && not b) || (b && not a)

unfoldable pub leaving : List ℕ → (ℕ → Bool) → List ℕ → ℕ
unfolding count contains edge_records end_a end_b
leaving s test l = count (edge_count s) (λ k. test k && just_one (contains (end_a (edge_records s) k) l) (contains (end_b (edge_records s) k) l))
