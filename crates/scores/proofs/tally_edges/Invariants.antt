-- `scores::tally_edges` meets its contract. After k edges the two sums are t and o over them; each edge adds at most 512 * 512 to t and 1 to o,
-- so that 4,096 edges stay below 2 ^ 32.
use mathlib.Core.Path.{◌≡◌}
use Rattle.community.specs.Scores.{every_edge}
use Rattle.scores.specs.ForProofs.{joined_sum, leaving_sum}
use Rattle.scores.proofs.tally_edges.Given as goal

abbrev pub invariant-loop-k : goal.invariant-loop-k
invariant-loop-k l = record { joined : l.joined ≡ joined_sum l.table l.edges every_edge l.k; leaving : l.leaving ≡ leaving_sum l.table l.edges every_edge l.k }
