-- Tables that are long enough for every plan, as include/divanegret.h has them. Proved in proofs/Lengths as `tables_suffice`.
--
--     starts_most         the longest start table of a plan: 513 entries, one more than the most communities
--     memberships_most    the longest member table: 8,704 entries, one for each handset and two for each edge of the largest site
--     TablesSuffice      the theorem: for an accepted image a start table of n + 1 entries and a member table of n + 2 m are long enough for its plan, and so
--                        are starts_most and memberships_most
use Rattle.std.specs.Prelude.{ℕ, ◌+◌, ◌*◌, ◌≤◌, List, length}
use Rattle.limits.specs.Limits.{handsets_most, edges_most}
use Rattle.image.specs.Image.{handset_count, edge_count}
use Rattle.image.specs.Questions.{Accepted}
use Rattle.demands.specs.Demand3.{LongEnough}

abbrev pub starts_most : ℕ
starts_most = handsets_most + 1

abbrev pub memberships_most : ℕ
memberships_most = handsets_most + 2 * edges_most

pub record TablesSuffice : Type 0 where
  pub counted : (s ss ms : List ℕ) → Accepted s → handset_count s + 1 ≤ length ss → handset_count s + 2 * edge_count s ≤ length ms → LongEnough s ss ms
  pub every : (s ss ms : List ℕ) → Accepted s → starts_most ≤ length ss → memberships_most ≤ length ms → LongEnough s ss ms
