-- The edges inside each group of a table of rows, those that leave it, and its reach. Where no edge is repeated, as in an
-- accepted image, these are the paper's t, o and reach of each group (paper 01, "Scores, lookup, report"; paper 02, order 6): the report stands on that.
--
--     edges_in records                  how many edge records are counted: those that are there, 4,096 at most
--     is_member rows g k v              handset v is a member of group k, one of the first g rows
--     is_inside ..                      both ends of edge e are members of group k; is_leaving ..: just one is
--     GroupsCounted ..                 a table of both counts of each group k below 512: at k the edges with both ends in it, at 512 + k those with just one
--     reach_entry r                     what a table holds of a reach: one more than its squared distance, and 0 for none
--     GroupsReach ..                   a table of the reach of each group k below 512; a limit above the most that G may be counts as that
use Rattle.std.specs.Prelude.{ℕ, suc, ◌+◌, ◌/◌, ◌<◌, min, ◌≡◌, Bool, ◌&&◌, cond, List, ltb, length, get_or, None, Option, Some}
use Rattle.sets.specs.Below.{count}
use Rattle.fields.specs.Fields.{edge_bytes}
use Rattle.limits.specs.Limits.{edges_most, limit_most}
use Rattle.image.specs.Image.{end_a, end_b}
use Rattle.near.specs.Near.{ends_proximity}
use Rattle.community.specs.Network.{contains}
use Rattle.community.specs.Scores.{just_one}
use Rattle.community.specs.Reach.{farthest}
use Rattle.rows.specs.Rows.{row_members}

abbrev pub edges_in : List ℕ → ℕ
edges_in records = min (length records / edge_bytes) edges_most

unfoldable pub is_member : List ℕ → ℕ → ℕ → ℕ → Bool
is_member rows groups k v = ltb k groups && contains v (row_members rows k)

abbrev pub is_inside : List ℕ → List ℕ → ℕ → ℕ → ℕ → Bool
is_inside records rows groups k e = is_member rows groups k (end_a records e) && is_member rows groups k (end_b records e)

abbrev pub is_leaving : List ℕ → List ℕ → ℕ → ℕ → ℕ → Bool
is_leaving records rows groups k e = just_one (is_member rows groups k (end_a records e)) (is_member rows groups k (end_b records e))

-- of the edge records, a table of rows, how many of them are groups, and the table ts
pub record GroupsCounted (records rows : List ℕ) (groups : ℕ) (ts : List ℕ) : Type 0 where
  pub size : length ts ≡ 1024
  pub joined : (k : ℕ) → k < 512
      → get_or ts k 0 ≡ count (edges_in records) (is_inside records rows groups k)
  pub leaving : (k : ℕ) → k < 512
      → get_or ts (512 + k) 0 ≡ count (edges_in records) (is_leaving records rows groups k)

abbrev pub reach_entry : Option ℕ → ℕ
reach_entry (Some d) = suc d
reach_entry None = 0

-- of the handset records and the edge records, the square of the near distance, a table of rows, how many of them are groups, and the table rs
pub record GroupsReach (handsets records : List ℕ) (limit : ℕ) (rows : List ℕ) (groups : ℕ) (rs : List ℕ) : Type 0 where
  pub size : length rs ≡ 512
  pub reaches : (k : ℕ) → k < 512
      → get_or rs k 0
      ≡ reach_entry (farthest (edges_in records) (λ e. cond (is_inside records rows groups k e) (ends_proximity handsets (end_a records e) (end_b records e) (min limit limit_most)) None))
