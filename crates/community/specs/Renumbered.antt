-- An image whose handsets are renumbered, and what is the same of it (paper 01, "Reached, and the groups").
--
--     SamePair a b c d    the two numbers a and b are c and d, in either order
--     Renumbered s t      t is the image s renumbered: the same header and length; each handset record whole at the place that the map gives its
--                         number; each edge record once, both ends mapped, the records in any order and the two ends in either; gap bytes may be
--                         anything
--     NumberedBack r Q    the set Q numbered back: v is in it where the number that the map took v to is in Q
--     SameRole            the same role, but for the number of a core's community
use Rattle.std.specs.Prelude.{ℕ, ◌+◌, ◌*◌, ◌<◌, ◌≡◌, ◌⊎◌, List, length, get_or}
use Rattle.sets.specs.Renumbering.{Renumbering}
use Rattle.fields.specs.Fields.{handset_bytes, header_bytes}
use Rattle.image.specs.Image.{handset_count, edge_count, handset_records, edge_records, end_a, end_b}
use Rattle.community.specs.declared.Role.{Role}
use Rattle.community.specs.declared.Role.TheVariants.{Core, Border, Outlier}

abbrev pub SamePair : ℕ → ℕ → ℕ → ℕ → Type 0
SamePair a b c d = ((a ≡ c) × (b ≡ d)) ⊎ ((a ≡ d) × (b ≡ c))

pub record Renumbered (s t : List ℕ) : Type 0 where
  pub map : Renumbering (handset_count s)
  pub order : Renumbering (edge_count s)
  pub same_length : length t ≡ length s
  pub header : (i : ℕ) → i < header_bytes → get_or t i 0 ≡ get_or s i 0
  pub records : (v i : ℕ) → v < handset_count s → i < handset_bytes
      → get_or (handset_records t) (handset_bytes * map.to v + i) 0 ≡ get_or (handset_records s) (handset_bytes * v + i) 0
  pub ends : (k : ℕ) → k < edge_count s
      → SamePair (end_a (edge_records t) (order.to k)) (end_b (edge_records t) (order.to k))
      (map.to (end_a (edge_records s) k)) (map.to (end_b (edge_records s) k))

abbrev pub NumberedBack : {n : ℕ} → Renumbering n → (ℕ → Type 0) → ℕ → Type 0
NumberedBack {n} r Q v = (v < n) × Q (r.to v)

pub data SameRole : Role → Role → Type 0 where
  both_core : {i j : ℕ} → SameRole (Core i) (Core j)
  both_border : {k : ℕ} → SameRole (Border k) (Border k)
  both_outlier : SameRole Outlier Outlier
