-- A point of the site (paper 02, order 2: a spot), as the list of its signed coordinates: x, y, z.
--
--     point_in_limits p            question 17: every coordinate is from -1,000,000 to 1,000,000
--     distance_from q r           the squared distance from a point to a handset, by the point's coordinates plus 2 ^ 31 and the handset's record
--     distance_to s p v           the squared distance from the point p to handset v of the image s
--     signed_distance_to s p v     the same with signed numbers: dx² + dy² + dz²
--     SignedPoint                the theorem: for every list of bytes and every point within the limits, the two are the same (proved in proofs/Signed)
use Rattle.std.specs.Prelude.{◌≡◌, ℕ, Bool, true, ◌&&◌, T, List, [], ◌∷◌, map, length, ℤ, pos, slice_index, slice_index_or}
use Rattle.sets.specs.Below.{sum}
use Rattle.fields.specs.Fields.{coordinate_count, coordinate_of}
use Rattle.image.specs.Image.{handset_records, handset_record, gap_squared}
use Rattle.image.specs.Signed.{raised, within_limits, signed_coordinate, signed_apart, Bytes}

abbrev pub point_in_limits : List ℤ → Bool
point_in_limits [] = true
point_in_limits (c ∷ p) = within_limits c && point_in_limits p

unfoldable pub distance_from : List ℕ → List ℕ → ℕ
unfolding sum coordinate_of
distance_from q r = sum coordinate_count (gap_squared (λ i. slice_index q i) (coordinate_of r))

unfoldable pub distance_to : List ℕ → List ℤ → ℕ → ℕ
unfolding distance_from raised handset_record handset_records
distance_to s p v = distance_from (map raised p) (handset_record (handset_records s) v)

unfoldable pub signed_distance_to : List ℕ → List ℤ → ℕ → ℤ
unfolding signed_apart signed_coordinate
signed_distance_to s p v = signed_apart (λ i. slice_index_or p i (pos 0)) (signed_coordinate s v)

pub record SignedPoint : Type 0 where
  pub distance : (s : List ℕ) → Bytes s → (p : List ℤ) → length p ≡ coordinate_count → T (point_in_limits p) → (v : ℕ)
      → signed_distance_to s p v ≡ pos (distance_to s p v)
