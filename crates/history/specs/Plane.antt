-- Positions until paper 02, order 7: x and y, in the plane. How today's reader treats an image in that format, and how today's distance relates to the
-- older one; specs/TakenOver says how such a site is written again. Proved in proofs/Plane as `planar_images` and `planar_distance`.
--
--     PlanarImages      the theorem: an image with zero in bytes 30 and 31, as every image in the older format that was accepted has them, is refused with 4, so
--                       that no gap and no slice of another record is read as a z
--     planar_apart f g   dx² + dy² of two positions, each given by its coordinates: the older squared distance
--     PlanarDistance    the theorems: where z is the same, or 0 everywhere, the squared distance is the older one
use Rattle.std.specs.Prelude.{ℕ, ◌<◌, ◌≡◌, List, T, leb, eqb, ℤ, pos, ◌+ℤ◌, ◌-ℤ◌, length, get_or, Err}
use Rattle.fields.specs.Fields.{header_bytes}
use Rattle.limits.specs.Limits.{counts_fit}
use Rattle.image.specs.Image.{header_of, handset_count, distance_squared}
use Rattle.image.specs.Questions.{open_of}
use Rattle.image.specs.Signed.{signed_coordinate, square, signed_apart, Bytes}
use Rattle.image.specs.Answers.{refusal}

pub record PlanarImages : Type 0 where
  -- questions 1 to 3, which are as they were, get a yes
  pub refused_with_4 : (s : List ℕ) → T (leb header_bytes (length s)) → T (eqb (header_of s).len (length s)) → T (counts_fit (header_of s).n (header_of s).m)
      → get_or s 30 0 ≡ 0 → get_or s 31 0 ≡ 0 → open_of s ≡ Err (refusal 4)

abbrev pub planar_apart : (ℕ → ℤ) → (ℕ → ℤ) → ℤ
planar_apart f g = square (f 0 -ℤ g 0) +ℤ square (f 1 -ℤ g 1)

pub record PlanarDistance : Type 0 where
  -- of any two positions, so of a spot and a handset too
  pub same_z : (f g : ℕ → ℤ) → f 2 ≡ g 2 → signed_apart f g ≡ planar_apart f g
  -- of two handsets, where every z is 0
  pub zero_z : (s : List ℕ) → Bytes s → ((v : ℕ) → v < handset_count s → signed_coordinate s v 2 ≡ pos 0)
      → (u v : ℕ) → u < handset_count s → v < handset_count s → pos (distance_squared s u v) ≡ planar_apart (signed_coordinate s u) (signed_coordinate s v)
