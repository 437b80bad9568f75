-- The squared distance from a point within the limits to a handset of an accepted image is at most 4 · 10 ^ 12 for each coordinate, so that 64 bits hold it.
--
--     distance_most     it is at most that
--     distance_exact    and what 64 bits hold of it is the distance
use Rattle.std.proofs.Common.{◌≡◌, ℕ, ◌*◌, ◌%◌, ◌^◌, ◌<◌, ◌≤◌, T, List, map, length, get_or, ℤ, pos, mul-le-mul, arith}
use Rattle.sets.proofs.Counting.{sum_le, sum_const}
use Rattle.fields.specs.Fields.{coordinate_count, coordinate_limit, gap, coordinate_of}
use Rattle.image.specs.Image.{handset_count, handset_records, handset_record, gap_squared}
use Rattle.image.specs.Questions.{Accepted}
use Rattle.image.specs.Signed.{raised}
use Rattle.image.proofs.Acceptance.{coordinate_limits}
use Rattle.points.specs.Points.{point_in_limits, distance_from, distance_to}
use Rattle.points.proofs.Limits.{raised_limits, point_within, raised_at}

-- the most that the square of a gap can be
abbrev pub gap_most : ℕ
gap_most = 2 * coordinate_limit * (2 * coordinate_limit)

module _ (s : List ℕ) (ok : Accepted s) (p : List ℤ) (long : length p ≡ coordinate_count) (inside : T (point_in_limits p)) (v : ℕ) (h : v < handset_count s) where
  square_most : (i : ℕ) → i < coordinate_count → gap_squared (λ i. get_or (map raised p) i 0) (coordinate_of (handset_record (handset_records s) v)) i ≤ gap_most
  square_most i l =
      let a = raised_limits (get_or p i (pos 0)) (point_within p inside i (omega arith)) in
      let e = raised_at p i (omega arith) in
      let b = coordinate_limits s ok v i h l in
      let small : gap (get_or (map raised p) i 0) (coordinate_of (handset_record (handset_records s) v) i) ≤ 2 * coordinate_limit = omega (arith, a.0, a.1, e, b.0, b.1) in
      mul-le-mul small small

  pub distance_most : distance_to s p v ≤ coordinate_count * gap_most
  unfolding distance_to distance_from
  distance_most =
      omega (arith, sum_le coordinate_count _ (λ i. gap_most) square_most, sum_const coordinate_count gap_most)

  pub distance_exact : distance_from (map raised p) (handset_record (handset_records s) v) % 2 ^ 64 ≡ distance_to s p v
  unfolding distance_to
  distance_exact = omega (arith, distance_most)
