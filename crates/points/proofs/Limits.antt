-- The coordinates of a point within the limits, one by one.
--
--     within_small     a number within the limits fits 32 bits
--     raised_limits    raised, it keeps the limits moved by 2 ^ 31
--     point_within     each coordinate of a point within the limits is
--     raised_at        a coordinate of the raised point is the coordinate, raised
use Rattle.std.proofs.Common.{◌≡◌, ℕ, zero, suc, ◌+◌, ◌-◌, ◌<◌, ◌≤◌, true, T, leb, List, [], ◌∷◌, map, length, get_or, ℤ, pos, negsuc, neg_ℤ, sym, subst, arith, leb→le}
use lib.Signed.{mag, le_z}
use Rattle.sets.proofs.Tests.{and_left, and_right}
use Rattle.sets.proofs.Selecting.{map_at}
use Rattle.fields.specs.Fields.{coordinate_limit, in_limits}
use Rattle.image.specs.Signed.{raised, within_limits}
use Rattle.image.proofs.Signed.{limits_raised}
use Rattle.points.specs.Points.{point_in_limits}

pub within_small : (z : ℤ) → T (within_limits z) → mag z < 2147483648
within_small (pos x) t = omega (arith, leb→le x coordinate_limit t)
within_small (negsuc x) t = omega (arith, leb→le x (coordinate_limit - 1) (and_left (le_z (neg_ℤ (pos coordinate_limit)) (negsuc x)) true t))

pub raised_limits : (z : ℤ) → T (within_limits z) → (2147483648 - coordinate_limit ≤ raised z) × (raised z ≤ 2147483648 + coordinate_limit)
raised_limits z t =
    let u : T (in_limits (raised z)) = subst T (sym (limits_raised z (within_small z t))) t in
    let low = leb (2147483648 - coordinate_limit) (raised z) in
    let high = leb (raised z) (2147483648 + coordinate_limit) in
    (leb→le (2147483648 - coordinate_limit) (raised z) (and_left low high u), leb→le (raised z) (2147483648 + coordinate_limit) (and_right low high u))

pub point_within : (p : List ℤ) → T (point_in_limits p) → (i : ℕ) → i < length p → T (within_limits (get_or p i (pos 0)))
point_within [] t i h = absurd (omega arith)
point_within (z ∷ p) t zero h = and_left (within_limits z) (point_in_limits p) t
point_within (z ∷ p) t (suc i) h = point_within p (and_right (within_limits z) (point_in_limits p) t) i (omega arith)

pub raised_at : (p : List ℤ) (i : ℕ) → i < length p → get_or (map raised p) i 0 ≡ raised (get_or p i (pos 0))
raised_at p i h = map_at raised p (pos 0) 0 i h
