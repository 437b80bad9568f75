-- The squared distance from a point is that of the signed numbers: each coordinate of the point fits 32 bits, and so does each of the handset's.
use Rattle.std.proofs.Common.{◌≡◌, ℕ, ◌*◌, T, List, length, get_or, ℤ, pos, sym, ap, ◌∙◌, ap₂, arith}
use Rattle.sets.proofs.Counting.{sum_cong}
use Rattle.fields.specs.Fields.{coordinate_count, gap}
use Rattle.image.specs.Signed.{signed_coordinate, signed_apart, Bytes}
use Rattle.image.proofs.Signed.{apart_signed, coordinate_small, coordinate_raised}
use Rattle.points.specs.Points.{point_in_limits, distance_from, distance_to, signed_distance_to, SignedPoint}
use Rattle.points.proofs.Limits.{within_small, point_within, raised_at}

distance_signed : (s : List ℕ) → Bytes s → (p : List ℤ) → length p ≡ coordinate_count → T (point_in_limits p) → (v : ℕ)
    → signed_distance_to s p v ≡ pos (distance_to s p v)
unfolding signed_distance_to signed_apart distance_to distance_from
distance_signed s b p long inside v =
    apart_signed (λ i. get_or p i (pos 0)) (signed_coordinate s v) coordinate_count
    (λ i h. within_small (get_or p i (pos 0)) (point_within p inside i (omega arith))) (λ i h. coordinate_small s b v i)
    ∙ ap pos (sum_cong coordinate_count _ _ (λ i h. ap₂ (λ (x y : ℕ). gap x y * gap x y) (sym (raised_at p i (omega arith))) (sym (coordinate_raised s b v i))))

pub signed_point : SignedPoint
signed_point = record { distance = distance_signed }
