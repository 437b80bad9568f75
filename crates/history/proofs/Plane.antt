-- Images in the older format are refused with 4, and where z is the same the squared distance is that by x and y.
--
--     planar_images      the theorem of specs/Plane: bytes that are zero are no width
--     planar_distance    the theorems: the square of dz is 0
use Rattle.std.specs.Prelude.{Err}
use Prim.Native.Nat.{ℕ, ◌<◌}
use native.Mathlib.Omega.{arith}
use mathlib.Core.Path.{◌≡◌, sym, ap, ap₂, ◌∙◌}
use mathlib.Core.List.{List}
use lib.Dec.{T, leb, eqb, leb→le}
use lib.IntN.{ℤ, pos, ◌+ℤ◌, ◌-ℤ◌, +ℤ_idl, +ℤ_idr, +ℤ_comm, +ℤ_invr}
use lib.ListN.{length, get_or}
use Rattle.little_endian.proofs.Bytes.{number_le}
use Rattle.fields.specs.Fields.{handset_bytes, header_bytes}
use Rattle.limits.specs.Limits.{counts_fit}
use Rattle.image.specs.Image.{header_of, handset_count, distance_squared}
use Rattle.image.specs.Questions.{ask_header, ask_image, open_of}
use Rattle.image.specs.Signed.{signed_coordinate, square, signed_sum, signed_apart, signed_distance, Bytes}
use Rattle.image.specs.Answers.{refusal}
use Rattle.history.specs.Plane.{PlanarImages, planar_apart, PlanarDistance}
use Rattle.image.proofs.Acceptance.{go_on, refuse}
use Rattle.image.proofs.Signed.{signed_positions}

width_zero : (s : List ℕ) → T (leb header_bytes (length s)) → get_or s 30 0 ≡ 0 → get_or s 31 0 ≡ 0 → (header_of s).width ≡ 0
unfolding header_of
width_zero s long low high = omega (arith, number_le 2 s 30 (leb→le header_bytes (length s) long), low, high)

refused_with_4 : (s : List ℕ) → T (leb header_bytes (length s)) → T (eqb (header_of s).len (length s)) → T (counts_fit (header_of s).n (header_of s).m)
    → get_or s 30 0 ≡ 0 → get_or s 31 0 ≡ 0 → open_of s ≡ Err (refusal 4)
unfolding open_of ask_image ask_header
refused_with_4 s q1 q2 q3 low high =
    go_on (leb header_bytes (length s)) _ _ _ q1
    ∙ go_on (eqb (header_of s).len (length s)) _ _ _ q2
    ∙ go_on (counts_fit (header_of s).n (header_of s).m) _ _ _ q3
    ∙ refuse (eqb (header_of s).width handset_bytes) _ _ _ (ap (λ (w : ℕ). eqb w handset_bytes) (width_zero s q1 low high))

pub planar_images : PlanarImages
planar_images = record { refused_with_4 = refused_with_4 }

pub same_z : (f g : ℕ → ℤ) → f 2 ≡ g 2 → signed_apart f g ≡ planar_apart f g
unfolding signed_apart signed_sum
same_z f g e =
    let x : ℤ = square (f 0 -ℤ g 0) in
    let y : ℤ = square (f 1 -ℤ g 1) in
    let none : square (f 2 -ℤ g 2) ≡ pos 0 = ap (λ (w : ℤ). square (f 2 -ℤ w)) (sym e) ∙ ap square (+ℤ_invr (f 2)) in
    ap₂ ◌+ℤ◌ none (ap (λ (w : ℤ). y +ℤ w) (+ℤ_idr x)) ∙ +ℤ_idl (y +ℤ x) ∙ +ℤ_comm y x

zero_z : (s : List ℕ) → Bytes s → ((v : ℕ) → v < handset_count s → signed_coordinate s v 2 ≡ pos 0)
    → (u v : ℕ) → u < handset_count s → v < handset_count s → pos (distance_squared s u v) ≡ planar_apart (signed_coordinate s u) (signed_coordinate s v)
unfolding signed_distance
zero_z s b zero u v hu hv = sym (signed_positions.distance s b u v) ∙ same_z (signed_coordinate s u) (signed_coordinate s v) (zero u hu ∙ sym (zero v hv))

pub planar_distance : PlanarDistance
planar_distance = record { same_z = same_z; zero_z = zero_z }
