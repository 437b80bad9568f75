-- The theorem of specs/TakenOver. The older image and the one written have the same parameters and the same edge records, so the same handsets are adjacent;
-- adjacent handsets have their records, and there each z is 0, so that the squared distance is that by x and y.
--
--     refused          bytes 30 and 31 of an older image are zero, so that it is refused with 4
--     adjacent_below   adjacent handsets of an accepted image are handsets of it
--     asked, signed    the tables of an older image pass the writer's 3, 5 and 6, and their coordinates are numbers of 32 bits
--     image_accepted   the image that they make is accepted
--     network_is       its network is the older image's
--     kept             it keeps the site: network, edges and distances
--     anew             the writer answers its length, and the buffer then begins with it
--     its_tables       the tables of an older image
--     taken_over       the theorem
use Rattle.std.specs.Prelude.{Err, Ok, Result}
use Prim.Native.Nat.{ℕ, zero, suc, ◌+◌, ◌*◌, ◌/◌, ◌%◌, ◌≤◌, ◌<◌}
use native.Mathlib.Omega.{arith}
use mathlib.Core.Path.{◌≡◌, refl, sym, ap, ap₂, ◌∙◌, subst}
use mathlib.Core.Logic.{⊎_elim}
use mathlib.Core.Bool.{Bool, true, false, ◌&&◌, ◌||◌, not}
use mathlib.Core.List.{List}
use lib.Dec.{T, leb, eqb, leb→le, eqb→eq, T_not, not_T}
use lib.IntN.{ℤ, pos, ◌+ℤ◌, ◌-ℤ◌}
use lib.Signed.{mag, le_z}
use lib.ListN.{length, get_or, take, length-take, length-drop}
use Rattle.sets.specs.Below.{any}
use Rattle.sets.proofs.Tests.{three, and_left, and_right, any_take, none_any}
use Rattle.little_endian.specs.Bytes.{Below}
use Rattle.little_endian.proofs.Bytes.{number_le}
use Rattle.fields.specs.Fields.{coordinate_count, edge_bytes, core_size, header_bytes}
use Rattle.limits.specs.Limits.{out_of_limits}
use Rattle.image.specs.Image.{header_of, handset_count, edge_count, limit_of, edge_records, handset_record, distance_squared, joins, adjacent, mu}
use Rattle.image.specs.Questions.{bad_end, is_loop, repeats_earlier, open_of, Accepted}
use Rattle.image.specs.Signed.{within_limits, signed_coordinate, square}
use Rattle.image.specs.Answers.{refusal}
use Rattle.image.proofs.Acceptance.{opened, ends_below}
use Rattle.image.proofs.Edges.{joins_cases}
use Rattle.near.specs.Near.{neighbour}
use Rattle.near.proofs.Near.{neighbour_is}
use Rattle.community.specs.Site.{network}
use Rattle.points.specs.Points.{signed_distance_to}
use Rattle.points.proofs.Limits.{within_small}
use Rattle.layout.specs.Layout.{header_for, handset_table, image_of, Signed32}
use Rattle.layout.specs.declared.Parameters.{Parameters}
use Rattle.layout.proofs.Numbers.{record_numbers}
use Rattle.layout.proofs.Reading.{Asked, image_below, handsets_read, edges_read, header_accepted}
use Rattle.writer.specs.Holds.{parameters_of, Holds}
use Rattle.writer.specs.Writer.{WriteCall}
use Rattle.writer.proofs.Outcome.{written}
use Rattle.writer.proofs.Tables.{every_entry, edges_below, EndTable, ends_low, ends_are, asked_by, image_holds, ends_in, ends_in_lem, coordinates_by, coordinates_length, coordinate_at}
use Rattle.history.specs.Plane.{planar_apart}
use Rattle.history.specs.TakenOver.{planar_width, planar_limit_most, planar_coordinate, PlanarAccepted, planar_near, planar_network, PlanarHolds, Kept, TakenOver}
use Rattle.image.specs.declared.Refusal.{Refusal}
use Rattle.history.proofs.Plane.{planar_images, planar_distance}

-- ---- the older image is refused

refused : (s : List ℕ) → PlanarAccepted s → open_of s ≡ Err (refusal 4)
unfolding header_of
refused s ok =
    let none : (header_of s).width ≡ 0 = eqb→eq (header_of s).width 0 ok.q4 in
    let bytes = number_le 2 s 30 (leb→le header_bytes (length s) ok.q1) in
    planar_images.refused_with_4 s ok.q1 ok.q2 ok.q3 (omega (arith, none, bytes)) (omega (arith, none, bytes))

-- ---- what is adjacent, and near

adjacent_below : (s : List ℕ) → Accepted s → (u v : ℕ) → T (adjacent s u v) → (u < handset_count s) × (v < handset_count s)
unfolding adjacent
adjacent_below s ok u v t =
    let (k, h, joined) = any_take (edge_count s) (joins (edge_records s) u v) t in
    let below = ends_below s ok k h in
    ⊎_elim
    (λ e. (omega (arith, below.0, e.0), omega (arith, below.1, e.1)))
    (λ e. (omega (arith, below.1, e.1), omega (arith, below.0, e.0)))
    (joins_cases (edge_records s) u v k joined)

-- a second test counts only where the first passes
and_where : (a b c : Bool) → (T a → b ≡ c) → (a && b) ≡ (a && c)
and_where true b c f = f tt
and_where false b c f = refl

-- ---- the image of an older image's numbers

module _ (s : List ℕ) (x : Parameters) (coords : List ℤ) (ends : List ℕ) (ok : PlanarAccepted s) (small : Below 256 s)
    (held : PlanarHolds s x coords ends) where
  abbrev image : List ℕ
  image = image_of x coords ends

  asked : Asked x coords ends
  asked =
      asked_by (header_of s) x coords ends held.parameters ok.q3 (and_right (leb (header_of s).limit planar_limit_most) _ ok.q5) held.coordinate_count_lem
      held.end_count_lem

  within : (v i : ℕ) → v < x.n → i < coordinate_count → T (within_limits (get_or coords (coordinate_count * v + i) (pos 0)))
  within v i h l =
      let count : handset_count s ≡ x.n = ap (λ (y : Parameters). y.n) held.parameters in
      ⊎_elim
      (λ e. subst (λ (z : ℤ). T (within_limits z)) (sym (ap (λ (j : ℕ). get_or coords (coordinate_count * v + j) (pos 0)) e ∙ held.zeros v h)) tt)
      (λ o.
      ⊎_elim
      (λ planar. subst (λ (z : ℤ). T (within_limits z)) (sym (held.coordinates v i h planar)) (ok.q7 v i (omega arith) planar))
      (λ past. absurd (omega arith)) o)
      (three i 2)

  signed : Signed32 coords
  signed =
      every_entry (λ z. mag z < 2147483648) coords (pos 0) (omega arith)
      (λ j h.
      let v : ℕ = j / coordinate_count in
      let i : ℕ = j % coordinate_count in
      let place : coordinate_count * v + i ≡ j = omega arith in
      subst (λ (k : ℕ). mag (get_or coords k (pos 0)) < 2147483648) place
      (within_small (get_or coords (coordinate_count * v + i) (pos 0)) (within v i (omega (arith, held.coordinate_count_lem)) (omega arith))))

  kept_limits : (v : ℕ) → v < x.n → T (not (out_of_limits (handset_record (handset_table coords) v)))
  kept_limits v h =
      let far : ℕ → Bool = λ i. not (within_limits (get_or coords (coordinate_count * v + i) (pos 0))) in
      subst (λ (b : Bool). T (not b)) (sym (record_numbers.limits coords signed v (omega (arith, held.coordinate_count_lem))))
      (none_any coordinate_count far (λ i l. not_T (far i) (λ t. T_not (within_limits (get_or coords (coordinate_count * v + i) (pos 0))) t (within v i h l))))

  table : EndTable (edge_records s) x.m ends
  table = record { end_count_lem = held.end_count_lem; first_ends = held.first_ends; second_ends = held.second_ends }

  holds : Holds image x coords ends
  holds = image_holds x coords ends signed (ends_low (edge_records s) x.m ends (edges_below s small) table) asked

  parameters_are : parameters_of (header_of image) ≡ parameters_of (header_of s)
  parameters_are = holds.parameters ∙ sym held.parameters

  -- all edge records stand in the older image
  edges_long : length (edge_records s) ≡ edge_bytes * x.m
  unfolding edge_records
  edges_long =
      let a : ℕ = (header_of s).handsets in
      let b : ℕ = (header_of s).edges in
      let c : ℕ = a + planar_width * (header_of s).n in
      let d : ℕ = b + edge_bytes * (header_of s).m in
      let count : edge_count s ≡ x.m = ap (λ (y : Parameters). y.m) held.parameters in
      let room : d ≤ length s =
      leb→le d (length s)
      (and_left (leb d (length s)) _ (and_right (leb c (length s)) _ (and_right (leb header_bytes b) _ (and_right (leb header_bytes a) _ ok.q6)))) in
      simp (length-take, length-drop) (omega arith)

  edges_are : edge_records image ≡ edge_records s
  edges_are = edges_read x coords ends asked ∙ sym (ends_are (edge_records s) x.m ends (edges_below s small) table edges_long)

  image_accepted : Accepted image
  image_accepted = record {
    header = header_accepted x coords ends asked;
    q7 = λ v h. subst (λ (records : List ℕ). T (not (out_of_limits (handset_record records v)))) (sym (handsets_read x coords ends asked))
        (kept_limits v (subst (λ (y : Parameters). v < y.n) holds.parameters h));
    q8 = λ k h. subst T (sym (λ i. not (bad_end (edges_are i) (parameters_are i).n k))) (ok.q8 k (fewer k h));
    q9 = λ k h. subst T (sym (λ i. not (is_loop (edges_are i) k))) (ok.q9 k (fewer k h));
    q10 = λ k h. subst T (sym (λ i. not (repeats_earlier (edges_are i) k))) (ok.q10 k (fewer k h));
  }
    where
      fewer : (k : ℕ) → k < edge_count image → k < edge_count s
      fewer k h = subst (λ (y : Parameters). k < y.m) parameters_are h

  -- ---- its network

  coordinate_is : (v i : ℕ) → v < x.n → i < 2 → signed_coordinate image v i ≡ planar_coordinate s v i
  coordinate_is v i h l = holds.coordinates v i h (omega arith) ∙ held.coordinates v i h l

  distance_is : (u v : ℕ) → u < x.n → v < x.n → pos (distance_squared image u v) ≡ planar_apart (planar_coordinate s u) (planar_coordinate s v)
  distance_is u v hu hv =
      let count : x.n ≡ handset_count image = sym (ap (λ (y : Parameters). y.n) holds.parameters) in
      planar_distance.zero_z image (image_below x coords ends)
      (λ w h. let l : w < x.n = omega arith in holds.coordinates w 2 l (omega arith) ∙ held.zeros w l) u v (omega arith) (omega arith)
      ∙ (λ i.
      square (coordinate_is u 0 hu (omega arith) i -ℤ coordinate_is v 0 hv (omega arith) i)
      +ℤ square (coordinate_is u 1 hu (omega arith) i -ℤ coordinate_is v 1 hv (omega arith) i))

  adjacent_is : (u v : ℕ) → adjacent image u v ≡ adjacent s u v
  unfolding adjacent
  adjacent_is u v = λ i. any (parameters_are i).m (joins (edges_are i) u v)

  close_is : (u v : ℕ) → T (adjacent image u v)
      → leb (distance_squared image u v) (limit_of image) ≡ le_z (planar_apart (planar_coordinate s u) (planar_coordinate s v)) (pos (limit_of s))
  close_is u v t =
      let below = adjacent_below image image_accepted u v t in
      let count : handset_count image ≡ x.n = ap (λ (y : Parameters). y.n) holds.parameters in
      ap₂ le_z (distance_is u v (omega (arith, below.0)) (omega (arith, below.1))) (ap (λ (y : Parameters). pos y.limit) parameters_are)

  near_is : (u v : ℕ) → neighbour image u v ≡ planar_near s u v
  unfolding planar_near
  near_is u v =
      neighbour_is image u v
      ∙ ap (λ (b : Bool). eqb u v || b)
      (and_where (adjacent image u v) _ _ (close_is u v)
      ∙ ap (λ (a : Bool). a && le_z (planar_apart (planar_coordinate s u) (planar_coordinate s v)) (pos (limit_of s))) (adjacent_is u v))

  network_is : network image ≡ planar_network s
  unfolding mu
  network_is = λ i. record {
    n = (parameters_are i).n;
    neighbour = λ u v. near_is u v i;
    p = (parameters_are i).p;
    q = (parameters_are i).q;
    mu = core_size (parameters_are i).mu;
  }

  -- from a spot whose z is 0
  spot_is : (p : List ℤ) → get_or p 2 (pos 0) ≡ pos 0 → (v : ℕ) → v < x.n
      → signed_distance_to image p v ≡ planar_apart (λ i. get_or p i (pos 0)) (planar_coordinate s v)
  unfolding signed_distance_to
  spot_is p ground v h =
      planar_distance.same_z (λ i. get_or p i (pos 0)) (signed_coordinate image v) (ground ∙ sym (holds.coordinates v 2 h (omega arith) ∙ held.zeros v h))
      ∙ (λ i. square (get_or p 0 (pos 0) -ℤ coordinate_is v 0 h (omega arith) i) +ℤ square (get_or p 1 (pos 0) -ℤ coordinate_is v 1 h (omega arith) i))

  kept : Kept s image
  kept = record {
    accepted = image_accepted;
    same_network = network_is;
    same_edges = edges_are;
    distances = λ u v hu hv. distance_is u v (handset u hu) (handset v hv);
    spots = λ p ground v h. spot_is p ground v (handset v h);
  }
    where
      handset : (v : ℕ) → v < handset_count s → v < x.n
      handset v h = subst (λ (y : Parameters). v < y.n) held.parameters h

  anew : (l : List ℕ) (r : Result ℕ Refusal) (l' : List ℕ) → (header_for x).len ≤ length l → WriteCall x coords ends l r l'
      → (r ≡ Ok (header_for x).len) × Kept s (take (header_for x).len l')
  anew l r l' room call =
      let w = written x coords ends asked (opened image image_accepted) l r l' room call in
      (w.0, subst (Kept s) (sym w.1) kept)

-- ---- the tables of an older image

-- x and y of a handset, and 0 for its z
abbrev with_zero : List ℕ → ℕ → ℕ → ℤ
with_zero s v zero = planar_coordinate s v 0
with_zero s v (suc zero) = planar_coordinate s v 1
with_zero s v (suc (suc i)) = pos 0

its_tables : (s : List ℕ) → PlanarAccepted s → Below 256 s
    → (coords : List ℤ) × (ends : List ℕ) × Signed32 coords × Below 65536 ends × PlanarHolds s (parameters_of (header_of s)) coords ends
its_tables s ok small =
    let x : Parameters = parameters_of (header_of s) in
    let coords : List ℤ = coordinates_by x.n (with_zero s) in
    let ends : List ℕ = ends_in (edge_records s) x.m in
    let table : EndTable (edge_records s) x.m ends = ends_in_lem (edge_records s) x.m in
    let held : PlanarHolds s x coords ends = record {
      parameters = refl;
      coordinate_count_lem = coordinates_length x.n (with_zero s);
      end_count_lem = table.end_count_lem;
      coordinates = λ v i h l. coordinate_at x.n (with_zero s) v i h (omega arith) ∙ planar v i l;
      zeros = λ v h. coordinate_at x.n (with_zero s) v 2 h (omega arith);
      first_ends = table.first_ends;
      second_ends = table.second_ends;
    } in
    (coords, ends, signed s x coords ends ok small held, ends_low (edge_records s) x.m ends (edges_below s small) table, held)
  where
    planar : (v i : ℕ) → i < 2 → with_zero s v i ≡ planar_coordinate s v i
    planar v zero l = refl
    planar v (suc zero) l = refl
    planar v (suc (suc i)) l = absurd (omega arith)

pub taken_over : TakenOver
taken_over = record {
  refused = refused;
  written = λ s x coords ends l r l' ok small held room call. anew s x coords ends ok small held l r l' room call;
  its_tables = its_tables;
}
