-- Images until paper 02, order 7: records of x and y. A site in that format is written again with z = 0. An image that was accepted until then is refused. Its
-- numbers, with a z of 0 for each handset, are not refused by the writer, and the new image is accepted and has the network that the definitions gave the
-- older one, so the same communities and roles; its edges too, and all its distances. Proved in proofs/TakenOver as `taken_over`.
--
--     planar_count, planar_width      how many coordinates a handset had, and how many bytes its record
--     planar_limit_most            the most that G might be
--     planar_coordinate s v i        coordinate i of handset v of an older image: x is 0, y is 1
--     PlanarAccepted s              questions 1 to 10 got a yes, as paper 01 has them
--     planar_near s u v              paper 01's near: u is v, or they are adjacent and dx² + dy² ≤ G
--     planar_network s               the network of an older image
--     PlanarHolds s x coords ends   the older image s has the numbers of x in its header, and x, y and 0 of each of its handsets stand in the first table, the
--                                   ends of its edges in the second
--     Kept s t                      what the image t, written again, keeps of the older image s
--     TakenOver                     the theorem:
--       refused                     an older image that was accepted is refused with 4
--       written                     its numbers are written where the buffer is long enough, and what is written keeps the site
--       its_tables                  every older image that was accepted has its tables
use Rattle.std.specs.Prelude.{ℕ, ◌+◌, ◌*◌, ◌≤◌, ◌<◌, ◌≡◌, Bool, ◌&&◌, ◌||◌, not, List, T, leb, eqb, ℤ, pos, length, get_or, take, Err, Ok, Result}
use Rattle.std.specs.Int.Signed.{le_z}
use Rattle.little_endian.specs.Bytes.{number, Below}
use Rattle.fields.specs.Fields.{coordinate_bytes, coordinate_count, edge_bytes, end_count, header_bytes}
use Rattle.limits.specs.Limits.{counts_fit, thresholds_fit}
use Rattle.image.specs.Image.{header_of, handset_count, edge_count, limit_of, epsilon_num, epsilon_den, mu, edge_records, end_a, end_b, distance_squared, adjacent}
use Rattle.image.specs.Questions.{bad_end, is_loop, repeats_earlier, open_of, Accepted}
use Rattle.image.specs.Signed.{signed32, within_limits}
use Rattle.image.specs.Answers.{refusal}
use Rattle.community.specs.Network.{Network}
use Rattle.community.specs.Site.{network}
use Rattle.points.specs.Points.{signed_distance_to}
use Rattle.layout.specs.Layout.{header_for, Signed32}
use Rattle.layout.specs.declared.Parameters.{Parameters}
use Rattle.writer.specs.Holds.{parameters_of}
use Rattle.writer.specs.Writer.{WriteCall}
use Rattle.image.specs.declared.Refusal.{Refusal}
use Rattle.history.specs.Plane.{planar_apart}

abbrev pub planar_count : ℕ
planar_count = 2

abbrev pub planar_width : ℕ
planar_width = coordinate_bytes * planar_count

abbrev pub planar_limit_most : ℕ
planar_limit_most = 8000000000000

unfoldable pub planar_coordinate : List ℕ → ℕ → ℕ → ℤ
unfolding signed32 number header_of
planar_coordinate s v i = signed32 (number coordinate_bytes s ((header_of s).handsets + planar_width * v + coordinate_bytes * i))

-- bytes 30 and 31 were zero; the other limits of question 5 are those of today
pub record PlanarAccepted (s : List ℕ) : Type 0 where
  pub q1 : T (leb header_bytes (length s))
  pub q2 : T (eqb (header_of s).len (length s))
  pub q3 : T (counts_fit (header_of s).n (header_of s).m)
  pub q4 : T (eqb (header_of s).width 0)
  pub q5 : T (leb (header_of s).limit planar_limit_most && thresholds_fit (header_of s).limit (header_of s).p (header_of s).q (header_of s).mu)
  pub q6 : T (let a = (header_of s).handsets in let b = (header_of s).edges in let c = a + planar_width * (header_of s).n in let d = b + edge_bytes * (header_of s).m in
      leb header_bytes a && (leb header_bytes b && (leb c (length s) && (leb d (length s) && (leb c b || leb d a)))))
  pub q7 : (v i : ℕ) → v < handset_count s → i < planar_count → T (within_limits (planar_coordinate s v i))
  pub q8 : (k : ℕ) → k < edge_count s → T (not (bad_end (edge_records s) (handset_count s) k))
  pub q9 : (k : ℕ) → k < edge_count s → T (not (is_loop (edge_records s) k))
  pub q10 : (k : ℕ) → k < edge_count s → T (not (repeats_earlier (edge_records s) k))

unfoldable pub planar_near : List ℕ → ℕ → ℕ → Bool
unfolding adjacent planar_coordinate
planar_near s u v = eqb u v || (adjacent s u v && le_z (planar_apart (planar_coordinate s u) (planar_coordinate s v)) (pos (limit_of s)))

abbrev pub planar_network : List ℕ → Network
planar_network s = record { n = handset_count s; neighbour = planar_near s; p = epsilon_num s; q = epsilon_den s; mu = mu s }

pub record PlanarHolds (s : List ℕ) (x : Parameters) (coords : List ℤ) (ends : List ℕ) : Type 0 where
  pub parameters : parameters_of (header_of s) ≡ x
  pub coordinate_count_lem : length coords ≡ coordinate_count * x.n
  pub end_count_lem : length ends ≡ end_count * x.m
  pub coordinates : (v i : ℕ) → v < x.n → i < planar_count → get_or coords (coordinate_count * v + i) (pos 0) ≡ planar_coordinate s v i
  pub zeros : (v : ℕ) → v < x.n → get_or coords (coordinate_count * v + planar_count) (pos 0) ≡ pos 0
  pub first_ends : (k : ℕ) → k < x.m → end_a (edge_records s) k ≡ get_or ends (end_count * k) 0
  pub second_ends : (k : ℕ) → k < x.m → end_b (edge_records s) k ≡ get_or ends (end_count * k + 1) 0

-- the communities and roles are those of the network, the tallies and scores those of the edges; the reaches go by the distances of two handsets, and the nearest
-- group by those from a spot p, here one with z = 0
pub record Kept (s t : List ℕ) : Type 0 where
  pub accepted : Accepted t
  pub same_network : network t ≡ planar_network s
  pub same_edges : edge_records t ≡ edge_records s
  pub distances : (u v : ℕ) → u < handset_count s → v < handset_count s
      → pos (distance_squared t u v) ≡ planar_apart (planar_coordinate s u) (planar_coordinate s v)
  pub spots : (p : List ℤ) → get_or p 2 (pos 0) ≡ pos 0 → (v : ℕ) → v < handset_count s
      → signed_distance_to t p v ≡ planar_apart (λ i. get_or p i (pos 0)) (planar_coordinate s v)

-- x are the parameters, coords and ends the two tables and l the buffer as lent; r is the answer, and l' the buffer after the call
pub record TakenOver : Type 0 where
  pub refused : (s : List ℕ) → PlanarAccepted s → open_of s ≡ Err (refusal 4)
  pub written : (s : List ℕ) (x : Parameters) (coords : List ℤ) (ends l : List ℕ) (r : Result ℕ Refusal) (l' : List ℕ) → PlanarAccepted s → Below 256 s
      → PlanarHolds s x coords ends → (header_for x).len ≤ length l → WriteCall x coords ends l r l'
      → (r ≡ Ok (header_for x).len) × Kept s (take (header_for x).len l')
  pub its_tables : (s : List ℕ) → PlanarAccepted s → Below 256 s
      → (coords : List ℤ) × (ends : List ℕ) × Signed32 coords × Below 65536 ends × PlanarHolds s (parameters_of (header_of s)) coords ends
