-- The near test of two handsets (paper 01, "Near, alike, core"; paper 02, orders 6 and 7): near with the squared distance, or not near.
--
--     proximity_of a b limit    the test by the records of two handsets: near where their squared distance is at most the limit
--     handsets_in records       how many whole handset records there are
--     ends_proximity records u v limit
--                              the test of two handsets by their numbers, from the handset records; not near where a record is missing
--     proximity s u v          the test of two handsets of an image: a handset is near itself at 0, those that are adjacent are tested by their records
--                              and G, and no others are near
--     is_near x                 the test answers near
--     neighbour s u v          u and v are neighbours: their test answers near (the paper: near)
--     proximity_answer x        the answer's values: 1 and the squared distance, or 0 twice where it is not near
--     OneAnswer                the theorem: the values leave nothing of the answer free (proved in proofs/Near, as is NearTest)
--     NearTest                 the theorems: what the test answers
use Rattle.std.specs.Prelude.{◌≡◌, ℕ, ◌/◌, Bool, true, false, cond, ◌&&◌, List, [], ◌∷◌, length, ◌==◌, nat_le, nat_lt, None, Option, Some}
use Rattle.fields.specs.Fields.{handset_bytes}
use Rattle.image.specs.Image.{limit_of, handset_records, handset_record, distance_between, distance_squared, adjacent}
use Rattle.image.specs.Answers.{Answer, given, Injective}

unfoldable pub proximity_of : List ℕ → List ℕ → ℕ → Option ℕ
unfolding distance_between
proximity_of a b limit = cond (nat_le (distance_between a b) limit) (Some (distance_between a b)) None

abbrev pub handsets_in : List ℕ → ℕ
handsets_in records = length records / handset_bytes

unfoldable pub ends_proximity : List ℕ → ℕ → ℕ → ℕ → Option ℕ
unfolding proximity_of handset_record
ends_proximity records u v limit =
    cond (nat_lt u (handsets_in records) && nat_lt v (handsets_in records)) (proximity_of (handset_record records u) (handset_record records v) limit) None

unfoldable pub proximity : List ℕ → ℕ → ℕ → Option ℕ
unfolding proximity_of adjacent handset_record handset_records
proximity s u v =
    cond (u == v) (Some 0)
    (cond (adjacent s u v) (proximity_of (handset_record (handset_records s) u) (handset_record (handset_records s) v) (limit_of s))
    None)

unfoldable pub is_near : Option ℕ → Bool
is_near (Some d) = true
is_near None = false

unfoldable pub neighbour : List ℕ → ℕ → ℕ → Bool
unfolding is_near proximity
neighbour s u v = is_near (proximity s u v)

abbrev pub proximity_answer : Option ℕ → Answer
proximity_answer (Some d) = given (1 ∷ d ∷ [])
proximity_answer None = given (0 ∷ 0 ∷ [])

pub record OneAnswer : Type 0 where
  pub proximity : Injective proximity_answer

pub record NearTest : Type 0 where
  -- near with the squared distance of the two
  pub distance : (s : List ℕ) (u v d : ℕ) → proximity s u v ≡ Some d → d ≡ distance_squared s u v
  -- a handset is near itself at 0, by its number and by its record
  pub itself : (s : List ℕ) (u : ℕ) → proximity s u u ≡ Some 0
  pub same_record : (a : List ℕ) (limit : ℕ) → proximity_of a a limit ≡ Some 0
  -- either way round
  pub symmetric : (s : List ℕ) (u v : ℕ) → proximity s u v ≡ proximity s v u
