-- These definitions only serve the proofs; a caller need not believe them.
-- What the functions inside the crate ensure of sets of eight words and of tables of such rows.
--
--     FirstAt a b i                  i is the first number in both sets
--     FirstCommon a b r              r is the first number in both sets, or None where there is none
--     Joined table u s t             t is the set s with row u added
--     JoinedAll table w b s t        t is the set s with the rows b + k added, for each bit k of the word w
--     Stored rows k s after          the table `after` has the set s as row k; the words of its other rows are those of rows
--     Collected table left u ..      the closure of u over the numbers left, and what is left after it
--     Surveyed g table cores         the two are the similarity relation and the set of cores of the network
use Rattle.std.specs.Prelude.{ℕ, ◌+◌, ◌-◌, ◌/◌, ◌≤◌, ◌<◌, min, max, ◌≡◌, Bool, List, Option, Some, None, T, length, get_or}
use Rattle.sets.specs.Bits.{bit_of, bit_at, cell}
use Rattle.sets.specs.Rows.{SetOf, Table}
use Rattle.community.specs.Network.{Network}
use Rattle.community.specs.ForProofs.{Sound}
use Rattle.search.specs.Communities.{similar_in, core_in}

pub record FirstAt (a b : List ℕ) (i : ℕ) : Type 0 where
  pub within : i < 512
  pub before : (k : ℕ) → k < i → min (bit_at a k) (bit_at b k) ≡ 0
  pub found : min (bit_at a i) (bit_at b i) ≡ 1

abbrev pub FirstCommon : List ℕ → List ℕ → Option ℕ → Type 0
FirstCommon a b (Some i) = FirstAt a b i
FirstCommon a b None = (k : ℕ) → k < 512 → min (bit_at a k) (bit_at b k) ≡ 0

pub record Joined (table : List ℕ) (u : ℕ) (s t : List ℕ) : Type 0 where
  pub size : length t ≡ 8
  pub bits : (v : ℕ) → v < 512 → bit_at t v ≡ max (bit_at s v) (cell table u v)

-- the set t has s and those rows, and nothing that a test which holds of all these would not hold of
pub record JoinedAll (table : List ℕ) (w base : ℕ) (s t : List ℕ) : Type 0 where
  pub size : length t ≡ 8
  pub keeps : (v : ℕ) → v < 512 → bit_at s v ≡ 1 → bit_at t v ≡ 1
  pub rows : (k v : ℕ) → k < 64 → v < 512 → bit_of w k ≡ 1 → cell table (base + k) v ≡ 1 → bit_at t v ≡ 1
  pub least : (f : ℕ → Bool) → ((v : ℕ) → v < 512 → bit_at s v ≡ 1 → T (f v))
      → ((k v : ℕ) → k < 64 → v < 512 → bit_of w k ≡ 1 → cell table (base + k) v ≡ 1 → T (f v))
      → (v : ℕ) → v < 512 → bit_at t v ≡ 1 → T (f v)

pub record Stored (rows : List ℕ) (k : ℕ) (s after : List ℕ) : Type 0 where
  pub size : length after ≡ length rows
  pub row : (v : ℕ) → v < 512 → cell after k v ≡ bit_at s v
  pub others : (i : ℕ) → (i / 8 ≡ k → ⊥) → get_or after i 0 ≡ get_or rows i 0

-- The set has row u, whatever the table relates to a number of both the set and left, and nothing that a test which holds of row u and passes along
-- such steps would not hold of. left' is left without u and the set.
pub record Collected (table left : List ℕ) (u : ℕ) (left' set : List ℕ) : Type 0 where
  pub size : length set ≡ 8
  pub start : (v : ℕ) → v < 512 → cell table u v ≡ 1 → bit_at set v ≡ 1
  pub closed : (x v : ℕ) → x < 512 → v < 512 → bit_at set x ≡ 1 → bit_at left x ≡ 1 → cell table x v ≡ 1 → bit_at set v ≡ 1
  pub least : (f : ℕ → Bool) → ((v : ℕ) → v < 512 → cell table u v ≡ 1 → T (f v))
      → ((x v : ℕ) → x < 512 → v < 512 → T (f x) → bit_at left x ≡ 1 → cell table x v ≡ 1 → T (f v))
      → (v : ℕ) → v < 512 → bit_at set v ≡ 1 → T (f v)
  pub gone : bit_at left' u ≡ 0
  pub rest : (v : ℕ) → v < 512 → (v ≡ u → ⊥) → bit_at left' v ≡ min (bit_at left v) (1 - bit_at set v)

pub record Surveyed (g : Network) (table cores : List ℕ) : Type 0 where
  pub sound : Sound g
  pub most : g.n ≤ 512
  pub similar_table : Table table (similar_in g)
  pub core_set : SetOf cores (core_in g)
