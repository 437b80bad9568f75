-- These definitions only serve the proofs; a caller need not believe them.
-- What the call's steps are lent and leave, for the contracts inside the crate.
--
--     wrapped q records v      how far handset v of the handset records is from a point by its raised coordinates, as 64 bits hold it
--     IsLeast far seen d       of the handsets below 512 that pass seen: one is d away, and none is nearer; where d is None, no handset passes
--     Closest far seen d ws    the least distance of these handsets is d, and the set ws has those that are d away
--     also seen v              one handset more
--     Takes far v ..           a step that measures handset v
--     in_word base w v          v is base + k for a set bit k of the word w
--     TakesWord far w base ..  a step that measures the handsets of a word
--     RowsFilled rows k        each of the first k rows has a member
--     PointHeld s h p          an accepted image with its header, and a point within the limits
use Rattle.std.specs.Prelude.{ℕ, ◌+◌, ◌-◌, ◌%◌, ◌^◌, ◌≤◌, ◌<◌, ◌≡◌, Bool, false, Option, Some, None, ◌&&◌, ◌||◌, List, T, eqb, leb, ltb, ℤ, length}
use Rattle.sets.specs.Below.{bit}
use Rattle.sets.specs.Bits.{bit_of, bit_at}
use Rattle.image.specs.Image.{header_of, handset_record}
use Rattle.image.specs.Questions.{Accepted}
use Rattle.image.specs.declared.Header.{Header}
use Rattle.rows.specs.Rows.{row_members}
use Rattle.points.specs.Points.{point_in_limits, distance_from}

abbrev pub wrapped : List ℕ → List ℕ → ℕ → ℕ
wrapped q records v = distance_from q (handset_record records v) % 2 ^ 64

pub record LeastIs (far : ℕ → ℕ) (seen : ℕ → Bool) (d : ℕ) : Type 0 where
  pub attained : (v : ℕ) × (v < 512) × T (seen v) × (far v ≡ d)
  pub none_nearer : (v : ℕ) → v < 512 → T (seen v) → d ≤ far v

abbrev pub IsLeast : (ℕ → ℕ) → (ℕ → Bool) → Option ℕ → Type 0
IsLeast far seen None = (v : ℕ) → v < 512 → seen v ≡ false
IsLeast far seen (Some d) = LeastIs far seen d

abbrev pub is_away : Option ℕ → ℕ → Bool
is_away None x = false
is_away (Some d) x = eqb x d

pub record Closest (far : ℕ → ℕ) (seen : ℕ → Bool) (least : Option ℕ) (ws : List ℕ) : Type 0 where
  pub size : length ws ≡ 8
  pub bits : (v : ℕ) → v < 512 → bit_at ws v ≡ bit (seen v && is_away least (far v))
  pub standing : IsLeast far seen least

abbrev pub also : (ℕ → Bool) → ℕ → ℕ → Bool
also seen v u = seen u || eqb u v

pub record Takes (far : ℕ → ℕ) (v : ℕ) (least : Option ℕ) (ws : List ℕ) (least' : Option ℕ) (ws' : List ℕ) : Type 0 where
  pub each : (seen : ℕ → Bool) → Closest far seen least ws → Closest far (also seen v) least' ws'

unfoldable pub in_word : ℕ → ℕ → ℕ → Bool
unfolding bit_of
in_word base w v = (leb base v && ltb v (base + 64)) && eqb (bit_of w (v - base)) 1

pub record TakesWord (far : ℕ → ℕ) (w base : ℕ) (least : Option ℕ) (ws : List ℕ) (least' : Option ℕ) (ws' : List ℕ) : Type 0 where
  pub each : (seen : ℕ → Bool) → Closest far seen least ws → Closest far (λ v. seen v || in_word base w v) least' ws'

pub record RowsFilled (rows : List ℕ) (k : ℕ) : Type 0 where
  pub few : k ≤ 512
  pub some : (j : ℕ) → j < k → 0 < length (row_members rows j)

pub record PointHeld (s : List ℕ) (h : Header) (p : List ℤ) : Type 0 where
  pub accepted : Accepted s
  pub header : h ≡ header_of s
  pub inside : T (point_in_limits p)
