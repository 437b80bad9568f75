-- These definitions only serve the proofs; a caller need not believe them.
-- What the functions inside the crate make of a row, for their contracts.
--
--     RowAdded rows k ..     row k added to a set, and those of it that were there already to another, word by word
--     overlaps a b           some word of a and the word of b in its place have a bit in common
use Rattle.std.specs.Prelude.{ℕ, ◌+◌, ◌*◌, ◌<◌, ◌≡◌, Bool, not, List, eqb, length, get_or}
use Rattle.std.specs.List.{list_any, zip}
use Rattle.std.specs.Int.Bits.{bit_and, bit_or}

-- of the sets once and twice, and the two sets after the call
pub record RowAdded (rows : List ℕ) (k : ℕ) (once twice once' twice' : List ℕ) : Type 0 where
  pub once_size : length once' ≡ 8
  pub twice_size : length twice' ≡ 8
  pub once_words : (i : ℕ) → i < 8 → get_or once' i 0 ≡ bit_or (get_or once i 0) (get_or rows (k * 8 + i) 0)
  pub twice_words : (i : ℕ) → i < 8 → get_or twice' i 0 ≡ bit_or (get_or twice i 0) (bit_and (get_or once i 0) (get_or rows (k * 8 + i) 0))

abbrev pub overlaps : List ℕ → List ℕ → Bool
overlaps a b = list_any (λ p. not (eqb (bit_and p.0 p.1) 0)) (zip a b)
