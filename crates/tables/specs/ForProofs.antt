-- These definitions only serve the proofs; a caller need not believe them.
-- What the functions inside the crate work out of a word, for their contracts.
--
--     word_members base w     base + k for each set bit k of the word w, ascending
use Rattle.std.specs.Prelude.{ℕ, ◌+◌, List, map}
use Rattle.sets.specs.Bits.{ones_of}

abbrev pub word_members : ℕ → ℕ → List ℕ
word_members base w = map (λ (k : ℕ). base + k) (ones_of w)
