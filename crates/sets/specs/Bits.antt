-- Bits of 64-bit words, as numbers 0 and 1.
--
--     bit_of w k          bit k of the word w
--     bit_at ws i         bit i of a list of words, 64 to a word: a set of numbers
--     Words ws           each word fits 64 bits
--     cell ws u v        bit v of row u of a table of rows of eight words: a relation between numbers below 512
--     with_bit ws i       the words with bit i set; unchanged where they have no bit i
--     without_bit ws i    the words with bit i cleared; unchanged where they have no bit i
--     ones_of w          the numbers of the set bits of the word w, ascending
--
-- The laws are in proofs/Bits.
use Rattle.std.specs.Prelude.{ℕ, ◌+◌, ◌*◌, ◌/◌, ◌%◌, ◌^◌, ◌<◌, List, eqb, get_or, set}
use Rattle.std.specs.Int.Bits.{bit_and, bit_or, bit_xor}
use Rattle.sets.specs.Below.{select}

unfoldable pub bit_of : ℕ → ℕ → ℕ
bit_of w k = w / 2 ^ k % 2

unfoldable pub bit_at : List ℕ → ℕ → ℕ
unfolding bit_of
bit_at ws i = bit_of (get_or ws (i / 64) 0) (i % 64)

abbrev pub Words : List ℕ → Type 0
Words ws = (i : ℕ) → get_or ws i 0 < 2 ^ 64

abbrev pub cell : List ℕ → ℕ → ℕ → ℕ
cell ws u v = bit_at ws (u * 512 + v)

unfoldable pub with_bit : List ℕ → ℕ → List ℕ
with_bit ws i = set ws (i / 64) (bit_or (get_or ws (i / 64) 0) (2 ^ (i % 64)))

unfoldable pub without_bit : List ℕ → ℕ → List ℕ
without_bit ws i = set ws (i / 64) (bit_xor (get_or ws (i / 64) 0) (bit_and (get_or ws (i / 64) 0) (2 ^ (i % 64))))

unfoldable pub ones_of : ℕ → List ℕ
unfolding select
ones_of w = select 64 (λ k. eqb (bit_of w k) 1)
