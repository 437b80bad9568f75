-- Numbers in a list of bytes, the lowest byte first.
--
--     le w s at          the number in the w bytes from a place on
--     number w s at      the same, and 0 where fewer than w bytes stand there: what a read gives
--     le_bytes w v        the w bytes of the number v; what they do not hold of it is left out
--     stored w s at v    s with the w bytes of v from a place on, or as it is where fewer stand there: what a write leaves
--     table_bytes w l     the numbers of a table, w bytes each, one after the other
--     Below b l          every number of l is less than b, which is above 0
--     ReadBack           the theorem, over the width: a number that was written is read back, and one that was read and is written to its place changes
--                        nothing (proved in proofs/Writing)
use Rattle.std.specs.Prelude.{ℕ, zero, suc, ◌+◌, ◌*◌, ◌/◌, ◌%◌, ◌^◌, ◌≤◌, ◌<◌, ◌≡◌, cond, List, [], ◌∷◌, ◌++◌, leb, length, get_or}
use Rattle.std.proofs.lemmas.List.Edits.{sets}

abbrev pub le : ℕ → List ℕ → ℕ → ℕ
le zero s at = 0
le (suc w) s at = get_or s at 0 + 256 * le w s (at + 1)

unfoldable pub number : ℕ → List ℕ → ℕ → ℕ
number w s at = cond (leb (at + w) (length s)) (le w s at) 0

unfoldable pub le_bytes : ℕ → ℕ → List ℕ
le_bytes zero v = []
le_bytes (suc w) v = v % 256 ∷ le_bytes w (v / 256)

unfoldable pub stored : ℕ → List ℕ → ℕ → ℕ → List ℕ
unfolding le_bytes
stored w s at v = cond (leb (at + w) (length s)) (sets s at (le_bytes w v)) s

unfoldable pub table_bytes : ℕ → List ℕ → List ℕ
unfolding le_bytes
table_bytes w [] = []
table_bytes w (v ∷ l) = le_bytes w v ++ table_bytes w l

abbrev pub Below : ℕ → List ℕ → Type 0
Below b l = (i : ℕ) → get_or l i 0 < b

pub record ReadBack : Type 0 where
  pub written_read : (w v : ℕ) (s : List ℕ) (at : ℕ) → v < 256 ^ w → at + w ≤ length s → number w (stored w s at v) at ≡ v
  pub read_written : (w : ℕ) (s : List ℕ) (at : ℕ) → Below 256 s → stored w s at (number w s at) ≡ s
