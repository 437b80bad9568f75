-- What words of bits hold.
--
--     table_words           how many words a table of 512 rows has, eight to a row
--     SetOf ws f           eight words hold the v below 512 that pass f
--     Table rows f         rows of eight words hold the relation f between numbers below 512
--     Counted rows sizes   the sizes are those of the rows
use Rattle.std.specs.Prelude.{ℕ, ◌<◌, ◌≡◌, Bool, List, length, get_or}
use Rattle.sets.specs.Below.{bit, sum}
use Rattle.sets.specs.Bits.{bit_at, cell}

-- a table of 512 rows, each of eight words
abbrev pub table_words : ℕ
table_words = 4096

pub record SetOf (ws : List ℕ) (f : ℕ → Bool) : Type 0 where
  pub size : length ws ≡ 8
  pub bits : (v : ℕ) → v < 512 → bit_at ws v ≡ bit (f v)

pub record Table (ws : List ℕ) (f : ℕ → ℕ → Bool) : Type 0 where
  pub bits : (u v : ℕ) → u < 512 → v < 512 → cell ws u v ≡ bit (f u v)

pub record Counted (ws sizes : List ℕ) : Type 0 where
  pub rows : (u : ℕ) → u < 512 → get_or sizes u 0 ≡ sum 512 (λ v. cell ws u v)
