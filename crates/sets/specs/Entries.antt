-- How often each number stands in a list.
--
--     multiplicity l v          how often v stands in a list
--     EntriesCounted l table    a table of 512 numbers: place v holds how often v stands among the first 65,535 entries of a list, so that each count fits 16
--                               bits; larger numbers have no place
--
-- The laws are in proofs/Entries.
use Rattle.std.specs.Prelude.{ℕ, ◌<◌, ◌≡◌, List, eqb, length, get_or, take}
use Rattle.sets.specs.Below.{count}

unfoldable pub multiplicity : List ℕ → ℕ → ℕ
unfolding count
multiplicity l v = count (length l) (λ i. eqb v (get_or l i 0))

pub record EntriesCounted (l table : List ℕ) : Type 0 where
  pub size : length table ≡ 512
  pub counts : (v : ℕ) → v < 512 → get_or table v 0 ≡ multiplicity (take 65535 l) v
