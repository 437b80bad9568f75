-- What the search for communities leaves in a table of rows of bits: the closures of the cores, one after the other, each from the smallest core left.
-- With the similarity relation of a site and its cores these are the site's communities (proofs/Communities).
--
--     steps rows left u v           one step of a search: u is one of the cores left, and v is in row u
--     closure rows left u v         a chain of one or more steps leads from u to v
--     found rows left v             a search finds v: it is in the closure of the smallest core left
--     left_after rows cores k v      v is a core that none of the first k searches has begun at or found
--     found_by rows cores k v        search k finds v
--     Searched rows cores after r   after r searches no core is left; row k of the table after them is what search k found, and the words past row r are as before
--     Sized rows cores              the tables have 512 rows of eight words, and eight words
--     SearchCall ..                 the outcome of a call: tables of another size are left alone, and the count is 0
--     OneSearch                     the theorem: two outcomes on the same tables, in words of 64 bits, are the same (proved in proofs/Unique)
use Rattle.std.specs.Prelude.{ℕ, zero, suc, ◌*◌, ◌≤◌, ◌<◌, ◌≡◌, Bool, ◌&&◌, ◌||◌, not, List, T, eqb, length, get_or}
use Rattle.sets.specs.Below.{any, find, bit}
use Rattle.sets.specs.Bits.{bit_at, Words, cell}
use Rattle.sets.specs.Rows.{table_words}
use Rattle.community.specs.Network.{chain}

unfoldable pub steps : List ℕ → (ℕ → Bool) → ℕ → ℕ → Bool
steps rows left u v = left u && eqb (cell rows u v) 1

unfoldable pub closure : List ℕ → (ℕ → Bool) → ℕ → ℕ → Bool
unfolding steps
closure rows left u v = chain (steps rows left) 512 u v

abbrev pub found : List ℕ → (ℕ → Bool) → ℕ → Bool
found rows left v = closure rows left (find 512 left) v

unfoldable pub left_after : List ℕ → List ℕ → ℕ → ℕ → Bool
unfolding closure
left_after rows cores zero v = eqb (bit_at cores v) 1
left_after rows cores (suc k) v =
    left_after rows cores k v && not (eqb (find 512 (left_after rows cores k)) v || found rows (left_after rows cores k) v)

unfoldable pub found_by : List ℕ → List ℕ → ℕ → ℕ → Bool
unfolding closure left_after
found_by rows cores k v = found rows (left_after rows cores k) v

pub record Searched (rows cores after : List ℕ) (r : ℕ) : Type 0 where
  pub some_left : (k : ℕ) → k < r → T (any 512 (left_after rows cores k))
  pub none_left : T (not (any 512 (left_after rows cores r)))
  pub size : length after ≡ length rows
  pub row : (k v : ℕ) → k < r → v < 512 → cell after k v ≡ bit (found_by rows cores k v)
  pub kept : (i : ℕ) → 8 * r ≤ i → get_or after i 0 ≡ get_or rows i 0

abbrev pub Sized : List ℕ → List ℕ → Type 0
Sized rows cores = (length rows ≡ table_words) × (length cores ≡ 8)

pub record SearchCall (rows cores after : List ℕ) (r : ℕ) : Type 0 where
  pub searched : Sized rows cores → Searched rows cores after r
  pub left_alone : (Sized rows cores → ⊥) → (after ≡ rows) × (r ≡ 0)

pub record OneSearch : Type 0 where
  pub same : (rows cores after after' : List ℕ) (r r' : ℕ) → Words after → Words after' → SearchCall rows cores after r → SearchCall rows cores after' r'
      → (after ≡ after') × (r ≡ r')
