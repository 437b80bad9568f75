-- These definitions only serve the proofs; a caller need not believe them.
-- What the working tables hold, for the contracts inside the crate.
--
--     EndAdded ds v ds'              the degrees with one end at v added
--     ends_at records test v e        how many ends edge e has at v, where it passes the test; a loop has two
--     DegreesHold records test m ds  512 degrees: how many ends the first m edges that pass have at each handset
--     DegreesFit ds                  512 degrees, none above degree_most
--     degree_sum f ds                 the degrees of the handsets below 512, each as often as f has it, summed
--     bit_for base w i                the bit of the word w that place i of a table gets, where bit 0 belongs to the place base
--     WordMarked w base i ..         the words of handsets with bit i added for each set bit of the word w
--     RowMarked row i ..             the words with bit i added for each member of a set
--     WordsHold f ws                 512 words: bit i of handset v's is whether f i v
--     RowsSummed rows first n ds ..  a table of tallies with the degrees of the members of row k summed at 512 + k, for the n rows from first on
--     Raised ts base w ..            a table with 1 added at base + k for each set bit k of the word w
--     RaisedTo rs base w x ..        a table whose number at base + k, for each set bit k of the word w, is raised to x where it was less
--     inside_word ws records e        the word of the groups that edge e is inside
--     highest n f                    the largest of 0, f 0, .., f (n - 1)
--     EdgesCounted, EdgesRaised      the tables with the first m edges more
--     ends_in ..                      how many ends the first m edges have among the members of group k: two for an edge inside it, one for one that leaves it
--     Progress ..                    the counts and reaches of the groups below a bound, and 0 for the others; ends_in in the place of the edges that leave
--     InsideFits, InsideTaken        such a table, with room to take twice the edges inside out of the ends; and what is left
use Rattle.std.specs.Prelude.{ℕ, zero, suc, ◌+◌, ◌*◌, ◌-◌, ◌≤◌, ◌<◌, max, ◌≡◌, Bool, ◌&&◌, cond, List, eqb, leb, ltb, length, get_or, None}
use Rattle.std.specs.Int.Bits.{bit_and}
use Rattle.sets.specs.Below.{bit, count, sum}
use Rattle.sets.specs.Bits.{bit_of, bit_at}
use Rattle.limits.specs.Limits.{edges_most}
use Rattle.image.specs.Image.{end_a, end_b}
use Rattle.near.specs.Near.{ends_proximity}
use Rattle.community.specs.Network.{contains}
use Rattle.community.specs.Reach.{farthest}
use Rattle.rows.specs.Rows.{row_members}
use Rattle.tallies.specs.Tallies.{is_inside, is_leaving, reach_entry}

pub record EndAdded (ds : List ℕ) (v : ℕ) (ds' : List ℕ) : Type 0 where
  pub size : length ds' ≡ length ds
  pub degrees : (u : ℕ) → u < length ds → get_or ds' u 0 ≡ get_or ds u 0 + bit (eqb v u)

abbrev pub ends_at : List ℕ → (ℕ → Bool) → ℕ → ℕ → ℕ
ends_at records test v e = cond (test e) (bit (eqb (end_a records e) v) + bit (eqb (end_b records e) v)) 0

pub record DegreesHold (records : List ℕ) (test : ℕ → Bool) (m : ℕ) (ds : List ℕ) : Type 0 where
  pub size : length ds ≡ 512
  pub degrees : (v : ℕ) → v < 512 → get_or ds v 0 ≡ sum m (ends_at records test v)

abbrev pub degree_most : ℕ
degree_most = edges_most * 2

pub record DegreesFit (ds : List ℕ) : Type 0 where
  pub size : length ds ≡ 512
  pub most : (v : ℕ) → v < 512 → get_or ds v 0 ≤ degree_most

unfoldable pub degree_sum : (ℕ → ℕ) → List ℕ → ℕ
degree_sum f ds = sum 512 (λ v. f v * get_or ds v 0)

unfoldable pub bit_for : ℕ → ℕ → ℕ → ℕ
bit_for base w i = cond (leb base i && ltb i (base + 64)) (bit_of w (i - base)) 0

pub record WordMarked (w base i : ℕ) (ws ws' : List ℕ) : Type 0 where
  pub size : length ws' ≡ length ws
  pub bits : (v j : ℕ) → j < 64 → bit_at ws' (v * 64 + j) ≡ max (bit_at ws (v * 64 + j)) (bit (eqb j i) * bit_for base w v)

pub record RowMarked (row : List ℕ) (i : ℕ) (ws ws' : List ℕ) : Type 0 where
  pub size : length ws' ≡ length ws
  pub bits : (v j : ℕ) → v < 512 → j < 64 → bit_at ws' (v * 64 + j) ≡ max (bit_at ws (v * 64 + j)) (bit (eqb j i) * bit_at row v)

pub record WordsHold (f : ℕ → ℕ → Bool) (ws : List ℕ) : Type 0 where
  pub size : length ws ≡ 512
  pub bits : (v i : ℕ) → v < 512 → i < 64 → bit_at ws (v * 64 + i) ≡ bit (f i v)

pub record RowsSummed (rows : List ℕ) (first n : ℕ) (ds ts ts' : List ℕ) : Type 0 where
  pub size : length ts' ≡ 1024
  pub sums : (i : ℕ) → i < n → get_or ts' (512 + (first + i)) 0 ≡ degree_sum (λ v. bit (contains v (row_members rows (first + i)))) ds
  pub others : (j : ℕ) → ((i : ℕ) → i < n → j ≡ 512 + (first + i) → ⊥) → get_or ts' j 0 ≡ get_or ts j 0

pub record Raised (ts : List ℕ) (base w : ℕ) (ts' : List ℕ) : Type 0 where
  pub size : length ts' ≡ length ts
  pub counts : (i : ℕ) → get_or ts' i 0 ≡ get_or ts i 0 + bit_for base w i

pub record RaisedTo (rs : List ℕ) (base w x : ℕ) (rs' : List ℕ) : Type 0 where
  pub size : length rs' ≡ length rs
  pub entries : (i : ℕ) → get_or rs' i 0 ≡ max (get_or rs i 0) (x * bit_for base w i)

abbrev pub inside_word : List ℕ → List ℕ → ℕ → ℕ
inside_word ws records e = bit_and (get_or ws (end_a records e) 0) (get_or ws (end_b records e) 0)

unfoldable pub highest : ℕ → (ℕ → ℕ) → ℕ
highest zero f = 0
highest (suc n) f = max (highest n f) (f n)

pub record EdgesCounted (ws records : List ℕ) (m base : ℕ) (ts ts' : List ℕ) : Type 0 where
  pub size : length ts' ≡ length ts
  pub counts : (i : ℕ) → get_or ts' i 0 ≡ get_or ts i 0 + sum m (λ e. bit_for base (inside_word ws records e) i)

pub record EdgesRaised (ws handsets records : List ℕ) (m limit base : ℕ) (rs rs' : List ℕ) : Type 0 where
  pub size : length rs' ≡ length rs
  pub entries : (k : ℕ)
      → get_or rs' k 0
      ≡ max (get_or rs k 0) (highest m (λ e. reach_entry (ends_proximity handsets (end_a records e) (end_b records e) limit) * bit_for base (inside_word ws records e) k))

abbrev pub ends_in : List ℕ → List ℕ → ℕ → ℕ → ℕ → ℕ
ends_in records rows m all k = count m (is_inside records rows all k) * 2 + count m (is_leaving records rows all k)

pub record Progress (handsets records : List ℕ) (m limit : ℕ) (rows : List ℕ) (all first : ℕ) (ts rs : List ℕ) : Type 0 where
  pub ts_size : length ts ≡ 1024
  pub rs_size : length rs ≡ 512
  pub joined : (k : ℕ) → k < 512 → get_or ts k 0 ≡ cond (ltb k first) (count m (is_inside records rows all k)) 0
  pub ends : (k : ℕ) → k < 512 → get_or ts (512 + k) 0 ≡ cond (ltb k first) (ends_in records rows m all k) 0
  pub reaches : (k : ℕ) → k < 512
      → get_or rs k 0
      ≡ cond (ltb k first) (reach_entry (farthest m (λ e. cond (is_inside records rows all k e) (ends_proximity handsets (end_a records e) (end_b records e) limit) None))) 0

pub record InsideFits (groups : ℕ) (ts : List ℕ) : Type 0 where
  pub size : length ts ≡ 1024
  pub few : (k : ℕ) → k < groups → get_or ts k 0 ≤ edges_most
  pub enough : (k : ℕ) → k < groups → get_or ts k 0 * 2 ≤ get_or ts (512 + k) 0

pub record InsideTaken (groups : ℕ) (ts ts' : List ℕ) : Type 0 where
  pub size : length ts' ≡ length ts
  pub taken : (k : ℕ) → k < groups → get_or ts' (512 + k) 0 ≡ get_or ts (512 + k) 0 - get_or ts k 0 * 2
  pub others : (j : ℕ) → ((k : ℕ) → k < groups → j ≡ 512 + k → ⊥) → get_or ts' j 0 ≡ get_or ts j 0
