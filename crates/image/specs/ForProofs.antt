-- These definitions only serve the proofs; a caller need not believe them.
-- What the reader looks for in the records, and what it has of the edges that it has passed.
--
--     NoneBad gives count             the test says no for each of the first `count` records
--     FirstBad gives count number r   r has that number, and the first of them for which it says yes
--     linked n edges k                each of n handsets is related to itself, and the ends of each of the first k edges to each other
--     faulty edges n k                one of questions 8 to 10 fails for edge k
--     Added ..                        what adding the edges tells and leaves
use Rattle.std.specs.Prelude.{ℕ, ◌<◌, ◌≡◌, Bool, true, false, ◌&&◌, ◌||◌, List, ltb, eqb, Option, None}
use Rattle.sets.specs.Below.{any, first}
use Rattle.sets.specs.Rows.{Table, Counted}
use Rattle.image.specs.Image.{joins}
use Rattle.image.specs.Questions.{bad_end, is_loop, repeats_earlier}
use Rattle.image.specs.declared.Refusal.{Refusal}

-- by what the test of a number may give
abbrev pub NoneBad : (ℕ → Bool → Type 0) → ℕ → Type 0
NoneBad gives count = (k : ℕ) → k < count → gives k false

abbrev pub FirstBad : (ℕ → Bool → Type 0) → ℕ → ℕ → Refusal → Type 0
FirstBad gives count number r = (r.number ≡ number) × (r.place < count) × gives r.place true × NoneBad gives r.place

unfoldable pub linked : ℕ → List ℕ → ℕ → ℕ → ℕ → Bool
unfolding any joins
linked n edges k u v = (ltb u n && eqb u v) || any k (joins edges u v)

unfoldable pub faulty : List ℕ → ℕ → ℕ → Bool
unfolding bad_end is_loop repeats_earlier
faulty edges n k = bad_end edges n k || (is_loop edges k || repeats_earlier edges k)

-- the first edge at fault is found, and where there is none the tables have all edges
pub record Added (edges : List ℕ) (n m : ℕ) (fault : Option ℕ) (rows sizes : List ℕ) : Type 0 where
  pub first : fault ≡ first m (faulty edges n)
  pub table : fault ≡ None → Table rows (linked n edges m)
  pub counted : fault ≡ None → Counted rows sizes
