-- `near::proximity_of` meets its contract. While the squares so far fit, what is left of the limit and their sum make the limit, so the next square fits in
-- what is left just where the sum with it keeps the limit, and a sum past the limit stays past it; in the end the sum is what is gone of the limit.
use Rattle.std.proofs.Common.{◌≡◌, ℕ, ◌+◌, Bool, T, leb}
use Rattle.sets.specs.Below.{sum}
use Rattle.fields.specs.Fields.{coordinate_of}
use Rattle.image.specs.Image.{gap_squared}
use Rattle.near.proofs.proximity_of.Given as goal

-- whether a sum of squares keeps the limit, and what is left of it
pub record Left (total limit : ℕ) (fits : Bool) (room : ℕ) : Type 0 where
  pub answer : fits ≡ leb total limit
  pub rest : T fits → room + total ≡ limit

abbrev pub invariant-loop-i : goal.invariant-loop-i
invariant-loop-i l = Left (sum l.i (gap_squared (coordinate_of l.a) (coordinate_of l.b))) l.limit l.fits l.room
