-- `points::distance_to` meets its contract. At i the total is the sum of the first i squares, as 64 bits hold it.
use Rattle.std.proofs.Common.{◌≡◌, ℕ, ◌%◌, ◌^◌, List, get_or}
use Rattle.sets.specs.Below.{sum}
use Rattle.fields.specs.Fields.{coordinate_of}
use Rattle.image.specs.Image.{handset_record, gap_squared}
use Rattle.points.proofs.distance_to.Given as goal

-- the squares that are summed
abbrev pub squares : List ℕ → List ℕ → ℕ → ℕ → ℕ
squares point handsets v = gap_squared (λ i. get_or point i 0) (coordinate_of (handset_record handsets v))

abbrev pub invariant-loop-i : goal.invariant-loop-i
invariant-loop-i l = l.total ≡ sum l.i (squares l.point l.handsets l.v) % 2 ^ 64
