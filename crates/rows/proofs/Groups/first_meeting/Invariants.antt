-- `rows::Groups::first_meeting` meets its contract. The invariant: none of the rows passed meets the set.
use mathlib.Core.Bool.{not}
use lib.Dec.{T}
use Rattle.sets.specs.Below.{any}
use Rattle.rows.proofs.Rows.{meets_at}
use Rattle.rows.proofs.Groups.first_meeting.Given as goal

abbrev pub invariant-loop-k : goal.invariant-loop-k
invariant-loop-k l = T (not (any l.k (meets_at l.set l.self.rows.now)))
