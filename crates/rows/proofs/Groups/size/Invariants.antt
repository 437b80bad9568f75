-- `rows::Groups::size` meets its contract. The invariant: the count is the sum of the bits of the words passed, and at most 64 for each.
use mathlib.Core.Path.{◌≡◌}
use Prim.Native.Nat.{◌*◌, ◌≤◌}
use Rattle.sets.specs.Below.{sum}
use Rattle.sets.specs.Bits.{bit_at}
use Rattle.rows.proofs.Groups.size.Given as goal

abbrev pub invariant-loop-word : goal.invariant-loop-word
invariant-loop-word l = (l.n ≤ l.word-index * 64) × (l.n ≡ sum (l.word-index * 64) (bit_at l.row))
