-- `scores::first_bad_entry` meets its contract. No entry passed was bad.
use mathlib.Core.Bool.{not}
use lib.Dec.{T}
use Rattle.sets.specs.Below.{any}
use Rattle.scores.specs.Scored.{bad_entry}
use Rattle.scores.proofs.first_bad_entry.Given as goal

abbrev pub invariant-loop-i : goal.invariant-loop-i
invariant-loop-i l = T (not (any l.i (bad_entry l.n l.list)))
