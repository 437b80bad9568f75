-- `limits::out_of_limits` meets its contract. At i the flag says whether one of the first i coordinates is out of its limits.
use Prim.Native.Nat.{ℕ}
use mathlib.Core.Path.{◌≡◌}
use mathlib.Core.Bool.{Bool, not}
use mathlib.Core.List.{List}
use Rattle.sets.specs.Below.{any}
use Rattle.fields.specs.Fields.{in_limits, coordinate_of}
use Rattle.limits.proofs.out_of_limits.Given as goal

abbrev pub out : List ℕ → ℕ → Bool
out r i = not (in_limits (coordinate_of r i))

abbrev pub invariant-loop-i : goal.invariant-loop-i
invariant-loop-i l = l.bad ≡ any l.i (out l.handset)
