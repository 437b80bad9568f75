use Prim.Native.Nat.{ℕ}
use native.Mathlib.Omega.{arith}
use native.Mathlib.Numerals.{add-one}
use mathlib.Core.Path.{◌≡◌, refl, ap, ap₂, ◌∙◌}
use mathlib.Core.Bool.{Bool, ◌||◌, not}
use Rattle.sets.specs.Below.{any}
use Rattle.sets.proofs.Tests.{or_comm}
use Rattle.fields.specs.Fields.{coordinate_count, in_limits, coordinate_of}
use Rattle.limits.specs.Limits.{out_of_limits}
use Rattle.limits.proofs.out_of_limits.Invariants.{out}
use Rattle.limits.proofs.out_of_limits.Goals as goal

pub loop-i-init : goal.loop-i-init
unfolding any
loop-i-init c = refl

pub loop-i-preserved : goal.loop-i-preserved
unfolding any coordinate_of
loop-i-preserved c =
    rw (add-one c.loop-i.i)
    (ap₂ (λ (x y : Bool). x || not y) c.loop-i.invariant (c.in_limits.ensures ∙ ap in_limits c.coordinate.ensures) ∙ or_comm (any c.loop-i.i (out c.args.handset.now)) (out c.args.handset.now c.loop-i.i))

pub returns : goal.returns
unfolding out_of_limits
returns c =
    let e : c.loop-i.i ≡ coordinate_count = omega arith in
    c.loop-i.invariant ∙ ap (λ (n : ℕ). any n (out c.args.handset.now)) e
