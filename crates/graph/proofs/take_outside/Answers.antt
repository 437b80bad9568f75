use native.Mathlib.Omega.{arith}
use mathlib.Core.Path.{◌≡◌, sym, ap, subst}
use mathlib.Core.Bool.{Bool, true, not}
use lib.Dec.{T}
use Rattle.graph.proofs.Within.{self_in, self_out}
use Rattle.graph.proofs.take_outside.Goals.{then-not-has, else-not-has}
use Rattle.graph.proofs.take_outside.Goals as goal

is_true : {b : Bool} → b ≡ true → T b
is_true e = subst (λ (x : Bool). T x) (sym e) tt

pub loop-v-preserved : goal.loop-v-preserved
loop-v-preserved c =
    elim c.if-not-has.branch [
      | then-not-has w ↦ (
        rw (w.table-is, w.take_out.ensures.taken)
            (self_out c.args.within.now c.loop-v.v (omega arith) c.loop-v.invariant.0 (omega arith) (subst (λ (b : Bool). T (not b)) c.has.ensures (is_true (ap not w.if-not-has.true)))),
        rw (w.table-is, w.sizes-is) w.take_out.ensures.counted,
      )
      | else-not-has w ↦ (
        rw w.table-is (self_in c.args.within.now c.loop-v.v (omega arith) c.loop-v.invariant.0 (subst (λ (b : Bool). T b) c.has.ensures (is_true w.if-not-has.false))),
        rw (w.table-is, w.sizes-is) c.loop-v.invariant.1,
      )
    ]
