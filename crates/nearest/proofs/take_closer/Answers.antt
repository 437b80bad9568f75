-- `nearest::take_closer` meets its contract, by the cases of a handset that is farther than the nearest so far, as near, or nearer.
use Rattle.std.proofs.Common.{ℕ, ◌≡◌, ◌<◌, Some, arith, sym}
use Rattle.nearest.specs.ForProofs.{wrapped}
use Rattle.nearest.proofs.Taking.{closest_same, closest_nearer}
use Rattle.nearest.proofs.take_closer.Goals as goal
use Rattle.nearest.proofs.take_closer.Goals.{in_default-via-in-Some-2+else-least-d-2, in_default-via-in_default}

pub returns-in-Some-2 : goal.returns-in-Some-2
returns-in-Some-2 c = record {
  each = λ seen k.
      let held = rw (c.in-Some-2.is, c.if-least-d-2.true) at k in
      rw c.mark.ensures (closest_same (wrapped c.args.point.now c.args.handsets.now) seen c.args.v c.requires _ _ (sym c.distance_to-d.ensures) held);
}

pub returns-in_default : goal.returns-in_default
returns-in_default c =
    let far : ℕ → ℕ = wrapped c.args.point.now c.args.handsets.now in
    let nearer : (d : ℕ) → c.args.least ≡ Some d → far c.args.v < d =
    elim c.in_default.branch [
      | in_default-via-in-Some-2+else-least-d-2 w ↦ (λ d e.
          let p : w.in-Some.least ≡ d = cc (w.in-Some.is, e) in
          let q : w.in-Some-2.least ≡ d = cc (w.in-Some-2.is, e) in
          omega (arith, c.distance_to-d.ensures))
      | in_default-via-in_default w ↦ (λ d e. absurd (cc (w.in_default.is, e)))
    ] in
    record { each = λ seen k. rw (c.mark-in_default.ensures, c.distance_to-d.ensures) (closest_nearer far seen c.args.v c.requires c.args.least c.args.closest.now nearer k) }
