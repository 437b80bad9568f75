use Rattle.std.proofs.Common.{arith, refl, ap}
use Rattle.fields.specs.declared.Ends.{Ends}
use Rattle.community.specs.Scores.{every_edge}
use Rattle.tallies.proofs.Degrees.{degrees_none, degrees_more, degrees_fit, degrees_room, added_le}
use Rattle.tallies.proofs.count_degrees.Goals as goal

pub loop-k-init : goal.loop-k-init
loop-k-init c = rw c.requires.zeros (degrees_none c.args.edges.now every_edge)

pub add_end-requires : goal.add_end-requires
add_end-requires c =
    let fit = degrees_fit c.args.edges.now every_edge c.loop-k.k c.loop-k.degrees (omega arith) c.loop-k.invariant in
    omega (arith, degrees_room c.loop-k.degrees fit c.ends_at-ends.result.a)

pub add_end-requires-in-loop-k : goal.add_end-requires-in-loop-k
add_end-requires-in-loop-k c =
    let fit = degrees_fit c.args.edges.now every_edge c.loop-k.k c.loop-k.degrees (omega arith) c.loop-k.invariant in
    omega (arith, degrees_room c.loop-k.degrees fit c.ends_at-ends.result.b, added_le _ _ _ c.add_end.ensures c.ends_at-ends.result.b)

pub loop-k-preserved : goal.loop-k-preserved
loop-k-preserved c =
    degrees_more c.args.edges.now every_edge c.loop-k.k c.loop-k.degrees _ _ refl c.loop-k.invariant (ap (λ (x : Ends). x.a) c.ends_at-ends.ensures)
    (ap (λ (x : Ends). x.b) c.ends_at-ends.ensures) c.add_end.ensures c.add_end-in-loop-k.ensures
