use Prim.Native.Nat.{ℕ, ◌<◌}
use native.Mathlib.Omega.{arith}
use mathlib.Core.Path.{ap, ◌∙◌}
use lib.Dec.{leb}
use lib.ListN.{get_or}
use Rattle.std.proofs.lemmas.List.{get_or-take, length-take}
use Rattle.sets.specs.Below.{bit}
use Rattle.graph.proofs.Words.{bit_from, marked_none, marked_more}
use Rattle.graph.proofs.mark_cores.Goals as goal

pub loop-u-init : goal.loop-u-init
loop-u-init c = rw c.requires.1 (marked_none _)

pub loop-u-preserved : goal.loop-u-preserved
loop-u-preserved c =
    let low : c.loop-u.u < 512 = omega arith in
    let told = c.from.ensures ∙ bit_from _
    ∙ ap (λ (x : ℕ). bit (leb c.args.mu x)) (get_or-take c.args.n c.args.sizes.now c.loop-u.u 0 (omega (arith, length-take c.args.n c.args.sizes.now))) in
    marked_more c.loop-u.cores c.loop-u.u c.from.result (λ v. leb c.args.mu (get_or c.args.sizes.now v 0)) low told c.loop-u.invariant
