use mathlib.Core.Path.{subst}
use mathlib.Core.List.{List}
use Prim.Native.Nat.{ℕ}
use native.Mathlib.Omega.{arith}
use Rattle.search.proofs.Growth.{Growing, growing_start, growing_on, growing_falls, growing_end}
use Rattle.search.proofs.collect.Goals as goal

pub loop-w-init : goal.loop-w-init
loop-w-init c = growing_start c.args.table.now c.unmark.new.words c.args.u c.join_row.new.set (omega arith) c.join_row.ensures

pub loop-w-smaller : goal.loop-w-smaller
loop-w-smaller c = growing_falls c.args.table.now c.unmark.new.words c.args.u c.loop-w.set c.loop-w.left c.loop-w.invariant c.in-Some.w c.in-Some.ensures

pub loop-w-preserved : goal.loop-w-preserved
loop-w-preserved c =
    growing_on c.args.table.now c.unmark.new.words c.args.u c.loop-w.set c.loop-w.left c.loop-w.invariant c.in-Some.w c.in-Some.ensures c.join_all.new.set
    c.join_all.ensures

pub returns : goal.returns
returns c =
    growing_end c.args.table.now c.args.left.now c.args.u c.loop-w.set c.loop-w.left
    (subst (λ (x : List ℕ). Growing c.args.table.now x c.args.u c.loop-w.set c.loop-w.left) c.unmark.ensures c.loop-w.invariant)
    c.in_default.ensures (omega arith) c.requires
