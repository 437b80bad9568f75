use native.Mathlib.Omega.{arith}
use borrow.Author.Rules.{rules}
use Prim.Native.Nat.{◌<◌}
use Rattle.std.proofs.lemmas.List.{get_or-take, length-take}
use Rattle.sets.specs.Below.{select}
use Rattle.text.specs.Text.{numbers}
use Rattle.text.proofs.Writing.{then}
use Rattle.text.proofs.Members.{word_members, elements_are}
use Rattle.text.proofs.Text.put_members.Goals as goal

pub loop-j-init : goal.loop-j-init
unfolding numbers select
loop-j-init c = search rules

pub loop-j-preserved : goal.loop-j-preserved
loop-j-preserved c =
    let short : c.loop-j.j < c.min.result = omega (arith, length-take c.min.result c.args.set.now) in
    rw (word_members, ← get_or-take c.min.result c.args.set.now c.loop-j.j 0 short) (then c.loop-j.invariant c.put_word.ensures)

pub returns : goal.returns
returns c = rw (elements_are c.args.set.now c.loop-j.j (omega (arith, length-take c.min.result c.args.set.now))) c.loop-j.invariant
