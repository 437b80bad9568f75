-- `text::Text::put_members` meets its contract: after j words the members below 64 j are written.
use Prim.Native.Nat.{◌*◌}
use Rattle.sets.specs.Below.{select}
use Rattle.text.specs.Text.{Writes, numbers}
use Rattle.text.proofs.Members.{is_member}
use Rattle.text.proofs.Text.put_members.Given as goal

abbrev pub invariant-loop-j : goal.invariant-loop-j
invariant-loop-j l = Writes l.fn.self (numbers (select (l.j * 64) (is_member l.set))) l.self
