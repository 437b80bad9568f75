-- `text::Text::put_all` meets its contract: as many bytes as the loop has come stand at the front of the room that is left.
use mathlib.Core.Path.{◌≡◌}
use lib.ListN.{take}
use lib.Seq.{sets}
use Rattle.text.proofs.Text.put_all.Given as goal

abbrev pub invariant-loop-i : goal.invariant-loop-i
invariant-loop-i l = l.room ≡ sets l.initial.room 0 (take l.i l.byte-items)
