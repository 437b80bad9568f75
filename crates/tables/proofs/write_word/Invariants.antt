-- `tables::write_word` meets its contract. The invariant: writing what the rest of the word has from the present place on gives what was to be
-- written, and the place after it.
use mathlib.Core.Path.{◌≡◌}
use Prim.Native.Nat.{◌+◌}
use lib.ListN.{length}
use lib.Seq.{sets}
use Rattle.sets.specs.Bits.{ones_of}
use Rattle.tables.specs.ForProofs.{word_members}
use Rattle.tables.proofs.write_word.Given as goal

abbrev pub invariant-loop-k : goal.invariant-loop-k
invariant-loop-k l = (l.place + length (ones_of l.k-iterator.word) ≡ l.at + length (ones_of l.word))
    × (sets l.members l.place (word_members l.base l.k-iterator.word) ≡ sets l.initial.members l.at (word_members l.base l.word))
