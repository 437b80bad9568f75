-- `text::Text::put_word` meets its contract: the numbers of the set bits passed are written, and those of the rest of the word follow them.
use Prim.Native.Nat.{◌+◌}
use mathlib.Core.Path.{◌≡◌}
use mathlib.Core.List.{◌++◌, map}
use Rattle.sets.specs.Bits.{ones_of}
use Rattle.text.specs.Text.{Wrote, numbers}
use Rattle.text.proofs.Text.put_word.Given as goal

abbrev pub invariant-loop-bit : goal.invariant-loop-bit
invariant-loop-bit l =
    ((goal.iterator-loop-bit).can_next l.bit-iterator × (goal.iterator-loop-bit).is_finite l.bit-iterator)
    × (l.yielded ++ ones_of l.bit-iterator.word ≡ ones_of l.word)
    × Wrote l.fn.self.buffer.now l.fn.self.position (numbers (map (λ k. l.base + k) l.yielded)) l.buffer l.position
