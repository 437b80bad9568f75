-- `tallies::mark_word` meets its contract. The invariant: what the words hold, with what the rest of the word has for them, is what they held with what the word has
-- for them, and so for the sum of the degrees.
use Rattle.std.specs.Prelude.{ℕ, length, ◌+◌, ◌*◌, ◌<◌, max, ◌≡◌, eqb}
use Rattle.sets.specs.Below.{bit}
use Rattle.sets.specs.Bits.{bit_at}
use Rattle.tallies.specs.ForProofs.{degree_sum, bit_for}
use Rattle.tallies.proofs.mark_word.Given as goal

abbrev pub invariant-loop-k : goal.invariant-loop-k
invariant-loop-k l = record {
  next : (goal.iterator-loop-k).can_next l.k-iterator;
  finite : (goal.iterator-loop-k).is_finite l.k-iterator;
  size : length l.words ≡ length l.initial.words;
  bits : (v j : ℕ) → j < 64
      → max (bit_at l.words (v * 64 + j)) (bit (eqb j l.i) * bit_for l.base l.k-iterator.word v)
      ≡ max (bit_at l.initial.words (v * 64 + j)) (bit (eqb j l.i) * bit_for l.base l.word v);
  sum : l.sum + degree_sum (bit_for l.base l.k-iterator.word) l.degrees ≡ degree_sum (bit_for l.base l.word) l.degrees;
}
