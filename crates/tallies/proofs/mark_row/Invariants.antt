-- `tallies::mark_row` meets its contract. After j turns the members in the first j words of the row are marked and their degrees summed.
use Rattle.std.specs.Prelude.{ℕ, ◌+◌, ◌*◌, ◌<◌, max, ◌≡◌, eqb, length}
use Rattle.sets.specs.Below.{bit}
use Rattle.sets.specs.Bits.{bit_at}
use Rattle.tallies.specs.ForProofs.{degree_sum}
use Rattle.tallies.proofs.Words.{up_to}
use Rattle.tallies.proofs.mark_row.Given as goal

abbrev pub invariant-loop-j : goal.invariant-loop-j
invariant-loop-j l = record {
  size : length l.words ≡ length l.initial.words;
  bits : (v k : ℕ) → v < 512 → k < 64 → bit_at l.words (v * 64 + k) ≡ max (bit_at l.initial.words (v * 64 + k)) (bit (eqb k l.i) * up_to l.row l.j v);
  sum : l.sum ≡ degree_sum (up_to l.row l.j) l.degrees;
}
