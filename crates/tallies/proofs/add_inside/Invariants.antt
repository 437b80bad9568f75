-- `tallies::add_inside` meets its contract. The invariant: what a place holds, with what the rest of the word has for it, is what it held with what the word has for it.
use Rattle.std.specs.Prelude.{ℕ, length, ◌+◌, ◌*◌, max, ◌≡◌, get_or}
use Rattle.tallies.specs.ForProofs.{bit_for}
use Rattle.tallies.proofs.add_inside.Given as goal

abbrev pub invariant-loop-k : goal.invariant-loop-k
invariant-loop-k l = record {
  next : (goal.iterator-loop-k).can_next l.k-iterator;
  finite : (goal.iterator-loop-k).is_finite l.k-iterator;
  tallies_size : length l.tallies ≡ length l.initial.tallies;
  reaches_size : length l.reaches ≡ length l.initial.reaches;
  counts : (i : ℕ) → get_or l.tallies i 0 + bit_for l.base l.k-iterator.word i ≡ get_or l.initial.tallies i 0 + bit_for l.base l.word i;
  entries : (i : ℕ)
      → max (get_or l.reaches i 0) (l.reach * bit_for l.base l.k-iterator.word i)
      ≡ max (get_or l.initial.reaches i 0) (l.reach * bit_for l.base l.word i);
}
