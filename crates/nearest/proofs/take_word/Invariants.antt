-- `nearest::take_word` meets its contract. The invariant: measuring the rest of the word from here is measuring the word from the start.
use Rattle.std.specs.Prelude.{ℕ, List, Option}
use Rattle.nearest.specs.ForProofs.{wrapped, TakesWord}
use Rattle.nearest.proofs.take_word.Given as goal

abbrev pub invariant-loop-k : goal.invariant-loop-k
invariant-loop-k l = record {
  next : (goal.iterator-loop-k).can_next l.k-iterator;
  finite : (goal.iterator-loop-k).is_finite l.k-iterator;
  rest : (last : Option ℕ) (ws : List ℕ) → TakesWord (wrapped l.point l.handsets) l.k-iterator.word l.base l.least l.closest last ws
      → TakesWord (wrapped l.point l.handsets) l.word l.base l.fn.before l.initial.closest last ws;
}
