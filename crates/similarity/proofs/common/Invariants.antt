-- `similarity::common` meets its contract: what is counted and what the words ahead share are the numbers in both sets.
use Prim.Native.Nat.{◌+◌}
use mathlib.Core.Path.{◌≡◌}
use Rattle.similarity.specs.Similarity.{in_both}
use Rattle.similarity.proofs.Shared.{shared_words}
use Rattle.similarity.proofs.common.Given as goal

abbrev pub invariant-loop-x : goal.invariant-loop-x
invariant-loop-x l = l.n + shared_words l.x-iterator.iter.a.rest.now l.x-iterator.iter.b.rest.now l.x-iterator.n ≡ in_both l.a l.b
