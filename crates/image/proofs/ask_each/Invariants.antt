-- `image::ask_each` meets its contract: no record passed is bad.
use Rattle.image.specs.ForProofs.{NoneBad}
use Rattle.image.proofs.ask_each.Given as goal

abbrev pub invariant-loop-k : goal.invariant-loop-k
invariant-loop-k g l = NoneBad (λ k b. goal.F-post g l.fn.is_bad k b) l.k
