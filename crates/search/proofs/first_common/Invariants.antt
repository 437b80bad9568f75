-- `search::first_common` meets its contract. No number of the words passed is in both sets, and the lowest bit of the first `and` that is not 0 is the first
-- number in both.
use Rattle.search.proofs.Growth.{NoneCommon}
use Rattle.search.proofs.first_common.Given as goal

abbrev pub invariant-loop-j : goal.invariant-loop-j
invariant-loop-j l = NoneCommon l.a l.b l.j
