-- `search::join_row` meets its contract. The words before j are or'ed with the row's, and the others are as they were.
use Rattle.search.proofs.Growth.{Joining}
use Rattle.search.proofs.join_row.Given as goal

abbrev pub invariant-loop-j : goal.invariant-loop-j
invariant-loop-j l = Joining l.table l.u l.initial.set l.set l.j
