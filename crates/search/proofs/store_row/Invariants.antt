-- `search::store_row` meets its contract. The words of the row before j are the set's, and no word of another row is changed.
use Rattle.search.proofs.Growth.{Storing}
use Rattle.search.proofs.store_row.Given as goal

abbrev pub invariant-loop-j : goal.invariant-loop-j
invariant-loop-j l = Storing l.initial.rows l.k l.set l.rows l.j
