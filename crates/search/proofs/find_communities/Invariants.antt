-- `search::find_communities` meets its contract. The first k rows are what the searches so far found, the words past them are those at entry, and the cores
-- left come after k of them, so that the rows still needed are those at entry. The measure is how many cores are left.
use Rattle.sets.specs.Below.{sum}
use Rattle.sets.specs.Bits.{bit_at}
use Rattle.search.proofs.Closures.{Finding}
use Rattle.search.proofs.find_communities.Given as goal

abbrev pub invariant-loop-u : goal.invariant-loop-u
invariant-loop-u l = Finding l.initial.table l.initial.left l.table l.left l.k

abbrev pub decreases-loop-u : goal.decreases-loop-u
decreases-loop-u l = sum 512 (bit_at l.left)
