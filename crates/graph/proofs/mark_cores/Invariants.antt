use mathlib.Core.Bool.{◌&&◌}
use lib.Dec.{leb, ltb}
use lib.ListN.{get_or}
use Rattle.sets.specs.Rows.{SetOf}
use Rattle.graph.proofs.mark_cores.Given as goal

abbrev pub invariant-loop-u : goal.invariant-loop-u
invariant-loop-u l = SetOf l.cores (λ v. ltb v l.u && leb l.mu (get_or l.sizes v 0))
