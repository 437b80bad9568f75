-- `sets::count_entries` meets its contract: what place v holds, and how often v stands in what is left of the list, make how often it stands in the whole.
use Rattle.std.proofs.Common.{◌≡◌, length, take}
use Rattle.sets.specs.Entries.{multiplicity}
use Rattle.sets.proofs.Entries.{CountsBy}
use Rattle.sets.proofs.count_entries.Given as goal

abbrev pub invariant-loop-v : goal.invariant-loop-v
invariant-loop-v l =
    ((goal.iterator-loop-v).can_next l.v-iterator × (goal.iterator-loop-v).is_finite l.v-iterator)
    × (length l.table ≡ 512)
    × CountsBy l.table (multiplicity (take 65535 l.list)) (take l.v-iterator.n l.v-iterator.iter.rest.now)
