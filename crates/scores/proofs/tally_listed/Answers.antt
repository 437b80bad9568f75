-- `scores::tally_listed` meets its contract: the table holds the list's multiplicities, and the counts by it are the tally.
use mathlib.Core.Path.{refl}
use Rattle.community.specs.Scores.{every_edge}
use Rattle.scores.proofs.Pairing.{pairs_few}
use Rattle.scores.proofs.Entries.{counted, table_le, table_tally}
use Rattle.scores.proofs.tally_listed.Goals as goal

pub tally_edges-requires : goal.tally_edges-requires
tally_edges-requires c = (c.requires.0, table_le c.args.list.now c.count_entries.new.table c.requires.1 (counted _ _ c.requires.1 c.count_entries.ensures))

pub returns : goal.returns
returns c =
    rw (c.tally_edges.ensures, c.pairs_of.ensures, pairs_few c.args.list.now _ refl c.requires.1.short)
    (table_tally c.args.edges.now c.args.m every_edge c.args.list.now c.count_entries.new.table (counted _ _ c.requires.1 c.count_entries.ensures))
