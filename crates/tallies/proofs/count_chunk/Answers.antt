-- `tallies::count_chunk` meets its contract: the words say which of the 64 groups each handset is in, so that the edges counted by them are the groups' edges, and the
-- degrees summed are the ends among their members.
use Rattle.community.specs.Scores.{every_edge}
use Rattle.tallies.proofs.Degrees.{degrees_fit}
use Rattle.tallies.proofs.Reaching.{progress_chunk}
use Rattle.tallies.proofs.count_chunk.Goals as goal

pub mark_rows-requires-clause-fits : goal.mark_rows-requires-clause-fits
mark_rows-requires-clause-fits c = degrees_fit c.args.edges.now every_edge c.args.m c.args.degrees.now c.requires.few c.requires.degrees_hold

pub returns : goal.returns
returns c =
    progress_chunk c.args.handsets.now c.args.edges.now c.args.m c.args.limit c.args.groups.rows.now c.args.groups.count c.args.first _ c.args.degrees.now c.args.tallies.now _ c.args.reaches.now _ _
    c.mark_rows.ensures.marked c.requires.left c.requires.in_tables c.requires.degrees_hold c.mark_rows.ensures.summed c.requires.so_far c.count_edges.ensures.counted c.count_edges.ensures.raised
