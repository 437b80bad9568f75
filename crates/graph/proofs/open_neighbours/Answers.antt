-- `graph::open_neighbours` meets its contract: the edges dropped are just those whose ends are not near, so the table of all edges becomes that of the
-- neighbour relation.
use mathlib.Core.Path.{refl}
use Rattle.graph.proofs.GraphLaws.{told_yes, read_yes, neighbours_kept}
use Rattle.graph.proofs.open_neighbours.Goals as goal

pub of_image-records-requires : goal.of_image-records-requires
of_image-records-requires c = told_yes c.open_rows-opened.ensures c.in-Ok.h c.in-Ok.is

pub drop_far-requires : goal.drop_far-requires
drop_far-requires c = (refl, c.open_rows-opened.ensures.held.counted c.in-Ok.h c.in-Ok.is)

pub returns : goal.returns
returns c =
    let a = told_yes c.open_rows-opened.ensures c.in-Ok.h c.in-Ok.is in
    let o = c.of_image-records.ensures in
    read_yes c.open_rows-opened.ensures c.in-Ok.h c.in-Ok.is
    (neighbours_kept c.args.image.now c.in-Ok.h a.0 a.1 (c.open_rows-opened.ensures.held.table c.in-Ok.h c.in-Ok.is)
    (rw (o.handsets, o.edges, o.header) at c.drop_far.ensures.kept) (rw (o.handsets, o.edges, o.header) at c.drop_far.ensures.dropped) c.drop_far.ensures.counted)
