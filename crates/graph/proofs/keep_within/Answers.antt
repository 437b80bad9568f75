-- `graph::keep_within` meets its contract. The edges dropped are just the near edges with an end outside the set, and the handsets outside are taken out of
-- their own rows; what is left is the network among the handsets within the set.
use Rattle.graph.proofs.GraphLaws.{near_ready}
use Rattle.graph.proofs.Within.{drawn_within, held_within}
use Rattle.graph.proofs.keep_within.Goals as goal

pub drop_outside-requires : goal.drop_outside-requires
drop_outside-requires c = (c.requires.counted, rw c.of_image-records.ensures.header (near_ready c.args.image.now c.args.h c.requires.accepted c.requires.header c.requires))

pub returns : goal.returns
returns c =
    let kept = rw c.of_image-records.ensures.edges at c.drop_outside.ensures.kept in
    let dropped = rw c.of_image-records.ensures.edges at c.drop_outside.ensures.dropped in
    record {
      drawn = drawn_within c.args.image.now c.args.h c.requires.accepted c.requires.header c.args.within.now _ _ kept c.requires c.take_outside.ensures.counted;
      held = held_within c.args.image.now c.args.h c.requires.accepted c.requires.header c.args.within.now _ _ kept dropped c.take_outside.ensures.taken;
    }
