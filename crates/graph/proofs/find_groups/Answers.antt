-- `graph::find_groups` meets its contract. The edges dropped are just those of the neighbour table whose ends are not similar; without them the
-- table is that of the similarity relation, and its sizes tell the cores. The search over these two finds the communities.
use native.Mathlib.Omega.{arith}
use mathlib.Core.Path.{sym}
use Rattle.graph.proofs.GraphLaws.{near_ready, dissimilar_ready, surveyed, found_in}
use Rattle.graph.proofs.find_groups.Goals as goal

pub of_image-records-requires : goal.of_image-records-requires
of_image-records-requires c = let d = c.requires c.in-Ok.h c.in-Ok.is in (d.accepted, d.header)

pub keep_dissimilar-tests-requires : goal.keep_dissimilar-tests-requires
keep_dissimilar-tests-requires c =
    let d = c.requires c.in-Ok.h c.in-Ok.is in
    (d.counted, rw c.of_image-records.ensures.header (near_ready c.args.image.now c.in-Ok.h d.accepted d.header d))

pub drop_set-requires : goal.drop_set-requires
drop_set-requires c =
    let d = c.requires c.in-Ok.h c.in-Ok.is in
    let kept = rw (c.of_image-records.ensures.edges, c.of_image-records.ensures.header) at c.keep_dissimilar-tests.ensures.kept in
    (d.counted, rw c.of_image-records.ensures.header (dissimilar_ready c.args.image.now c.in-Ok.h d.accepted d.header d kept))

pub returns : goal.returns
returns c =
    let d = c.requires c.in-Ok.h c.in-Ok.is in
    let kept = rw (c.of_image-records.ensures.edges, c.of_image-records.ensures.header) at c.keep_dissimilar-tests.ensures.kept in
    let dropped = rw c.of_image-records.ensures.edges at c.drop_set.ensures.dropped in
    record {
      answered = sym c.in-Ok.is;
      found = λ h e. record {
        each = λ g holds.
            found_in
            (surveyed c.args.image.now c.in-Ok.h d.accepted d.header d kept g holds dropped c.drop_set.ensures.counted c.core_size.ensures c.mark_cores.ensures)
            (omega arith) c.find_communities-groups.ensures;
      };
      tested = λ h e. c.keep_dissimilar-tests.ensures.counted;
      refused = λ x e. (cc);
    }
