use Rattle.search.proofs.Closures.{finding_start, finding_falls, finding_on, finding_end}
use Rattle.search.proofs.find_communities.Goals as goal

pub loop-u-init : goal.loop-u-init
loop-u-init c = finding_start c.in-Some.table.now c.in-Ok.left

pub loop-u-smaller : goal.loop-u-smaller
loop-u-smaller c =
    finding_falls c.in-Some.table.now c.in-Ok.left c.loop-u.table c.loop-u.left c.loop-u.k c.loop-u.invariant c.in-Some-first_common.u
    c.in-Some-first_common.ensures c.collect-set.new.left c.collect-set.result c.collect-set.ensures

pub loop-u-preserved : goal.loop-u-preserved
loop-u-preserved c =
    finding_on c.in-Some.table.now c.in-Ok.left c.loop-u.table c.loop-u.left c.loop-u.k c.loop-u.invariant c.in-Some-first_common.u
    c.in-Some-first_common.ensures c.collect-set.new.left c.collect-set.result c.collect-set.ensures c.store_row.new.rows c.store_row.ensures

pub returns : goal.returns
returns c =
    let found = finding_end c.in-Some.table.now c.in-Ok.left c.loop-u.table c.loop-u.left c.loop-u.k c.loop-u.invariant c.in_default-first_common.ensures in
    record {
      searched = λ s. rw c.in-Some.ensures.cases.same at (rw c.in-Ok.ensures.1.same at found);
      left_alone = λ n. absurd (n (c.in-Some.ensures.cases.long, c.in-Ok.ensures.1.long));
    }
