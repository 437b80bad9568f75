-- `tallies::count_groups` meets its contract. The degrees are counted first; after a turn 64 more groups are counted, and in the end the edges inside are taken out of the
-- ends. The measure is the number of groups left.
use Rattle.std.specs.Prelude.{◌-◌, ◌%◌, ◌≤◌, ◌≡◌}
use Rattle.community.specs.Scores.{every_edge}
use Rattle.tallies.specs.ForProofs.{DegreesHold, Progress}
use Rattle.tallies.proofs.count_groups.Given as goal

abbrev pub invariant-loop-first : goal.invariant-loop-first
invariant-loop-first l = record {
  chunks : l.first % 64 ≡ 0;
  few : l.first ≤ 512;
  degrees : DegreesHold l.edges every_edge l.m l.degrees;
  so_far : Progress l.handsets l.edges l.m l.most l.groups.rows.now l.all l.first l.tallies l.reaches;
}

abbrev pub decreases-loop-first : goal.decreases-loop-first
decreases-loop-first l = l.all - l.first
