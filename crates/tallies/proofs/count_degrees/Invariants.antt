-- `tallies::count_degrees` meets its contract. After k turns the ends of the first k edges are counted.
use Rattle.community.specs.Scores.{every_edge}
use Rattle.tallies.specs.ForProofs.{DegreesHold}
use Rattle.tallies.proofs.count_degrees.Given as goal

abbrev pub invariant-loop-k : goal.invariant-loop-k
invariant-loop-k l = DegreesHold l.edges every_edge l.k l.degrees
