-- `tallies::count_edges` meets its contract. After k turns the first k edges are counted.
use Rattle.tallies.specs.ForProofs.{EdgesCounted, EdgesRaised}
use Rattle.tallies.proofs.count_edges.Given as goal

abbrev pub invariant-loop-k : goal.invariant-loop-k
invariant-loop-k l = record {
  counted : EdgesCounted l.words l.edges l.k l.base l.initial.tallies l.tallies;
  raised : EdgesRaised l.words l.handsets l.edges l.k l.limit l.base l.initial.reaches l.reaches;
}
