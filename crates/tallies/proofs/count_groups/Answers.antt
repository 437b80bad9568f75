use Rattle.std.proofs.Common.{ℕ, ◌+◌, ◌≤◌, arith, refl}
use Rattle.tallies.specs.ForProofs.{Progress}
use Rattle.tallies.proofs.Reaching.{progress_none, inside_fits, groups_counted, groups_reach}
use Rattle.tallies.proofs.count_groups.Goals as goal
use Rattle.tallies.proofs.count_groups.Goals.{else-loop-first-test, then-loop-first-test+else-all-first-gt64}

pub loop-first-init : goal.loop-first-init
loop-first-init c = record {
  chunks = refl;
  few = omega arith;
  degrees = c.count_degrees.ensures;
  so_far = progress_none c.args.handsets.now c.args.edges.now c.min-m.result c.min-most.result c.args.groups.rows.now c.min-all.result;
}

-- the loop ends before a chunk that has no group, or after one that has the last: all groups are counted either way
pub take_inside-requires-clause-fits : goal.take_inside-requires-clause-fits
take_inside-requires-clause-fits c =
    let fits = λ (n : ℕ). inside_fits c.args.handsets.now c.args.edges.now c.min-m.result c.min-most.result c.args.limit c.args.groups.rows.now c.args.groups.count c.min-all.result n in
    elim c.loop-first-test.branch [
      | else-loop-first-test w ↦ rw w.tallies-is (fits c.loop-first.first _ _ c.min-all.ensures w.loop-first-test.false c.min-m.ensures c.min-most.ensures c.loop-first.invariant.so_far)
      | then-loop-first-test+else-all-first-gt64 w ↦ rw w.tallies-is (fits (c.loop-first.first + 64) _ _ c.min-all.ensures (omega arith) c.min-m.ensures c.min-most.ensures w.count_chunk.ensures)
    ]

pub returns : goal.returns
returns c =
    let all_counted : (n : ℕ) × (c.min-all.result ≤ n)
    × Progress c.args.handsets.now c.args.edges.now c.min-m.result c.min-most.result c.args.groups.rows.now c.min-all.result n c.loop-first-test.tallies c.loop-first-test.reaches =
    elim c.loop-first-test.branch [
      | else-loop-first-test w ↦ (c.loop-first.first, w.loop-first-test.false, rw (w.tallies-is, w.reaches-is) c.loop-first.invariant.so_far)
      | then-loop-first-test+else-all-first-gt64 w ↦ (c.loop-first.first + 64, omega arith, rw (w.tallies-is, w.reaches-is) w.count_chunk.ensures)
    ] in
    record {
      counted =
          groups_counted c.args.handsets.now c.args.edges.now _ _ c.args.limit c.args.groups.rows.now c.args.groups.count _ all_counted.0 _ _ c.min-all.ensures all_counted.1 c.min-m.ensures c.min-most.ensures
          all_counted.2 _ c.take_inside.ensures;
      raised =
          groups_reach c.args.handsets.now c.args.edges.now _ _ c.args.limit c.args.groups.rows.now c.args.groups.count _ all_counted.0 _ _ c.min-all.ensures all_counted.1 c.min-m.ensures c.min-most.ensures
          all_counted.2;
    }
