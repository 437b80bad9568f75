use Rattle.std.proofs.Common.{arith}
use Rattle.tallies.proofs.Words.{row_short, words_none, words_next}
use Rattle.tallies.proofs.Degrees.{summed_none, summed_more}
use Rattle.tallies.proofs.mark_rows.Goals as goal

pub loop-i-init : goal.loop-i-init
loop-i-init c = record {
  marked = rw c.requires.empty (words_none c.args.groups.rows.now c.args.first);
  summed = summed_none c.args.groups.rows.now c.args.first c.args.degrees.now c.args.tallies.now (omega arith);
}

pub mark_row-requires-clause-short : goal.mark_row-requires-clause-short
mark_row-requires-clause-short c = rw c.row.ensures.words (row_short c.args.groups.rows.now _)

pub loop-i-preserved : goal.loop-i-preserved
loop-i-preserved c = record {
  marked = words_next c.args.groups.rows.now _ c.loop-i.words _ c.args.first c.loop-i.i c.row.ensures.words c.loop-i.invariant.marked c.mark_row.ensures.marked;
  summed = summed_more c.args.groups.rows.now _ c.args.first c.loop-i.i c.args.degrees.now c.args.tallies.now c.loop-i.tallies _ (omega arith) c.row.ensures.words c.mark_row.ensures.summed c.loop-i.invariant.summed;
}
