use Rattle.std.proofs.Common.{◌+◌, arith, refl, sym, ◌∙◌}
use Rattle.tallies.proofs.Words.{up_to, up_to_le, row_none, row_next, row_all}
use Rattle.tallies.proofs.Degrees.{degree_sum_le, degree_sum_cong, row_sum_none, row_sum_more}
use Rattle.tallies.proofs.mark_row.Goals as goal

pub loop-j-init : goal.loop-j-init
loop-j-init c = record { size = refl; bits = λ v k h l. row_none c.args.row.now _ _ v; sum = sym (row_sum_none c.args.row.now c.args.degrees.now) }

pub overflow_add-sum : goal.overflow_add-sum
overflow_add-sum c =
    omega (
      arith,
      row_sum_more c.args.row.now c.args.degrees.now c.loop-j.j,
      degree_sum_le (up_to c.args.row.now (c.loop-j.j + 1)) c.args.degrees.now (up_to_le c.args.row.now (c.loop-j.j + 1)) c.requires.fits,
    )

pub loop-j-preserved : goal.loop-j-preserved
loop-j-preserved c = record {
  size = omega (arith, c.mark_word-sum.ensures.marked.size);
  bits = row_next c.args.row.now c.args.words.now c.loop-j.words _ c.args.i c.loop-j.j c.loop-j.invariant.bits c.mark_word-sum.ensures.marked;
  sum = omega (arith, row_sum_more c.args.row.now c.args.degrees.now c.loop-j.j);
}

pub returns-clause-marked : goal.returns-clause-marked
returns-clause-marked c = record {
  size = c.loop-j.invariant.size;
  bits = λ v k h l. rw (← row_all c.args.row.now c.loop-j.j v c.loop-j-test.false) (c.loop-j.invariant.bits v k h l);
}

pub returns-clause-summed : goal.returns-clause-summed
returns-clause-summed c = c.loop-j.invariant.sum ∙ degree_sum_cong _ _ c.args.degrees.now (λ v h. row_all c.args.row.now c.loop-j.j v c.loop-j-test.false)
