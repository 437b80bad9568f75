use native.Mathlib.Omega.{arith}
use borrow.Author.Rules.{rules}
use Prim.Native.Nat.{◌<◌, min}
use mathlib.Core.Path.{◌≡◌}
use Rattle.text.proofs.Writing.{then, still, written}
use Rattle.lines.specs.Lines.{table_lines, table_text}
use Rattle.lines.proofs.Lines.{row_elements, row_few, lines_more}
use Rattle.lines.proofs.put_report.Goals as goal

pub loop-k-init : goal.loop-k-init
unfolding table_lines
loop-k-init c = still c.put_head.ensures

pub group_tally-tally-requires-clause-few : goal.group_tally-tally-requires-clause-few
group_tally-tally-requires-clause-few c =
    let few : c.loop-k.k < 512 = omega (arith, c.min-k-end.ensures, c.loop-k-test.true) in
    omega (arith, c.size.ensures, row_few c.args.rows.now c.loop-k.k few)

pub loop-k-preserved : goal.loop-k-preserved
loop-k-preserved c =
    let few : c.loop-k.k < 512 = omega (arith, c.min-k-end.ensures, c.loop-k-test.true) in
    rw (lines_more c.args.rows.now c.args.tallies.now c.args.reaches.now c.loop-k.k)
    (then c.loop-k.invariant
    (rw (c.group_tally-tally.ensures, c.size.ensures, c.group_reach-reach.ensures, c.row.ensures.words, row_elements c.args.rows.now c.loop-k.k few) at c.put_group.ensures))

pub returns : goal.returns
unfolding table_text
returns c =
    let all : min c.args.numbers.head.counts.groups 512 ≡ c.loop-k.k = omega (arith, c.min-k-end.ensures, c.loop-k-test.false) in
    written c.new-text.ensures.bytes c.new-text.ensures.position (search rules)
    (then c.put_head.ensures (then (rw all c.loop-k.invariant) (then c.put_set.ensures (then c.put_set-2.ensures c.put_totals.ensures))))
