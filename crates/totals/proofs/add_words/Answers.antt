use Prim.Native.Nat.{◌^◌, ◌<◌}
use native.Mathlib.Omega.{arith}
use mathlib.Core.Path.{◌≡◌, ap, ◌∙◌}
use lib.ListN.{length-set}
use Rattle.totals.specs.Totals.{is_outlier}
use Rattle.totals.specs.ForProofs.{set_role}
use Rattle.totals.proofs.Words.{test, SumsTo, sums_none, sums_small, sums_turn, sums_all, word_outlier, marked_more}
use Rattle.totals.proofs.add_words.Goals as goal

pub loop-j-init : goal.loop-j-init
loop-j-init c = (
  sums_none (set_role c.args.once.now c.args.twice.now c.args.cores.now) c.args.n c.default-totals.result c.default-totals.ensures,
  omega arith,
  λ v h. absurd (omega arith),
)

pub add_word-requires : goal.add_word-requires
add_word-requires c = rw c.loop-j.invariant.0 (sums_small (set_role c.args.once.now c.args.twice.now c.args.cores.now) c.args.n c.loop-j.j (omega arith))

pub loop-j-preserved : goal.loop-j-preserved
loop-j-preserved c =
    let fits : c.word_below-all.result < 2 ^ 64 = omega arith in (
      c.add_word.ensures ∙ sums_turn c.args.once.now c.args.twice.now c.args.cores.now c.args.n c.loop-j.j c.word_below-all.result c.word_below-all.ensures fits c.loop-j.totals c.loop-j.invariant.0,
      length-set c.loop-j.outliers c.loop-j.j _ ∙ c.loop-j.invariant.1,
      marked_more (test is_outlier (set_role c.args.once.now c.args.twice.now c.args.cores.now) c.args.n) c.loop-j.outliers c.loop-j.j _ (omega arith)
          (word_outlier c.args.once.now c.args.twice.now c.args.cores.now c.args.n c.loop-j.j _ c.word_below-all.ensures fits) c.loop-j.invariant.2,
    )

pub returns : goal.returns
returns c =
    let e : c.loop-j.j ≡ 8 = omega arith in
    record {
      numbers = c.loop-j.invariant.0 ∙ ap (SumsTo (set_role c.args.once.now c.args.twice.now c.args.cores.now) c.args.n) e ∙ sums_all _ c.args.n;
      marked = record { size = c.loop-j.invariant.1; bits = λ v h. c.loop-j.invariant.2 v (omega (arith, e)) };
    }
