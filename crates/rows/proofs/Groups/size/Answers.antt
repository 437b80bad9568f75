use mathlib.Core.Path.{◌≡◌, refl, ap, ◌∙◌}
use mathlib.Core.List.{List}
use Prim.Native.Nat.{ℕ, ◌*◌}
use native.Mathlib.Omega.{arith}
use lib.Count.{ones-le}
use lib.ListN.{length}
use Rattle.sets.specs.Below.{sum}
use Rattle.sets.specs.Bits.{bit_at}
use Rattle.sets.proofs.Bits.{word_bit, sum_word}
use Rattle.rows.proofs.Rows.{words_most, row_ones}
use Rattle.rows.proofs.Groups.size.Goals as goal

pub loop-word-init : goal.loop-word-init
unfolding sum
loop-word-init c = (omega arith, refl)

pub overflow_add-n : goal.overflow_add-n
overflow_add-n c =
    omega (
      arith,
      ones-le 64 _ (c.type_inv.row c.loop-word.word-index).fits,
      words_most _ _ _ c.row-row.ensures.words,
    )

pub loop-word-preserved : goal.loop-word-preserved
loop-word-preserved c =
    let row : List ℕ = c.row-row.result.now in
    let i : ℕ = c.loop-word.word-index in
    let h = (c.type_inv.row i).fits in
    (omega (arith, ones-le 64 _ h), omega (arith, sum_word (bit_at row) i _ h (word_bit row i)))

pub returns : goal.returns
returns c =
    let e : c.loop-word.word-index ≡ length c.row-row.result.now = omega arith in
    c.loop-word.invariant.1 ∙ ap (λ (i : ℕ). sum (i * 64) (bit_at c.row-row.result.now)) e
    ∙ ap (λ (row : List ℕ). sum (length row * 64) (bit_at row)) c.row-row.ensures.words ∙ row_ones c.args.self.rows.now c.args.k c.row-row.ensures.table
