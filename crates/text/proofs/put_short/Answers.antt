-- `text::put_short` meets its contract: the digit of the hundreds and that of the tens where the number has them, and the last.
use Prim.Native.Nat.{◌≤◌}
use native.Mathlib.Omega.{arith}
use mathlib.Core.Path.{◌∙◌}
use lib.ListN.{length}
use Rattle.text.proofs.Writing.{chain_from, from_start}
use Rattle.text.proofs.Decimal.{decimal_one, decimal_two, decimal_three}
use Rattle.text.proofs.put_short.Goals as goal
use Rattle.text.proofs.put_short.Goals.{then-n-ge100, else-n-ge100, then-n-ge10, else-n-ge10}

pub returns : goal.returns
returns c =
    let small : length c.args.buffer.now ≤ 9223372036854775808 = omega arith in
    elim c.if-n-ge100.branch [
      | then-n-ge100 a ↦ elim c.if-n-ge10.branch [
        | then-n-ge10 b ↦
            rw (decimal_three c.args.n (omega (arith, a.if-n-ge100.true)) c.requires)
            (chain_from small b.buffer-is b.next-is (chain_from small a.buffer-is a.next-is a.put_at-next.ensures b.put_at-next-then-n-ge10.ensures) c.put_at.ensures)
        | else-n-ge10 b ↦ absurd (omega (arith, a.if-n-ge100.true, b.if-n-ge10.false))
      ]
      | else-n-ge100 a ↦ elim c.if-n-ge10.branch [
        | then-n-ge10 b ↦
            rw (decimal_two c.args.n (omega (arith, b.if-n-ge10.true)) a.if-n-ge100.false)
            (chain_from small b.buffer-is b.next-is (from_start a.buffer-is a.next-is b.put_at-next-then-n-ge10.ensures) c.put_at.ensures)
        | else-n-ge10 b ↦ rw (decimal_one c.args.n b.if-n-ge10.false) (from_start (b.buffer-is ∙ a.buffer-is) (b.next-is ∙ a.next-is) c.put_at.ensures)
      ]
    ]
