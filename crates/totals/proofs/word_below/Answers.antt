-- `totals::word_below` meets its contract: the bits below the distance to n, or all.
use Prim.Native.Nat.{ℕ, ◌-◌, ◌^◌}
use native.Mathlib.Omega.{arith}
use mathlib.Core.Path.{ap, ◌∙◌}
use Rattle.sets.proofs.Bits.{shl_one}
use Rattle.totals.proofs.Words.{all_below, some_below}
use Rattle.totals.proofs.word_below.Goals as goal

pub returns-then-below-lt64 : goal.returns-then-below-lt64
returns-then-below-lt64 c =
    some_below c.args.n c.args.j _
    (ap (λ (x : ℕ). x - 1) (shl_one c.saturating_sub-below.result c.if-below-lt64.true) ∙ ap (λ (x : ℕ). 2 ^ x - 1) c.saturating_sub-below.ensures)

pub returns-else-below-lt64 : goal.returns-else-below-lt64
returns-else-below-lt64 c = all_below _ _ (omega arith)
