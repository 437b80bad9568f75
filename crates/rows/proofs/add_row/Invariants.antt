-- `rows::add_row` meets its contract. The invariant: the words passed have the row added, and the others are as they were.
use Prim.Native.Nat.{ℕ, ◌+◌, ◌*◌, ◌≤◌, ◌<◌}
use mathlib.Core.Path.{◌≡◌}
use mathlib.Core.List.{List}
use lib.Bits.{bit_and, bit_or}
use lib.ListN.{length, get_or}
use Rattle.rows.proofs.add_row.Given as goal

-- the first j words hold what f says, and the others what they held
pub record Stored (f : ℕ → ℕ) (ws₀ : List ℕ) (j : ℕ) (ws : List ℕ) : Type 0 where
  pub new : (i : ℕ) → i < j → get_or ws i 0 ≡ f i
  pub old : (i : ℕ) → j ≤ i → get_or ws i 0 ≡ get_or ws₀ i 0

abbrev pub invariant-loop-j : goal.invariant-loop-j
invariant-loop-j l = (length l.once ≡ 8) × (length l.twice ≡ 8)
    × Stored (λ i. bit_or (get_or l.initial.once i 0) (get_or l.rows (l.k * 8 + i) 0)) l.initial.once l.j l.once
    × Stored (λ i. bit_or (get_or l.initial.twice i 0) (bit_and (get_or l.initial.once i 0) (get_or l.rows (l.k * 8 + i) 0))) l.initial.twice l.j l.twice
