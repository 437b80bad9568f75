-- `rows::Groups::row` meets its contract: the slice has the eight words of the row, or none.
use mathlib.Core.Path.{ap}
use Prim.Native.Nat.{ℕ, ◌+◌, ◌*◌}
use native.Mathlib.Omega.{arith}
use Rattle.rows.proofs.Rows.{row_slice}
use Rattle.rows.proofs.Groups.row.Goals as goal

pub returns-clause-words : goal.returns-clause-words
returns-clause-words c = row_slice c.args.self.rows.now c.args.k _ _ (omega arith) (ap (λ (n : ℕ). n * 8) c.min-first.ensures) (ap (λ (n : ℕ). n * 8 + 8) c.min.ensures)
