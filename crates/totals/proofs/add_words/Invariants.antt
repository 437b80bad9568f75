-- `totals::add_words` meets its contract. After j turns the totals are those of the first j words, and the set holds the outliers in them.
use Prim.Native.Nat.{ℕ, ◌*◌, ◌<◌}
use mathlib.Core.Path.{◌≡◌}
use lib.ListN.{length}
use Rattle.sets.specs.Below.{bit}
use Rattle.sets.specs.Bits.{bit_at}
use Rattle.totals.specs.Totals.{is_outlier}
use Rattle.totals.specs.ForProofs.{set_role}
use Rattle.totals.proofs.Words.{test, SumsTo}
use Rattle.totals.proofs.add_words.Given as goal

abbrev pub invariant-loop-j : goal.invariant-loop-j
invariant-loop-j l = (l.totals ≡ SumsTo (set_role l.once l.twice l.cores) l.n l.j) × (length l.outliers ≡ 8)
    × ((v : ℕ) → v < l.j * 64 → bit_at l.outliers v ≡ bit (test is_outlier (set_role l.once l.twice l.cores) l.n v))
