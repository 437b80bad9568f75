-- `scores::pairs_of` meets its contract: twice the pairs, and the places, make the square of the places, which is at most 512 * 512.
use native.Mathlib.Omega.{arith}
use mathlib.Core.Path.{sym}
use Rattle.scores.proofs.Pairing.{pairs_half}
use Rattle.scores.proofs.pairs_of.Goals as goal

pub returns : goal.returns
returns c = rw (sym c.min-n.ensures) (omega (arith, pairs_half c.min-n.result))
