-- What similarity goes by (paper 01, "Near, alike, core": common members are counted as ones). The test itself is meets_epsilon of community/specs/Network.
--
--     in_both a b    how many numbers below 512 are in both sets of words
use Rattle.std.specs.Prelude.{ℕ, min, List}
use Rattle.sets.specs.Below.{sum}
use Rattle.sets.specs.Bits.{bit_at}

unfoldable pub in_both : List ℕ → List ℕ → ℕ
unfolding sum bit_at
in_both a b = sum 512 (λ v. min (bit_at a v) (bit_at b v))
