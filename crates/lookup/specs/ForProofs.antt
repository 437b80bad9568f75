-- These definitions only serve the proofs; a caller need not believe them.
-- What the lookup works out before it takes the part, for the contracts inside the crate.
--
--     span_of starts size k     the places of the part, where question 14 gets a yes
use Rattle.std.specs.Prelude.{ℕ, ◌+◌, cond, List, None, Option, Some}
use Rattle.std.specs.declared.ops.Range.{Range}
use Rattle.lookup.specs.Lookup.{start_of, placed}

unfoldable pub span_of : List ℕ → ℕ → ℕ → Option (Range ℕ)
unfolding placed
span_of starts size k =
    cond (placed starts size k)
    (Some (record { start = start_of starts k; end = start_of starts (k + 1) }))
    None
