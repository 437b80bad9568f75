-- `graph::Records::is_similar` meets its contract: the slices handed on are the two rows, and the marks that these have in common are tested against their sizes,
-- none of which is above 512.
use Prim.Native.Nat.{ℕ, ◌+◌, ◌*◌, ◌-◌, ◌≤◌, min}
use native.Mathlib.Omega.{arith}
use mathlib.Core.Path.{◌≡◌, ◌∙◌, ap, ap₂}
use mathlib.Core.List.{List}
use lib.ListN.{get_or, take, drop}
use Rattle.sets.specs.Below.{sum}
use Rattle.sets.specs.Bits.{cell}
use Rattle.image.proofs.Rows.{row_most}
use Rattle.community.specs.Network.{meets_epsilon}
use Rattle.similarity.specs.Similarity.{in_both}
use Rattle.similarity.proofs.Shared.{in_both_most, rows_common}
use Rattle.graph.specs.ForProofs.{enough}
use Rattle.graph.proofs.Records.is_similar.Goals as goal

-- the slice that a row is handed on in
abbrev row : List ℕ → ℕ → List ℕ
row ws u = take (u * 8 + 8 - u * 8) (drop (u * 8) ws)

common_is : (ws : List ℕ) (u v n : ℕ) → n ≡ in_both (row ws u) (row ws v) → (n ≡ sum 512 (λ w. min (cell ws u w) (cell ws v w))) × (n ≤ 512)
common_is ws u v n e = (e ∙ ap₂ in_both (long u) (long v) ∙ rows_common ws u v, omega (arith, e, in_both_most (row ws u) (row ws v)))
  where
    long : (u : ℕ) → row ws u ≡ take 8 (drop (u * 8) ws)
    long u = let e : u * 8 + 8 - u * 8 ≡ 8 = omega arith in ap (λ (n : ℕ). take n (drop (u * 8) ws)) e

pub overflow_cast-common : goal.overflow_cast-common
overflow_cast-common c = omega (arith, (common_is c.args.table.now c.ends_at-e.result.a c.ends_at-e.result.b c.common-common.result c.common-common.ensures).1)

pub overflow_cast-sizes : goal.overflow_cast-sizes
overflow_cast-sizes c = omega (arith, row_most c.requires.1 c.ends_at-e.result.a c.ends_at-e.ensures.below.0)

pub overflow_cast-sizes-2 : goal.overflow_cast-sizes-2
overflow_cast-sizes-2 c = omega (arith, row_most c.requires.1 c.ends_at-e.result.b c.ends_at-e.ensures.below.1)

pub returns : goal.returns
returns c =
    c.meets_epsilon.ensures
    ∙ ap (λ (x : ℕ). meets_epsilon c.args.self.now.h.p c.args.self.now.h.q x (get_or c.args.sizes.now c.ends_at-e.result.a 0) (get_or c.args.sizes.now c.ends_at-e.result.b 0))
    (common_is c.args.table.now c.ends_at-e.result.a c.ends_at-e.result.b c.common-common.result c.common-common.ensures).0
    ∙ ap₂ (enough c.args.table.now c.args.sizes.now c.args.self.now.h.p c.args.self.now.h.q) c.ends_at-e.ensures.ends.0 c.ends_at-e.ensures.ends.1
