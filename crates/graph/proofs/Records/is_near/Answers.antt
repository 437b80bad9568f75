-- `graph::Records::is_near` meets its contract: the slices handed on are the records of the two ends.
use Rattle.std.specs.Prelude.{Option}
use Prim.Native.Nat.{ℕ, ◌+◌, ◌*◌, ◌-◌}
use mathlib.Core.Path.{◌≡◌, sym, ap, ap₂, ◌∙◌}
use mathlib.Core.List.{List}
use lib.ListN.{take, drop}
use Rattle.fields.specs.Fields.{handset_bytes}
use Rattle.image.specs.Image.{handset_record, end_a, end_b}
use Rattle.near.specs.Near.{proximity_of, proximity_answer, is_near}
use Rattle.image.proofs.Records.{handset_slice_lem}
use Rattle.near.proofs.Near.{proximity_same}
use Rattle.graph.specs.ForProofs.{edge_proximity}
use Rattle.graph.proofs.Records.is_near.Goals as goal

-- the slice that the record of a handset is handed on in
abbrev slice : List ℕ → ℕ → List ℕ
slice handsets u = take (handset_bytes * u + handset_bytes - handset_bytes * u) (drop (handset_bytes * u) handsets)

tested : (handsets edges : List ℕ) (limit k u v : ℕ) (r : Option ℕ) → u ≡ end_a edges k → v ≡ end_b edges k
    → proximity_answer r ≡ proximity_answer (proximity_of (slice handsets u) (slice handsets v) limit) → r ≡ edge_proximity handsets edges limit k
tested handsets edges limit k u v r a b e =
    let test : List ℕ → List ℕ → (Option ℕ) = λ x y. proximity_of x y limit in
    proximity_same _ _ e
    ∙ ap₂ test (handset_slice_lem handsets u) (handset_slice_lem handsets v)
    ∙ ap₂ (λ (u v : ℕ). test (handset_record handsets u) (handset_record handsets v)) a b

pub returns-in-Some : goal.returns-in-Some
unfolding is_near
returns-in-Some c =
    ap is_near (sym c.in-Some.is ∙ tested c.args.self.now.handsets.now c.args.self.now.edges.now c.args.self.now.h.limit c.args.k c.ends_at-e.result.a c.ends_at-e.result.b _
    c.ends_at-e.ensures.ends.0 c.ends_at-e.ensures.ends.1 c.proximity_of.ensures)

pub returns-in-None : goal.returns-in-None
unfolding is_near
returns-in-None c =
    ap is_near (sym c.in-None.is ∙ tested c.args.self.now.handsets.now c.args.self.now.edges.now c.args.self.now.h.limit c.args.k c.ends_at-e.result.a c.ends_at-e.result.b _
    c.ends_at-e.ensures.ends.0 c.ends_at-e.ensures.ends.1 c.proximity_of.ensures)
