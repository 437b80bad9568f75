-- Two images whose parameters and records are the same get the same answers to questions 7 to 10: these four let every header through, or are one
-- refusal, whatever header comes after them.
--
--     SameRecords s t   the images s and t have the same parameters and the same records
--     SameOpening s t   both images are accepted, or both are refused with the same number, 7 to 10, and place
--     same_opening      that is so where their parameters and records are the same and both headers are accepted
use Rattle.std.specs.Prelude.{Err, Ok, Result}
use Prim.Native.Nat.{ℕ, ◌≤◌}
use native.Mathlib.Omega.{arith}
use mathlib.Core.Path.{◌≡◌, refl, sym, ◌∙◌}
use mathlib.Core.Logic.{◌⊎◌, inl, inr}
use mathlib.Core.Bool.{Bool, true, false, not}
use mathlib.Core.List.{List}
use Rattle.sets.specs.Below.{any, find}
use Rattle.limits.specs.Limits.{out_of_limits}
use Rattle.image.specs.Image.{header_of, handset_records, edge_records, handset_record}
use Rattle.image.specs.Questions.{bad_end, is_loop, repeats_earlier, ask, ask_each, ask_edges, ask_records, open_of, HeaderAccepted}
use Rattle.image.specs.declared.Refusal.{Refusal}
use Rattle.image.proofs.Acceptance.{go_on_header}
use Rattle.layout.specs.declared.Parameters.{Parameters}
use Rattle.image.specs.declared.Header.{Header}
use Rattle.writer.specs.Holds.{parameters_of}

pub record SameRecords (s t : List ℕ) : Type 0 where
  pub parameters : parameters_of (header_of s) ≡ parameters_of (header_of t)
  pub handsets : handset_records s ≡ handset_records t
  pub edges : edge_records s ≡ edge_records t

abbrev pub SameOpening : List ℕ → List ℕ → Type 0
SameOpening s t =
    ((open_of s ≡ Ok (header_of s)) × (open_of t ≡ Ok (header_of t)))
    ⊎ ((q : Refusal) × (7 ≤ q.number) × (q.number ≤ 10) × (open_of s ≡ Err q) × (open_of t ≡ Err q))

-- what questions make of the answer that comes after them
abbrev Settled : ((Result Header Refusal) → Result Header Refusal) → Type 0
Settled f = ((next : Result Header Refusal) → f next ≡ next) ⊎ ((q : Refusal) × (7 ≤ q.number) × (q.number ≤ 10) × ((next : Result Header Refusal) → f next ≡ Err q))

each_settled : (n : ℕ) (bad : ℕ → Bool) (k : ℕ) → 7 ≤ k → k ≤ 10 → (rest : Result Header Refusal → Result Header Refusal) → Settled rest → Settled (λ next. ask_each n bad k (rest next))
unfolding ask_each ask
each_settled n bad k l h rest a = go (not (any n bad))
  where
    go : (b : Bool) → Settled (λ next. ask b k (find n bad) (rest next))
    go true = a
    go false = inr (record { number = k; place = find n bad }, l, h, λ next. refl)

-- questions 7 to 10
abbrev asked : Parameters → List ℕ → List ℕ → Result Header Refusal → Result Header Refusal
asked x handsets edges next =
    ask_each x.n (λ v. out_of_limits (handset_record handsets v)) 7
    (ask_each x.m (bad_end edges x.n) 8 (ask_each x.m (is_loop edges) 9 (ask_each x.m (repeats_earlier edges) 10 next)))

asked_settled : (x : Parameters) (handsets edges : List ℕ) → Settled (asked x handsets edges)
asked_settled x handsets edges =
    each_settled x.n _ 7 (omega arith) (omega arith) _
    (each_settled x.m _ 8 (omega arith) (omega arith) _
    (each_settled x.m _ 9 (omega arith) (omega arith) _
    (each_settled x.m _ 10 (omega arith) (omega arith) (λ next. next) (inl (λ next. refl)))))

open_asked : (s : List ℕ) → HeaderAccepted s → open_of s ≡ asked (parameters_of (header_of s)) (handset_records s) (edge_records s) (Ok (header_of s))
unfolding open_of ask_records ask_edges
open_asked s ok = go_on_header s _ ok

module _ (s t : List ℕ) (same : SameRecords s t) (ok : HeaderAccepted s) (fine : HeaderAccepted t) where
  pub same_opening : SameOpening s t
  same_opening = go (asked_settled (parameters_of (header_of s)) (handset_records s) (edge_records s))
    where
      of_t : open_of t ≡ asked (parameters_of (header_of s)) (handset_records s) (edge_records s) (Ok (header_of t))
      of_t = open_asked t fine ∙ sym (λ i. asked (same.parameters i) (same.handsets i) (same.edges i) (Ok (header_of t)))

      go : Settled (asked (parameters_of (header_of s)) (handset_records s) (edge_records s)) → SameOpening s t
      go (inl f) = inl (open_asked s ok ∙ f (Ok (header_of s)), of_t ∙ f (Ok (header_of t)))
      go (inr (q, l, h, f)) = inr (q, l, h, open_asked s ok ∙ f (Ok (header_of s)), of_t ∙ f (Ok (header_of t)))
