-- What the first edge at fault, for question 8, 9 or 10, tells of the three questions. Where there is none each gets a yes; and where questions 8 and 9
-- get a yes of all edges, the fault is a repeat, and the first one.
--
--     first_cong          equal tests have the same first
--     first_repeat        the first fault is the first repeat, where no edge is at fault for question 8 or 9
--     edges_yes           no fault: questions 8 to 10 get a yes
--     edges_repeat        the first fault is the refusal with number 10
--     held_related, related_linked     what the tables have after a yes, of the image's own records
use Rattle.std.specs.Prelude.{Err, Ok, Result, Some, None}
use Prim.Native.Nat.{ℕ, zero, suc, ◌*◌, ◌<◌}
use native.Mathlib.Omega.{arith}
use mathlib.Core.Path.{◌≡◌, refl, sym, ◌∙◌, subst}
use mathlib.Core.Bool.{Bool, false, ◌||◌, not}
use mathlib.Core.List.{List}
use lib.Dec.{T, T_not, not_T}
use lib.ListN.{take, drop}
use Rattle.fields.specs.Fields.{edge_bytes}
use Rattle.sets.specs.Below.{any, find, first}
use Rattle.sets.proofs.Tests.{or_left, or_right, any_cong, any_none, T_true}
use Rattle.image.specs.Questions.{bad_end, is_loop, repeats_earlier, ask, ask_each, ask_edges}
use Rattle.image.specs.Image.{header_of, handset_count, edge_count, edge_records, adjacent}
use Rattle.image.specs.Rows.{related, Held}
use Rattle.image.specs.ForProofs.{linked, faulty}
use Rattle.image.specs.declared.Header.{Header}
use Rattle.image.specs.declared.Refusal.{Refusal}
use Rattle.image.proofs.Acceptance.{go_on_each}
use Rattle.image.proofs.Scanning.{first_some, first_nothing, each_yes}

find_cong : (n : ℕ) (f g : ℕ → Bool) → ((k : ℕ) → k < n → f k ≡ g k) → find n f ≡ find n g
unfolding find
find_cong zero f g e = refl
find_cong (suc n) f g e =
    rw (any_cong n f g (λ k h. e k (omega arith)), find_cong n f g (λ k h. e k (omega arith)), e n (omega arith)) refl

first_cong : (n : ℕ) (f g : ℕ → Bool) → ((k : ℕ) → k < n → f k ≡ g k) → first n f ≡ first n g
unfolding first
first_cong n f g e = rw (any_cong n f g e, find_cong n f g e) refl

module _ (edges : List ℕ) (n : ℕ) where
  -- an edge that is not at fault
  no_bad : (k : ℕ) → T (not (faulty edges n k)) → T (not (bad_end edges n k))
  unfolding faulty
  no_bad k t = not_T (bad_end edges n k) (λ x. T_not (faulty edges n k) t (or_left (bad_end edges n k) (is_loop edges k || repeats_earlier edges k) x))

  no_loop : (k : ℕ) → T (not (faulty edges n k)) → T (not (is_loop edges k))
  unfolding faulty
  no_loop k t = not_T (is_loop edges k) (λ x. T_not (faulty edges n k) t (or_right (bad_end edges n k) (is_loop edges k || repeats_earlier edges k) (or_left (is_loop edges k) (repeats_earlier edges k) x)))

  no_repeat : (k : ℕ) → T (not (faulty edges n k)) → T (not (repeats_earlier edges k))
  unfolding faulty
  no_repeat k t = not_T (repeats_earlier edges k) (λ x. T_not (faulty edges n k) t (or_right (bad_end edges n k) (is_loop edges k || repeats_earlier edges k) (or_right (is_loop edges k) (repeats_earlier edges k) x)))

  -- where an edge is at fault for neither 8 nor 9, it is at fault just where it repeats an earlier one
  fault_repeat : (k : ℕ) → bad_end edges n k ≡ false → is_loop edges k ≡ false → faulty edges n k ≡ repeats_earlier edges k
  unfolding faulty
  fault_repeat k b l = rw (b, l)

  pub first_repeat : (m : ℕ) → ((k : ℕ) → k < m → bad_end edges n k ≡ false) → ((k : ℕ) → k < m → is_loop edges k ≡ false)
      → first m (faulty edges n) ≡ first m (repeats_earlier edges)
  first_repeat m b l = first_cong m (faulty edges n) (repeats_earlier edges) (λ k h. fault_repeat k (b k h) (l k h))

module _ (edges : List ℕ) (h : Header) where
  pub edges_yes : None ≡ first h.m (faulty edges h.n) → ask_edges edges h ≡ Ok h
  unfolding ask_edges
  edges_yes e =
      let none = any_none h.m (faulty edges h.n) (first_nothing h.m (faulty edges h.n) (sym e)) in
      go_on_each h.m (bad_end edges h.n) 8 _ (λ k q. no_bad edges h.n k (none k q))
      ∙ go_on_each h.m (is_loop edges) 9 _ (λ k q. no_loop edges h.n k (none k q))
      ∙ go_on_each h.m (repeats_earlier edges) 10 _ (λ k q. no_repeat edges h.n k (none k q))

  pub edges_repeat : (fault : ℕ) → Some fault ≡ first h.m (faulty edges h.n) → ((k : ℕ) → k < h.m → bad_end edges h.n k ≡ false) → ((k : ℕ) → k < h.m → is_loop edges k ≡ false)
      → ask_edges edges h ≡ Err (record { number = 10; place = fault })
  unfolding ask_edges ask_each ask
  edges_repeat fault e b o =
      let r = first_some h.m (repeats_earlier edges) fault (sym (e ∙ first_repeat edges h.n h.m b o)) in
      each_yes h.m (bad_end edges h.n) 8 _ b
      ∙ each_yes h.m (is_loop edges) 9 _ o
      ∙ rw (T_true (any h.m (repeats_earlier edges)) r.0, r.1)

-- ---- what is left behind
-- the relation of the image is that of its records
pub related_linked : (s : List ℕ) (u v : ℕ) → related s u v ≡ linked (handset_count s) (edge_records s) (edge_count s) u v
unfolding related linked adjacent
related_linked s u v = refl

pub held_related : (s : List ℕ) (h : Header) → h ≡ header_of s → {answer : Result Header Refusal} {rows sizes : List ℕ}
    → Held (linked h.n (take (edge_bytes * h.m) (drop h.edges s)) h.m) answer rows sizes → Held (related s) answer rows sizes
unfolding edge_records related linked adjacent
held_related s h e {answer} {rows} {sizes} l =
    subst (λ (x : Header). Held (linked x.n (take (edge_bytes * x.m) (drop x.edges s)) x.m) answer rows sizes) e l
