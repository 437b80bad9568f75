-- The reach of a list of handsets is the largest squared distance of a near edge inside it, or none where there is none.
--
--     farthest_none, farthest_more     the farthest of none, and of one more
--     farthest_cong                    of two that are the same below n
use Rattle.std.specs.Prelude.{None, Option, Some}
use Prim.Native.Nat.{ℕ, zero, suc, ◌+◌, ◌≤◌, ◌<◌, max}
use native.Mathlib.Omega.{arith}
use native.Mathlib.Decide.{dec_lt}
use native.Mathlib.Numerals.{add-one}
use mathlib.Core.Path.{◌≡◌, refl, sym, ap, ap₂, ◌∙◌, subst}
use mathlib.Core.Logic.{⊎_elim, ◌↔◌}
use mathlib.Core.Bool.{Bool, true, false, ◌&&◌, ◌||◌, cond}
use mathlib.Core.List.{List, [], ◌∷◌}
use lib.Dec.{T, eqb, eqb→eq, T_not}
use Rattle.sets.proofs.Tests.{and_make, and_left, and_right, or_cases, T_true, any_make, any_take, eqb_of, below}
use Rattle.image.specs.Image.{edge_count, edge_records, end_a, end_b, joins, adjacent}
use Rattle.image.specs.Questions.{Accepted, is_loop}
use Rattle.near.specs.Near.{proximity}
use Rattle.image.proofs.Edges.{joins_cases, joins_one}
use Rattle.near.proofs.Near.{near_apart, near_same, proximity_comm, near_limit}
use Rattle.community.specs.Network.{contains}
use Rattle.community.specs.Reach.{farther, farthest, inside, reach, Spans, ReachMeans}

pub farthest_none : (f : ℕ → Option ℕ) → farthest 0 f ≡ None
unfolding farthest
farthest_none f = refl

pub farthest_more : (n : ℕ) (f : ℕ → Option ℕ) → farthest (n + 1) f ≡ farther (farthest n f) (f n)
unfolding farthest
farthest_more n f = ap (λ (k : ℕ). farthest k f) (add-one n)

pub farthest_cong : (n : ℕ) (f g : ℕ → Option ℕ) → ((k : ℕ) → k < n → f k ≡ g k) → farthest n f ≡ farthest n g
unfolding farthest
farthest_cong zero f g e = refl
farthest_cong (suc n) f g e = ap₂ farther (farthest_cong n f g (λ k h. e k (omega arith))) (e n (omega arith))

-- ---- the farthest of several answers: one of them tells it, and none tells more

record Farthest (n : ℕ) (f : ℕ → Option ℕ) (r : Option ℕ) : Type 0 where
  pub told : (d : ℕ) → r ≡ Some d → (k : ℕ) × (k < n) × (f k ≡ Some d)
  pub most : (k d : ℕ) → k < n → f k ≡ Some d → (e : ℕ) × (r ≡ Some e) × (d ≤ e)

farther_is : (n : ℕ) (f : ℕ → Option ℕ) (r p : Option ℕ) → f n ≡ p → Farthest n f r → Farthest (suc n) f (farther r p)
unfolding farther
farther_is n f (Some d) (Some e) h x = record {
  told = λ c q. pick c (near_same q) (dec_lt d e);
  most = λ k c l q.
      ⊎_elim
      (λ i. (max d e, refl, omega (arith, near_same (sym q ∙ ap f i ∙ h))))
      (λ i. let m = x.most k c i q in (max d e, refl, omega (arith, m.2, near_same m.1)))
      (below l);
}
  where
    pick : (c : ℕ) → max d e ≡ c → Dec (d < e) → (k : ℕ) × (k < suc n) × (f k ≡ Some c)
    pick c q (yes l) = (n, omega arith, h ∙ ap Some (let i : e ≡ c = omega arith in i))
    pick c q (no l) = let t = x.told d refl in (t.0, omega (arith, t.1), t.2 ∙ ap Some (let i : d ≡ c = omega arith in i))
farther_is n f (Some d) None h x = record {
  told = λ c q. let t = x.told c q in (t.0, omega (arith, t.1), t.2);
  most = λ k c l q. ⊎_elim (λ i. near_apart c (sym h ∙ ap f (sym i) ∙ q)) (λ i. x.most k c i q) (below l);
}
farther_is n f None p h x = record {
  told = λ c q. (n, omega arith, h ∙ q);
  most = λ k c l q.
      ⊎_elim (λ i. (c, sym h ∙ ap f (sym i) ∙ q, omega arith)) (λ i. let m = x.most k c i q in near_apart m.0 m.1) (below l);
}

farthest_is : (n : ℕ) (f : ℕ → Option ℕ) → Farthest n f (farthest n f)
unfolding farthest
farthest_is zero f = record { told = λ d q. near_apart d q; most = λ k d h q. absurd (omega arith) }
farthest_is (suc n) f = farther_is n f (farthest n f) (f n) refl (farthest_is n f)

-- ---- the reach of a list

module _ (s l : List ℕ) where
  -- what an edge makes of the reach
  abbrev share : ℕ → Option ℕ
  share k = cond (inside s l k) (proximity s (end_a (edge_records s) k) (end_b (edge_records s) k)) None

  spans_share : (d : ℕ) → Spans s l d → (k : ℕ) × (k < edge_count s) × (share k ≡ Some d)
  unfolding adjacent inside
  spans_share d x =
      let u : ℕ = x.0 in
      let v : ℕ = x.1 in
      let r = any_take (edge_count s) (joins (edge_records s) u v) x.4 in
      let made : (a b : ℕ) → T (contains a l) → T (contains b l) → cond (contains a l && contains b l) (proximity s a b) None ≡ proximity s a b =
      λ a b y z. ap (λ (t : Bool). cond t (proximity s a b) None) (T_true (contains a l && contains b l) (and_make (contains a l) (contains b l) y z)) in (
        r.0,
        r.1,
        ⊎_elim
            (λ e. ap₂ (λ (a b : ℕ). cond (contains a l && contains b l) (proximity s a b) None) e.0 e.1 ∙ made u v x.2 x.3 ∙ x.5)
            (λ e. ap₂ (λ (a b : ℕ). cond (contains a l && contains b l) (proximity s a b) None) e.0 e.1 ∙ made v u x.3 x.2 ∙ proximity_comm s v u ∙ x.5)
            (joins_cases (edge_records s) u v r.0 r.2),
      )

  share_spans : (d k : ℕ) → k < edge_count s → share k ≡ Some d → Spans s l d
  unfolding adjacent inside
  share_spans d k h q = go (inside s l k) refl q
    where
      a : ℕ
      a = end_a (edge_records s) k

      b : ℕ
      b = end_b (edge_records s) k

      go : (t : Bool) → inside s l k ≡ t → cond t (proximity s a b) None ≡ Some d → Spans s l d
      go true e q =
          let y : T (contains a l && contains b l) = subst T (sym e) tt in (
            a,
            b,
            and_left (contains a l) (contains b l) y,
            and_right (contains a l) (contains b l) y,
            any_make (edge_count s) (joins (edge_records s) a b) k h (joins_one (edge_records s) a b k refl refl),
            q,
          )
      go false e q = near_apart d q

  held : Farthest (edge_count s) share (reach s l)
  unfolding reach
  held = farthest_is (edge_count s) share

  reach_spans : (d : ℕ) → reach s l ≡ Some d → Spans s l d
  reach_spans d e = let t = held.told d e in share_spans d t.0 t.1 t.2

  spans_reach : (d : ℕ) → Spans s l d → (e : ℕ) × (reach s l ≡ Some e) × (d ≤ e)
  spans_reach d x = let p = spans_share d x in held.most p.0 d p.1 p.2

  largest_is : (d : ℕ) → (reach s l ≡ Some d) ↔ (Spans s l d × ((e : ℕ) → Spans s l e → e ≤ d))
  largest_is d = (to, from)
    where
      to : reach s l ≡ Some d → Spans s l d × ((e : ℕ) → Spans s l e → e ≤ d)
      to q = (reach_spans d q, λ e x. let m = spans_reach e x in omega (arith, m.2, near_same (sym q ∙ m.1)))

      from : Spans s l d × ((e : ℕ) → Spans s l e → e ≤ d) → reach s l ≡ Some d
      from x =
          let m = spans_reach d x.0 in
          m.1 ∙ ap Some (let i : m.0 ≡ d = omega (arith, m.2, x.1 m.0 (reach_spans m.0 m.1)) in i)

  none_is : (reach s l ≡ None) ↔ ((d : ℕ) → Spans s l d → ⊥)
  none_is = (λ q d x. let m = spans_reach d x in near_apart m.0 (sym q ∙ m.1), λ f. go f (reach s l) refl)
    where
      go : ((d : ℕ) → Spans s l d → ⊥) → (r : Option ℕ) → reach s l ≡ r → r ≡ None
      go f (Some d) q = absurd (f d (reach_spans d q))
      go f None q = refl

-- an edge between two of a list of one would be a loop
alone_none : (s : List ℕ) (v : ℕ) → Accepted s → (d : ℕ) → Spans s (v ∷ []) d → ⊥
unfolding contains is_loop adjacent
alone_none s v ok d x =
    let only : (u : ℕ) → T (eqb u v || false) → u ≡ v = λ u t. ⊎_elim (eqb→eq u v) (λ f. absurd f) (or_cases (eqb u v) false t) in
    let same : x.0 ≡ x.1 = only x.0 x.2 ∙ sym (only x.1 x.3) in
    let r = any_take (edge_count s) (joins (edge_records s) x.0 x.1) x.4 in
    let a : ℕ = end_a (edge_records s) r.0 in
    let b : ℕ = end_b (edge_records s) r.0 in
    T_not (eqb a b) (ok.q9 r.0 r.1)
    (eqb_of a b (⊎_elim (λ e. e.0 ∙ same ∙ sym e.1) (λ e. e.0 ∙ sym same ∙ sym e.1) (joins_cases (edge_records s) x.0 x.1 r.0 r.2)))

pub reach_means : ReachMeans
reach_means = record {
  largest = largest_is;
  none = none_is;
  in_limit = λ s l d q. let x = reach_spans s l d q in near_limit s x.0 x.1 d x.5;
  alone = λ s v ok. (none_is s (v ∷ [])).1 (alone_none s v ok);
}
