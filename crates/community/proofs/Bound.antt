-- Memberships are at most n + 2 m. A core is in one community, and a border's communities are each entered over an edge of its own, so each
-- handset has at most one membership more than it has edges, and each edge has two ends.
use Prim.Native.Nat.{ℕ, zero, suc, ◌+◌, ◌*◌, ◌≤◌, ◌<◌}
use native.Mathlib.Omega.{arith}
use native.Mathlib.Nat.{le_trans}
use mathlib.Core.Path.{◌≡◌, refl, sym, ap, ◌∙◌, subst}
use mathlib.Core.Logic.{⊎_elim}
use mathlib.Core.Bool.{Bool, true, ◌&&◌, ◌||◌, not}
use mathlib.Core.List.{List, [], ◌∷◌, ◌++◌, map}
use lib.Dec.{T, eqb, eqb→eq, T_not, not_T}
use lib.ListN.{length, length-append}
use Rattle.sets.specs.Below.{count, select, sum}
use Rattle.sets.proofs.Tests.{and_make, and_left, and_right, or_left, or_right, decide, any_take, eqb_of, T_true, T_false}
use Rattle.sets.proofs.Selecting.{map_append, select_yes, select_no, length_select}
use Rattle.sets.proofs.Counting.{count_pairs_lem, count_le, count_false, count_eqb, count_or, count_swap, sum_le, sum_add, sum_const}
use Rattle.image.specs.Image.{adjacent, edge_count, edge_records, handset_count, joins, end_a, end_b}
use Rattle.image.specs.Questions.{Accepted}
use Rattle.near.proofs.Near.{neighbour_cases}
use Rattle.near.specs.Near.{neighbour}
use Rattle.community.specs.Network.{Network, similar, meets_epsilon, common_neighbours, neighbourhood_size, is_core, step, Reachable, one, more, reachable, is_leader, leaders, members, communities}
use Rattle.community.specs.Tables.{member_table}
use Rattle.community.specs.Renumbered.{SamePair}
use Rattle.community.specs.Site.{network}
use Rattle.community.proofs.Reachability.{reachable_sound, to_below}
use Rattle.community.specs.ForProofs.{Sound}
use Rattle.community.proofs.Similarity.{step_core, step_similar, core_self}
use Rattle.community.proofs.Communities.{leader_one}
use Rattle.community.proofs.Site.{accepted_sound}
use Rattle.community.proofs.Edges.{joins_take}
use Rattle.community.proofs.Renumber.{leaders_reaching}

-- ---- memberships, counted by handset

member_table_append : (a b : List (List ℕ)) → length (member_table (a ++ b)) ≡ length (member_table a) + length (member_table b)
unfolding member_table
member_table_append [] b = omega arith
member_table_append (x ∷ a) b = omega (arith, length-append x (member_table (a ++ b)), length-append x (member_table a), member_table_append a b)

member_table_count : (n m : ℕ) (f : ℕ → Bool) (h : ℕ → ℕ → Bool)
    → length (member_table (map (λ u. select m (h u)) (select n f))) ≡ sum n (λ u. count m (λ v. f u && h u v))
unfolding member_table select sum
member_table_count zero m f h = refl
member_table_count (suc n) m f h =
    ⊎_elim
    (λ t.
    ap (λ (l : List ℕ). length (member_table (map (λ u. select m (h u)) l))) (select_yes n f t)
    ∙ ap (λ (l : List (List ℕ)). length (member_table l)) (map_append (λ u. select m (h u)) (select n f) (n ∷ []))
    ∙ member_table_append (map (λ u. select m (h u)) (select n f)) (map (λ u. select m (h u)) (n ∷ []))
    ∙ rw (T_true (f n) t) (omega (arith, member_table_count n m f h, length-append (select m (h n)) [], length_select m (h n))))
    (λ t.
    ap (λ (l : List ℕ). length (member_table (map (λ u. select m (h u)) l))) (select_no n f t)
    ∙ rw (T_false (f n) t) (omega (arith, member_table_count n m f h, count_false m)))
    (decide (f n))

pub memberships : (g : Network) → length (member_table (communities g)) ≡ sum g.n (leaders_reaching g)
unfolding communities leaders members leaders_reaching
memberships g =
    member_table_count g.n g.n (is_leader g) (reachable g) ∙ count_swap g.n g.n (λ u v. is_leader g u && reachable g u v)

-- ---- the communities of one handset

-- the handsets neighbour v, but for itself
unfoldable pub others : Network → ℕ → ℕ → Bool
others g v w = g.neighbour w v && not (eqb w v)

-- the last step of a chain
last : {g : Network} {u v : ℕ} → Sound g → Reachable g u v → (w : ℕ) × T (step g w v) × Reachable g u w × (w < g.n)
last {g} ok (one {u} {v} a b t) = (u, t, core_self ok u a (step_core ok u v t), a)
last {g} ok (more {u} {v} {w} r b t) = (v, t, r, to_below r)

module _ {g : Network} (ok : Sound g) where
  similar_neighbours : (w v : ℕ) → T (similar g w v) → T (g.neighbour w v)
  unfolding similar
  similar_neighbours w v t = and_left (g.neighbour w v) (meets_epsilon g.p g.q (common_neighbours g w v) (neighbourhood_size g w) (neighbourhood_size g v)) t

  groups_of_core : (v : ℕ) → v < g.n → T (is_core g v) → leaders_reaching g v ≤ 1
  unfolding leaders_reaching
  groups_of_core v h c =
      le_trans
      (count_pairs_lem g.n (λ u. is_leader g u && reachable g u v) 1 (λ w. true) (λ u w. w ≡ 0) (record {
        pair = λ u l t. (0, omega arith, tt, refl);
        apart = λ u w z hu hw tu tw x y.
            leader_one ok u w v (and_left (is_leader g u) (reachable g u v) tu) (and_left (is_leader g w) (reachable g w v) tw) c
            (reachable_sound g u v hu h (and_right (is_leader g u) (reachable g u v) tu))
            (reachable_sound g w v hw h (and_right (is_leader g w) (reachable g w v) tw));
      }))
      (count_le 1 (λ w. true))

  groups_of_border : (v : ℕ) → v < g.n → T (not (is_core g v)) → leaders_reaching g v ≤ count g.n (others g v)
  unfolding leaders_reaching others
  groups_of_border v h c =
      count_pairs_lem g.n (λ u. is_leader g u && reachable g u v) g.n (others g v) (λ u w. Reachable g u w × T (is_core g w)) (record {
        pair = λ u l t.
            let m = last ok (reachable_sound g u v l h (and_right (is_leader g u) (reachable g u v) t)) in
            let w : ℕ = m.0 in (
              w,
              m.3,
              and_make (g.neighbour w v) (not (eqb w v)) (similar_neighbours w v (step_similar ok w v m.1))
                  (not_T (eqb w v) (λ e. T_not (is_core g v) c (subst (λ (x : ℕ). T (is_core g x)) (eqb→eq w v e) (step_core ok w v m.1)))),
              (m.2, step_core ok w v m.1),
            );
        apart = λ u w z hu hw tu tw x y.
            leader_one ok u w z (and_left (is_leader g u) (reachable g u v) tu) (and_left (is_leader g w) (reachable g w v) tw) x.1 x.0 y.0;
      })

  pub memberships_le : length (member_table (communities g)) ≤ g.n + sum g.n (λ v. count g.n (others g v))
  memberships_le =
      omega (
        arith,
        memberships g,
        sum_const g.n 1,
        sum_add g.n (λ v. 1) (λ v. count g.n (others g v)),
        sum_le g.n (leaders_reaching g) (λ v. 1 + count g.n (others g v))
            (λ v h. ⊎_elim (λ c. omega (arith, groups_of_core v h c)) (λ c. omega (arith, groups_of_border v h c)) (decide (is_core g v))),
      )

-- ---- edges, counted by their ends

-- edge k has v as an end
abbrev touches : List ℕ → ℕ → ℕ → Bool
touches records v k = eqb (end_a records k) v || eqb (end_b records k) v

-- a neighbour other than v has its edge with v
others_edges : (s : List ℕ) (v : ℕ) → count (handset_count s) (others (network s) v) ≤ count (edge_count s) (touches (edge_records s) v)
unfolding others adjacent
others_edges s v =
    let records : List ℕ = edge_records s in
    count_pairs_lem (handset_count s) (others (network s) v) (edge_count s) (touches records v)
    (λ w k. SamePair (end_a records k) (end_b records k) w v × (w ≡ v → ⊥)) (record {
      pair = λ w h t.
          let apart : w ≡ v → ⊥ = λ e. T_not (eqb w v) (and_right (neighbour s w v) (not (eqb w v)) t) (eqb_of w v e) in
          let edge : T (adjacent s w v) =
          ⊎_elim (λ e. absurd (apart e)) (λ x. x) (neighbour_cases s w v (and_left (neighbour s w v) (not (eqb w v)) t)) in
          let m = any_take (edge_count s) (joins records w v) edge in
          let j : SamePair (end_a records m.0) (end_b records m.0) w v = joins_take records w v m.0 m.2 in (
            m.0,
            m.1,
            ⊎_elim
                (λ e. or_right (eqb (end_a records m.0) v) (eqb (end_b records m.0) v) (eqb_of (end_b records m.0) v e.1))
                (λ e. or_left (eqb (end_a records m.0) v) (eqb (end_b records m.0) v) (eqb_of (end_a records m.0) v e.0)) j,
            (j, apart),
          );
      apart = λ w w' k h l x y p q.
          ⊎_elim
          (λ e. ⊎_elim (λ d. sym e.0 ∙ d.0) (λ d. absurd (p.1 (sym e.0 ∙ d.0))) q.0)
          (λ e. ⊎_elim (λ d. absurd (p.1 (sym e.1 ∙ d.1))) (λ d. sym e.1 ∙ d.1) q.0)
          p.0;
    })

ends_sum : (records : List ℕ) (n m : ℕ) → sum n (λ v. count m (touches records v)) ≤ m * 2
ends_sum records n m =
    omega (
      arith,
      count_swap n m (touches records),
      sum_const m 2,
      sum_le m (λ k. count n (λ v. touches records v k)) (λ k. 2)
          (λ k h. omega (arith, count_or n (λ v. eqb (end_a records k) v) (λ v. eqb (end_b records k) v), count_eqb n (end_a records k), count_eqb n (end_b records k))),
    )

pub memberships_bound : (s : List ℕ) → Accepted s → length (member_table (communities (network s))) ≤ handset_count s + 2 * edge_count s
memberships_bound s a =
    omega (
      arith,
      memberships_le (accepted_sound s a),
      ends_sum (edge_records s) (handset_count s) (edge_count s),
      sum_le (handset_count s) (λ v. count (handset_count s) (others (network s) v)) (λ v. count (edge_count s) (touches (edge_records s) v))
          (λ v l. others_edges s v),
    )
