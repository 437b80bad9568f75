-- A network and the network with its handsets renumbered: the same communities, numbered back, the same number of communities, and the same roles.
use Prim.Native.Nat.{ℕ, ◌≤◌, ◌<◌}
use native.Mathlib.Nat.{le_antisymm}
use mathlib.Core.Path.{◌≡◌, sym, ap, ap₂, ◌∙◌, subst}
use mathlib.Core.Bool.{Bool, true, ◌&&◌, and-true}
use lib.Dec.{T, leb}
use lib.ListN.{length}
use Rattle.sets.specs.Below.{count}
use Rattle.sets.proofs.Tests.{and_make, and_left, and_right, T-ext}
use Rattle.sets.proofs.Selecting.{length_select}
use Rattle.sets.specs.Renumbering.{Renumbering}
use Rattle.sets.proofs.Counting.{count_cong, count_across, count_pairs_lem, inverse}
use Rattle.community.specs.Network.{Network, neighbourhood_size, common_neighbours, meets_epsilon, similar, is_core, step, Reachable, one, more, reachable, IsCommunity, is_leader, leaders, communities}
use Rattle.community.specs.Renumbered.{NumberedBack}
use Rattle.community.proofs.Reachability.{Reachable-trans, from_below, to_below, reachable_sound, reachable_complete}
use Rattle.community.specs.ForProofs.{Sound}
use Rattle.community.proofs.Similarity.{core_self, Reachable-back}
use Rattle.community.proofs.Communities.{leader_of, leader_one, leader_core, length_communities}

-- how many leaders reach v: the count of its communities (proofs/Roles)
unfoldable pub leaders_reaching : Network → ℕ → ℕ
leaders_reaching g v = count g.n (λ u. is_leader g u && reachable g u v)

pub length_leaders : (g : Network) → length (leaders g) ≡ count g.n (is_leader g)
unfolding leaders
length_leaders g = length_select g.n (is_leader g)

-- g with another neighbour relation
abbrev pub with_neighbour : Network → (ℕ → ℕ → Bool) → Network
with_neighbour g b = record { n = g.n; neighbour = b; p = g.p; q = g.q; mu = g.mu }

-- b is g's neighbour relation, renumbered
abbrev pub Moved : (g : Network) → (ℕ → ℕ → Bool) → Renumbering g.n → Type 0
Moved g b r = (u v : ℕ) → u < g.n → v < g.n → b (r.to u) (r.to v) ≡ g.neighbour u v

module _ (g : Network) (b : ℕ → ℕ → Bool) (r : Renumbering g.n) (moved : Moved g b r) where
  pub neighbourhood_size_moved : (u : ℕ) → u < g.n → neighbourhood_size (with_neighbour g b) (r.to u) ≡ neighbourhood_size g u
  unfolding neighbourhood_size
  neighbourhood_size_moved u hu = sym (count_across r (g.neighbour u) (b (r.to u)) (λ v h. moved u v hu h))

  common_neighbours_moved : (u v : ℕ) → u < g.n → v < g.n → common_neighbours (with_neighbour g b) (r.to u) (r.to v) ≡ common_neighbours g u v
  unfolding common_neighbours
  common_neighbours_moved u v hu hv =
      sym (count_across r (λ w. g.neighbour u w && g.neighbour v w) (λ w. b (r.to u) w && b (r.to v) w)
      (λ w h. ap₂ ◌&&◌ (moved u w hu h) (moved v w hv h)))

  similar_moved : (u v : ℕ) → u < g.n → v < g.n → similar (with_neighbour g b) (r.to u) (r.to v) ≡ similar g u v
  unfolding similar meets_epsilon
  similar_moved u v hu hv = rw (moved u v hu hv, common_neighbours_moved u v hu hv, neighbourhood_size_moved u hu, neighbourhood_size_moved v hv)

  pub core_moved : (u : ℕ) → u < g.n → is_core (with_neighbour g b) (r.to u) ≡ is_core g u
  unfolding is_core
  core_moved u hu = ap (leb g.mu) (sym (count_across r (similar g u) (similar (with_neighbour g b) (r.to u)) (λ v h. similar_moved u v hu h)))

  step_moved : (u v : ℕ) → u < g.n → v < g.n → step (with_neighbour g b) (r.to u) (r.to v) ≡ step g u v
  unfolding step
  step_moved u v hu hv = ap₂ ◌&&◌ (core_moved u hu) (similar_moved u v hu hv)

  Reachable-moved : {u v : ℕ} → Reachable g u v → Reachable (with_neighbour g b) (r.to u) (r.to v)
  Reachable-moved (one {u} {v} x y t) = one (r.to_below u x) (r.to_below v y) (rw (step_moved u v x y) t)
  Reachable-moved (more {u} {v} {w} c y t) = more (Reachable-moved c) (r.to_below w y) (rw (step_moved v w (to_below c) y) t)

-- the way back
pub back_moved : (g : Network) (b : ℕ → ℕ → Bool) (r : Renumbering g.n) → Moved g b r → Moved (with_neighbour g b) g.neighbour (inverse r)
back_moved g b r moved u v hu hv =
    sym (moved (r.back u) (r.back v) (r.back_below u hu) (r.back_below v hv)) ∙ ap₂ b (r.to_back u hu) (r.to_back v hv)

Reachable-unmoved : (g : Network) (b : ℕ → ℕ → Bool) (r : Renumbering g.n) → Moved g b r
    → {u v : ℕ} → Reachable (with_neighbour g b) u v → Reachable g (r.back u) (r.back v)
Reachable-unmoved g b r moved c = Reachable-moved (with_neighbour g b) g.neighbour (inverse r) (back_moved g b r moved) c

pub community_back : (g : Network) (b : ℕ → ℕ → Bool) (r : Renumbering g.n) → Moved g b r
    → (Q : ℕ → Type 0) → IsCommunity (with_neighbour g b) Q → IsCommunity g (NumberedBack r Q)
community_back g b r moved Q d = record {
  handset = λ v x. x.0;
  has_core =
      let c : ℕ = d.has_core.0 in
      let h : c < g.n = d.handset c d.has_core.1 in (
        r.back c,
        (r.back_below c h, rw (r.to_back c h) d.has_core.1),
        rw (core_moved (with_neighbour g b) g.neighbour (inverse r) (back_moved g b r moved) c h) d.has_core.2,
      );
  together = λ v w x y.
      let t = d.together (r.to v) (r.to w) x.1 y.1 in (
        r.back t.0,
        subst (Reachable g (r.back t.0)) (r.back_to v x.0) (Reachable-unmoved g b r moved t.1),
        subst (Reachable g (r.back t.0)) (r.back_to w y.0) (Reachable-unmoved g b r moved t.2),
      );
  closed = λ v w x c. (to_below c, d.closed (r.to v) (r.to w) x.1 (Reachable-moved g b r moved c));
}

-- as many leader pass a test that depends on the community alone, before the renumbering as after
module _ (g : Network) (b : ℕ → ℕ → Bool) (r : Renumbering g.n) (moved : Moved g b r) (ok : Sound g) (ok' : Sound (with_neighbour g b)) where
  reachable_moved : (u v : ℕ) → u < g.n → v < g.n → reachable (with_neighbour g b) (r.to u) (r.to v) ≡ reachable g u v
  reachable_moved u v hu hv =
      T-ext (reachable (with_neighbour g b) (r.to u) (r.to v)) (reachable g u v)
      (λ t.
      reachable_complete g
      (rw (r.back_to u hu, r.back_to v hv) at
      (Reachable-unmoved g b r moved (reachable_sound (with_neighbour g b) (r.to u) (r.to v) (r.to_below u hu) (r.to_below v hv) t))))
      (λ t. reachable_complete (with_neighbour g b) (Reachable-moved g b r moved (reachable_sound g u v hu hv t)))

  -- u's community is, in the renumbered network, the community of the leader w
  Same : ℕ → ℕ → Type 0
  Same u w = Reachable (with_neighbour g b) w (r.to u)

  leaders_le : (f f' : ℕ → Bool)
      → ((u w : ℕ) → u < g.n → w < g.n → T (is_leader g u) → Same u w → T (f u) → T (f' w))
      → count g.n (λ u. is_leader g u && f u) ≤ count g.n (λ w. is_leader (with_neighbour g b) w && f' w)
  unfolding Same
  leaders_le f f' pass =
      count_pairs_lem g.n (λ u. is_leader g u && f u) g.n (λ w. is_leader (with_neighbour g b) w && f' w) Same (record {
        pair = λ u h t.
            let tu : T (is_leader g u) = and_left (is_leader g u) (f u) t in
            let c : T (is_core (with_neighbour g b) (r.to u)) = rw (core_moved g b r moved u h) (leader_core g u tu) in
            let m = leader_of ok' (r.to u) (r.to_below u h) c in (
              m.0,
              from_below m.2,
              and_make (is_leader (with_neighbour g b) m.0) (f' m.0) m.1 (pass u m.0 h (from_below m.2) tu m.2 (and_right (is_leader g u) (f u) t)),
              m.2,
            );
        apart = λ u v w hu hv tu tv x y.
            let fu : T (is_leader g u) = and_left (is_leader g u) (f u) tu in
            let fv : T (is_leader g v) = and_left (is_leader g v) (f v) tv in
            let cu : T (is_core (with_neighbour g b) (r.to u)) = rw (core_moved g b r moved u hu) (leader_core g u fu) in
            let z : Reachable g u v =
            rw (r.back_to u hu, r.back_to v hv) at (Reachable-unmoved g b r moved (Reachable-trans (Reachable-back ok' x cu) y)) in
            leader_one ok u v v fu fv (leader_core g v fv) z (core_self ok v hv (leader_core g v fv));
      })

module _ (g : Network) (b : ℕ → ℕ → Bool) (r : Renumbering g.n) (moved : Moved g b r) (ok : Sound g) (ok' : Sound (with_neighbour g b)) where
  -- a handset is in as many communities
  pub leaders_reaching_moved : (v : ℕ) → v < g.n → leaders_reaching g v ≡ leaders_reaching (with_neighbour g b) (r.to v)
  unfolding leaders_reaching Same
  leaders_reaching_moved v hv =
      le_antisymm
      (leaders_le g b r moved ok ok' (λ u. reachable g u v) (λ w. reachable (with_neighbour g b) w (r.to v))
      (λ u w hu hw t s x. reachable_complete (with_neighbour g b) (Reachable-trans s (Reachable-moved g b r moved (reachable_sound g u v hu hv x)))))
      (leaders_le (with_neighbour g b) g.neighbour (inverse r) (back_moved g b r moved) ok' ok (λ w. reachable (with_neighbour g b) w (r.to v)) (λ u. reachable g u v)
      (λ w u hw hu t s x.
      reachable_complete g
      (Reachable-trans s
      (rw (r.back_to v hv) at (Reachable-unmoved g b r moved (reachable_sound (with_neighbour g b) w (r.to v) hw (r.to_below v hv) x))))))

  -- there are as many communities
  pub length_communities_moved : length (communities g) ≡ length (communities (with_neighbour g b))
  unfolding Same
  length_communities_moved =
      length_communities g ∙ length_leaders g
      ∙ count_cong g.n (is_leader g) (λ u. is_leader g u && true) (λ u h. sym (and-true (is_leader g u)))
      ∙ le_antisymm
      (leaders_le g b r moved ok ok' (λ u. true) (λ u. true) (λ u w hu hw t s x. tt))
      (leaders_le (with_neighbour g b) g.neighbour (inverse r) (back_moved g b r moved) ok' ok (λ u. true) (λ u. true) (λ u w hu hw t s x. tt))
      ∙ count_cong g.n (λ u. is_leader (with_neighbour g b) u && true) (is_leader (with_neighbour g b)) (λ u h. and-true (is_leader (with_neighbour g b) u))
      ∙ sym (length_communities (with_neighbour g b) ∙ length_leaders (with_neighbour g b))
