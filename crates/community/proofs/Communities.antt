-- A set is one of the listed communities exactly when it is a community by its definition.
use Prim.Native.Nat.{ℕ, ◌≤◌, ◌<◌}
use native.Mathlib.Omega.{arith}
use mathlib.Core.Path.{◌≡◌, sym, subst}
use mathlib.Core.Logic.{⊎_elim, ◌↔◌}
use mathlib.Core.Bool.{Bool, not}
use mathlib.Core.List.{[], Memᴰ}
use lib.Dec.{T, T_not, not_T}
use lib.ListN.{length, get_or, length-map}
use Rattle.sets.specs.Below.{any, find}
use Rattle.sets.proofs.Tests.{and_make, and_left, and_right, any_make, any_take, find_law, three}
use Rattle.sets.proofs.Counting.{count_le}
use Rattle.sets.proofs.Selecting.{length_select, mem_select, select_mem, mem_at, map_at, select_passes, select_below, select_ascends}
use Rattle.community.specs.Network.{Network, is_core, Reachable, IsCommunity, reachable, is_leader, leaders, members, communities}
use Rattle.community.proofs.Reachability.{Reachable-trans, from_below, to_below, reachable_sound, reachable_complete}
use Rattle.community.specs.ForProofs.{Sound}
use Rattle.community.proofs.Similarity.{reaches_core, core_self, Reachable-back}

-- P has just the members of the k-th listed community
pub record ListedAt (g : Network) (P : ℕ → Type 0) (k : ℕ) : Type 0 where
  pub place : k < length (communities g)
  pub same : (v : ℕ) → P v ↔ Memᴰ v (get_or (communities g) k [])

pub leader_core : (g : Network) (u : ℕ) → T (is_leader g u) → T (is_core g u)
unfolding is_leader
leader_core g u t = and_left (is_core g u) (not (any u (λ w. reachable g w u))) t

pub leader_least : (g : Network) (u : ℕ) → T (is_leader g u) → (w : ℕ) → w < u → Reachable g w u → ⊥
unfolding is_leader
leader_least g u t w h r =
    T_not (any u (λ w. reachable g w u)) (and_right (is_core g u) (not (any u (λ w. reachable g w u))) t)
    (any_make u (λ w. reachable g w u) w h (reachable_complete g r))

module _ {g : Network} (ok : Sound g) where
  -- each core is reachable from a leader
  pub leader_of : (c : ℕ) → c < g.n → T (is_core g c) → (u : ℕ) × T (is_leader g u) × Reachable g u c
  unfolding is_leader
  leader_of c h t =
      let f : ℕ → Bool = λ w. reachable g w c in
      let m = find_law g.n f (any_make g.n f c h (reachable_complete g (core_self ok c h t))) in
      let u : ℕ = find g.n f in
      let r : Reachable g u c = reachable_sound g u c m.0 h m.1 in (
        u,
        and_make (is_core g u) (not (any u (λ w. reachable g w u))) (reaches_core ok r)
            (not_T (any u (λ w. reachable g w u)) (λ a.
            let b = any_take u (λ w. reachable g w u) a in
            T_not (any u f) m.2
            (any_make u f b.0 b.1
            (reachable_complete g (Reachable-trans (reachable_sound g b.0 u (omega (arith, b.1, m.0)) m.0 b.2) r))))),
        r,
      )

  -- two leader that reach one core are one
  pub leader_one : (u w c : ℕ) → T (is_leader g u) → T (is_leader g w) → T (is_core g c) → Reachable g u c → Reachable g w c → u ≡ w
  leader_one u w c a b t r s =
      ⊎_elim (λ e. e) (λ h. ⊎_elim (λ l. absurd (leader_least g w b u l x)) (λ l. absurd (leader_least g u a w l y)) h) (three u w)
    where
      x : Reachable g u w
      x = Reachable-trans r (Reachable-back ok s t)

      y : Reachable g w u
      y = Reachable-trans s (Reachable-back ok r t)

-- the k-th leader
unfoldable pub leader : Network → ℕ → ℕ
leader g k = get_or (leaders g) k 0

pub length_communities : (g : Network) → length (communities g) ≡ length (leaders g)
unfolding communities
length_communities g = length-map (leaders g) (members g)

pub communities_few : (g : Network) → length (communities g) ≤ g.n
unfolding leaders
communities_few g = omega (arith, length_communities g, length_select g.n (is_leader g), count_le g.n (is_leader g))

pub community_at : (g : Network) (k : ℕ) → k < length (communities g) → get_or (communities g) k [] ≡ members g (leader g k)
unfolding communities leader
community_at g k h = map_at (members g) (leaders g) 0 [] k (rw (length_communities g) at h)

pub leader_leads : (g : Network) (k : ℕ) → k < length (communities g) → T (is_leader g (leader g k))
unfolding leader leaders
leader_leads g k h = select_passes g.n (is_leader g) k (rw (length_communities g) at h)

pub leader_below : (g : Network) (k : ℕ) → k < length (communities g) → leader g k < g.n
unfolding leader leaders
leader_below g k h = select_below g.n (is_leader g) k (rw (length_communities g) at h)

-- a member of the k-th community is reachable from its leader, and the other way round
pub member_reachable : (g : Network) (k v : ℕ) → k < length (communities g) → Memᴰ v (get_or (communities g) k []) → Reachable g (leader g k) v
unfolding members
member_reachable g k v h m =
    let r = select_mem g.n (reachable g (leader g k)) v (rw (community_at g k h) at m) in
    reachable_sound g (leader g k) v (leader_below g k h) r.0 r.1

pub member_below : (g : Network) (k v : ℕ) → k < length (communities g) → Memᴰ v (get_or (communities g) k []) → v < g.n
member_below g k v h m = to_below (member_reachable g k v h m)

pub reachable_member : (g : Network) (k v : ℕ) → k < length (communities g) → Reachable g (leader g k) v → Memᴰ v (get_or (communities g) k [])
unfolding members
reachable_member g k v h r = rw (community_at g k h) (mem_select g.n (reachable g (leader g k)) v (to_below r) (reachable_complete g r))

-- each community has a member, its leader
pub leader_member : {g : Network} → Sound g → (k : ℕ) → k < length (communities g) → Memᴰ (leader g k) (get_or (communities g) k [])
leader_member {g} ok k h =
    reachable_member g k (leader g k) h (core_self ok (leader g k) (leader_below g k h) (leader_core g (leader g k) (leader_leads g k h)))

-- each leader has its place
pub leader_place : (g : Network) (u : ℕ) → u < g.n → T (is_leader g u) → (k : ℕ) × (k < length (communities g)) × (leader g k ≡ u)
unfolding leader leaders
leader_place g u h t =
    let r = mem_at (leaders g) 0 u (mem_select g.n (is_leader g) u h t) in
    (r.0, rw (length_communities g) r.1, r.2)

-- communities are listed by their smallest cores
pub leader_ascends : (g : Network) (i j : ℕ) → i < j → j < length (communities g) → leader g i < leader g j
unfolding leader leaders
leader_ascends g i j h k = select_ascends g.n (is_leader g) i j h (rw (length_communities g) at k)

module _ {g : Network} (ok : Sound g) where
  listed_community : (P : ℕ → Type 0) (k : ℕ) → ListedAt g P k → IsCommunity g P
  listed_community P k l =
      let u : ℕ = leader g k in
      let to : (v : ℕ) → P v → Reachable g u v = λ v x. member_reachable g k v l.place ((l.same v).0 x) in
      let of : (v : ℕ) → Reachable g u v → P v = λ v r. (l.same v).1 (reachable_member g k v l.place r) in
      let c : T (is_core g u) = leader_core g u (leader_leads g k l.place) in
      record {
        handset = λ v x. to_below (to v x);
        has_core = (u, of u (core_self ok u (leader_below g k l.place) c), c);
        together = λ v w x y. (u, to v x, to w y);
        closed = λ v w x r. of w (Reachable-trans (to v x) r);
      }

  community_listed : (P : ℕ → Type 0) → IsCommunity g P → (k : ℕ) × ListedAt g P k
  community_listed P d =
      let c : ℕ = d.has_core.0 in
      let cP : P c = d.has_core.1 in
      let ct : T (is_core g c) = d.has_core.2 in
      let f = leader_of ok c (d.handset c cP) ct in
      let p = leader_place g f.0 (from_below f.2) f.1 in
      let k : ℕ = p.0 in
      let r : Reachable g (leader g k) c = rw p.2 f.2 in (
        k,
        record {
          place = p.1;
          same = λ v. (
            (λ x.
                let t = d.together c v cP x in
                reachable_member g k v p.1 (Reachable-trans r (Reachable-trans (Reachable-back ok t.1 ct) t.2))),
            (λ m. d.closed c v cP (Reachable-trans (Reachable-back ok r ct) (member_reachable g k v p.1 m))),
          );
        },
      )

  -- demand 3: exactly when
  pub exactly : (P : ℕ → Type 0) → IsCommunity g P ↔ ((k : ℕ) × ListedAt g P k)
  exactly P = (community_listed P, (λ l. listed_community P l.0 l.1))

  -- each core is in a listed community
  pub core_listed : (c : ℕ) → c < g.n → T (is_core g c) → (k : ℕ) × (k < length (communities g)) × Memᴰ c (get_or (communities g) k [])
  core_listed c h t =
      let l = leader_of ok c h t in
      let p = leader_place g l.0 (from_below l.2) l.1 in
      (p.0, p.1, reachable_member g p.0 c p.1 (subst (λ (u : ℕ). Reachable g u c) (sym p.2) l.2))

  -- and in one only
  pub core_once : (c i j : ℕ) → T (is_core g c) → i < length (communities g) → j < length (communities g)
      → Memᴰ c (get_or (communities g) i []) → Memᴰ c (get_or (communities g) j []) → i ≡ j
  core_once c i j t h k a b =
      ⊎_elim (λ e. e)
      (λ o. ⊎_elim
      (λ l. absurd (omega (arith, one_leader, leader_ascends g i j l k)))
      (λ l. absurd (omega (arith, one_leader, leader_ascends g j i l h)))
      o)
      (three i j)
    where
      one_leader : leader g i ≡ leader g j
      one_leader = leader_one ok (leader g i) (leader g j) c (leader_leads g i h) (leader_leads g j k) t (member_reachable g i c h a) (member_reachable g j c k b)

  -- a listed community's leader is its smallest core
  pub leader_smallest : (k c : ℕ) → k < length (communities g) → T (is_core g c) → Memᴰ c (get_or (communities g) k []) → leader g k ≤ c
  leader_smallest k c h t m =
      ⊎_elim (λ e. omega arith)
      (λ o. ⊎_elim (λ l. omega arith)
      (λ l. absurd (leader_least g (leader g k) (leader_leads g k h) c l (Reachable-back ok (member_reachable g k c h m) t))) o)
      (three (leader g k) c)
