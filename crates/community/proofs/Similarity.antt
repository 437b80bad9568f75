-- Laws of similar, core and reachable, of a network whose neighbour relation is reflexive and symmetric.
use Prim.Native.Nat.{ℕ, ◌*◌, ◌≤◌, ◌<◌}
use native.Mathlib.Omega.{arith}
use native.Mathlib.Nat.{mul_comm, mul-le-mul}
use mathlib.Core.Path.{◌≡◌, ap, ap₂, ◌∙◌}
use mathlib.Core.Bool.{◌&&◌, and_self}
use lib.Dec.{T, leb, le→leb, leb→le}
use Rattle.sets.proofs.Tests.{and_make, and_left, and_right, and_comm, any_take}
use Rattle.sets.proofs.Counting.{count_cong, count_some}
use Rattle.sets.specs.Below.{count}
use Rattle.community.specs.Network.{Network, neighbourhood_size, common_neighbours, meets_epsilon, similar, is_core, step, Reachable, one, more}
use Rattle.community.specs.ForProofs.{Sound}
use Rattle.community.proofs.Reachability.{Reachable-trans, to_below}

pub common_neighbours_sym : (g : Network) (u v : ℕ) → common_neighbours g u v ≡ common_neighbours g v u
unfolding common_neighbours
common_neighbours_sym g u v =
    count_cong g.n (λ w. g.neighbour u w && g.neighbour v w) (λ w. g.neighbour v w && g.neighbour u w) (λ w h. and_comm (g.neighbour u w) (g.neighbour v w))

pub common_neighbours_self : (g : Network) (u : ℕ) → common_neighbours g u u ≡ neighbourhood_size g u
unfolding common_neighbours neighbourhood_size
common_neighbours_self g u = count_cong g.n (λ w. g.neighbour u w && g.neighbour u w) (g.neighbour u) (λ w h. and_self (g.neighbour u w))

meets_epsilon_comm : (p q c a b : ℕ) → meets_epsilon p q c a b ≡ meets_epsilon p q c b a
unfolding meets_epsilon
meets_epsilon_comm p q c a b = ap (λ (x : ℕ). leb (p * p * x) (c * c * (q * q))) (mul_comm a b)

meets_epsilon_self : (p q : ℕ) → p ≤ q → (a : ℕ) → T (meets_epsilon p q a a a)
unfolding meets_epsilon
meets_epsilon_self p q h a =
    le→leb (p * p * (a * a)) (a * a * (q * q)) (rw (mul_comm (p * p) (a * a)) (mul-le-mul (omega arith) (mul-le-mul h h)))

module _ {g : Network} (ok : Sound g) where
  pub similar_sym : (u v : ℕ) → similar g u v ≡ similar g v u
  unfolding similar
  similar_sym u v =
      ap₂ ◌&&◌ (ok.neighbour_sym u v)
      (ap (λ (c : ℕ). meets_epsilon g.p g.q c (neighbourhood_size g u) (neighbourhood_size g v)) (common_neighbours_sym g u v) ∙ meets_epsilon_comm g.p g.q (common_neighbours g v u) (neighbourhood_size g u) (neighbourhood_size g v))

  pub similar_self : (u : ℕ) → T (g.neighbour u u) → T (similar g u u)
  unfolding similar
  similar_self u t =
      and_make (g.neighbour u u) (meets_epsilon g.p g.q (common_neighbours g u u) (neighbourhood_size g u) (neighbourhood_size g u)) t
      (rw (common_neighbours_self g u) (meets_epsilon_self g.p g.q ok.at_most_one (neighbourhood_size g u)))

  -- a core is similar to some handset, so it is neighbour to itself
  pub core_neighbour : (u : ℕ) → T (is_core g u) → T (g.neighbour u u)
  unfolding is_core similar
  core_neighbour u c =
      let a = any_take g.n (similar g u) (count_some g.n (similar g u) (omega (arith, leb→le g.mu (count g.n (similar g u)) c, ok.mu_some))) in
      ok.neighbour_self u a.0 (and_left (g.neighbour u a.0) (meets_epsilon g.p g.q (common_neighbours g u a.0) (neighbourhood_size g u) (neighbourhood_size g a.0)) a.2)

  pub step_core : (u v : ℕ) → T (step g u v) → T (is_core g u)
  unfolding step
  step_core u v t = and_left (is_core g u) (similar g u v) t

  pub step_similar : (u v : ℕ) → T (step g u v) → T (similar g u v)
  unfolding step
  step_similar u v t = and_right (is_core g u) (similar g u v) t

  pub step_make : (u v : ℕ) → T (is_core g u) → T (similar g u v) → T (step g u v)
  unfolding step
  step_make u v c t = and_make (is_core g u) (similar g u v) c t

  -- only cores reach anything
  pub reaches_core : {u v : ℕ} → Reachable g u v → T (is_core g u)
  reaches_core (one {u} {v} a b t) = step_core u v t
  reaches_core (more r b t) = reaches_core r

  -- a core reaches itself
  pub core_self : (u : ℕ) → u < g.n → T (is_core g u) → Reachable g u u
  core_self u h c = one h h (step_make u u c (similar_self u (core_neighbour u c)))

  -- a core is reachable both ways
  step_back : (u v : ℕ) → T (is_core g v) → T (step g u v) → T (step g v u)
  step_back u v c t = step_make v u c (rw (similar_sym v u) (step_similar u v t))

  pub Reachable-back : {u v : ℕ} → Reachable g u v → T (is_core g v) → Reachable g v u
  Reachable-back (one {u} {v} a b t) c = one b a (step_back u v c t)
  Reachable-back (more {u} {v} {w} r b t) c =
      Reachable-trans (one b (to_below r) (step_back v w c t)) (Reachable-back r (step_core v w t))
