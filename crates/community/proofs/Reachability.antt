-- The computed test `reachable` says what `Reachable` says. A chain over any relation holds its steps and each two chains that meet, and nothing else: it is
-- the least such relation.
--
--     chain_step              a step is a chain
--     chain_meet              two chains that meet below the bound are one
--     chain_least             what holds of steps and is transitive holds of chains
--     reachable_sound         the test passes only where there is a chain of steps; reachable_complete: and wherever there is one
--     reachable_test          both, as specs/Network states it
use Prim.Native.Nat.{ℕ, zero, suc, ◌≤◌, ◌<◌}
use native.Mathlib.Omega.{arith}
use mathlib.Core.Logic.{◌⊎◌, inl, inr, ⊎_elim}
use mathlib.Core.Bool.{Bool, ◌&&◌}
use lib.Dec.{T}
use Rattle.sets.proofs.Tests.{and_make, and_left, and_right, or_left, or_right, or_cases, below}
use Rattle.community.specs.Network.{Network, step, Reachable, one, more, chain, reachable, ReachableTest}

pub Reachable-trans : {g : Network} {u v w : ℕ} → Reachable g u v → Reachable g v w → Reachable g u w
Reachable-trans r (one a b t) = more r b t
Reachable-trans r (more s b t) = more (Reachable-trans r s) b t

pub from_below : {g : Network} {u v : ℕ} → Reachable g u v → u < g.n
from_below (one a b t) = a
from_below (more r b t) = from_below r

pub to_below : {g : Network} {u v : ℕ} → Reachable g u v → v < g.n
to_below (one a b t) = b
to_below (more r b t) = b

-- the two ways to a chain with inner handsets below suc k
module _ (st : ℕ → ℕ → Bool) where
  Ways : ℕ → ℕ → ℕ → Type 0
  Ways k u v = T (chain st k u v) ⊎ (T (chain st k u k) × T (chain st k k v))

  ways : (k u v : ℕ) → T (chain st (suc k) u v) → Ways k u v
  unfolding Ways chain
  ways k u v t = go (or_cases (chain st k u v) (chain st k u k && chain st k k v) t)
    where
      go : T (chain st k u v) ⊎ T (chain st k u k && chain st k k v) → Ways k u v
      go (inl x) = inl x
      go (inr x) = inr (and_left (chain st k u k) (chain st k k v) x, and_right (chain st k u k) (chain st k k v) x)

  keep : (k u v : ℕ) → T (chain st k u v) → T (chain st (suc k) u v)
  unfolding chain
  keep k u v t = or_left (chain st k u v) (chain st k u k && chain st k k v) t

  via : (k u v : ℕ) → T (chain st k u k) → T (chain st k k v) → T (chain st (suc k) u v)
  unfolding chain
  via k u v x y = or_right (chain st k u v) (chain st k u k && chain st k k v) (and_make (chain st k u k) (chain st k k v) x y)

  -- a chain to k, or from k, needs no inner k
  to_end : (k u : ℕ) → T (chain st (suc k) u k) → T (chain st k u k)
  unfolding Ways
  to_end k u t = ⊎_elim (λ x. x) (λ x. x.0) (ways k u k t)

  from_end : (k v : ℕ) → T (chain st (suc k) k v) → T (chain st k k v)
  unfolding Ways
  from_end k v t = ⊎_elim (λ x. x) (λ x. x.1) (ways k k v t)

  -- two chains that meet at w below k are one
  pub chain_meet : (k w : ℕ) → w < k → (u v : ℕ) → T (chain st k u w) → T (chain st k w v) → T (chain st k u v)
  unfolding Ways
  chain_meet zero w h u v x y = absurd (omega arith)
  chain_meet (suc k) w h u v x y =
      ⊎_elim
      (λ e. via k u v (to_end k u (rw e at x)) (from_end k v (rw e at y)))
      (λ l.
      ⊎_elim
      (λ a. ⊎_elim (λ b. keep k u v (chain_meet k w l u v a b)) (λ b. via k u v (chain_meet k w l u k a b.0) b.1) (ways k w v y))
      (λ a. ⊎_elim (λ b. via k u v a.0 (chain_meet k w l k v a.1 b)) (λ b. via k u v a.0 b.1) (ways k w v y))
      (ways k u w x))
      (below h)

  -- a step is a chain
  pub chain_step : (k u v : ℕ) → T (st u v) → T (chain st k u v)
  unfolding chain
  chain_step zero u v t = t
  chain_step (suc k) u v t = keep k u v (chain_step k u v t)

  module _ (n : ℕ) (R : ℕ → ℕ → Type 0) (R-step : (u v : ℕ) → u < n → v < n → T (st u v) → R u v) (R-trans : (u v w : ℕ) → R u v → R v w → R u w) where
    pub chain_least : (k : ℕ) → k ≤ n → (u v : ℕ) → u < n → v < n → T (chain st k u v) → R u v
    unfolding chain Ways
    chain_least zero l u v a b t = R-step u v a b t
    chain_least (suc k) l u v a b t =
        ⊎_elim
        (λ x. chain_least k (omega arith) u v a b x)
        (λ x. R-trans u k v (chain_least k (omega arith) u k a (omega arith) x.0) (chain_least k (omega arith) k v (omega arith) b x.1))
        (ways k u v t)

pub reachable_sound : (g : Network) (u v : ℕ) → u < g.n → v < g.n → T (reachable g u v) → Reachable g u v
unfolding reachable
reachable_sound g u v a b t =
    chain_least (step g) g.n (Reachable g) (λ x y l m s. one l m s) (λ x y z r s. Reachable-trans r s) g.n (omega arith) u v a b t

pub reachable_complete : (g : Network) {u v : ℕ} → Reachable g u v → T (reachable g u v)
unfolding reachable
reachable_complete g (one {u} {v} a b t) = chain_step (step g) g.n u v t
reachable_complete g (more {u} {v} {w} r b t) = chain_meet (step g) g.n v (to_below r) u w (reachable_complete g r) (chain_step (step g) g.n v w t)

pub reachable_test : ReachableTest
reachable_test = record { exactly = λ g u v a b. (reachable_sound g u v a b, reachable_complete g) }
