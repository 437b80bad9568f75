-- The density-based communities of a network (source document 003, 3.2 to 3.12; paper 01, "Near, alike, core" and "Reached, and the groups").
--
--     Network                   n handsets, who is a neighbour of whom, epsilon as p/q, and mu
--     neighbourhood_size g u     the size of u's neighbourhood, u included (paper 01: of its near set)
--     common_neighbours g u v    how many are in both neighbourhoods
--     meets_epsilon p q c a b    c / √(a b) ≥ p / q, in whole numbers: c² q² ≥ p² a b
--     similar g u v             neighbours that meet epsilon: c in common, in neighbourhoods of a and b (paper 01: alike)
--     is_core g u                at least mu handsets, u among them, are similar to u
--     cores g                   the cores, ascending
--     step g u v                u is a core, and v is similar to it
--     Reachable g u v           a chain of one or more steps from u to v (paper 01: reached)
--     IsCommunity g P           P is a community: it has a core, each two members are reachable from some one handset, and it is closed
--                               (paper 01: a group)
--     chain st k u v            a chain of steps st from u to v whose inner handsets, if it has any, are all below k
--     reachable g u v           Reachable as a test
--     ReachableTest             the theorem: the test passes exactly when there is a chain (proved in proofs/Reachability)
--     is_leader g u              u is the smallest core of its community: a core that no smaller handset reaches
--     leaders g                 the leaders, ascending
--     members g u               the community of a leader, ascending
--     communities g             the communities by their smallest core (proofs/Communities: listed exactly when IsCommunity)
--     contains v l              whether v stands in a list
--     community_number v gs      the number of the first list that contains v
--     membership_count v gs      how many of the lists contain v
--     border_of k                the role of a handset that is no core and is in k communities: border with k, or outlier where k is 0
--     role_among gs core v       the role of v among the communities gs, by whether it is a core
--     role g v                  core with its community's number, border with the count of its communities, or outlier
--     role_values r              a role's values: its kind (0 core, 1 border, 2 outlier), then that number or count, 0 for an outlier
--                               (OneAnswer of tables/specs/Plan: two roles with the same values are the same)
use Rattle.std.specs.Prelude.{ℕ, zero, suc, ◌+◌, ◌*◌, ◌<◌, Bool, false, ◌&&◌, ◌||◌, not, cond, List, [], ◌∷◌, map, ◌↔◌, leb, eqb, T}
use Rattle.sets.specs.Below.{any, count, select, bit}
use Rattle.community.specs.declared.Role.{Role}
use Rattle.community.specs.declared.Role.TheVariants.{Core, Border, Outlier}

pub record Network : Type 0 where
  pub n : ℕ
  pub neighbour : ℕ → ℕ → Bool
  pub p : ℕ
  pub q : ℕ
  pub mu : ℕ

unfoldable pub neighbourhood_size : Network → ℕ → ℕ
unfolding count
neighbourhood_size g u = count g.n (g.neighbour u)

unfoldable pub common_neighbours : Network → ℕ → ℕ → ℕ
unfolding count
common_neighbours g u v = count g.n (λ w. g.neighbour u w && g.neighbour v w)

unfoldable pub meets_epsilon : ℕ → ℕ → ℕ → ℕ → ℕ → Bool
meets_epsilon p q c a b = leb (p * p * (a * b)) (c * c * (q * q))

unfoldable pub similar : Network → ℕ → ℕ → Bool
unfolding meets_epsilon common_neighbours neighbourhood_size
similar g u v = g.neighbour u v && meets_epsilon g.p g.q (common_neighbours g u v) (neighbourhood_size g u) (neighbourhood_size g v)

unfoldable pub is_core : Network → ℕ → Bool
unfolding similar count
is_core g u = leb g.mu (count g.n (similar g u))

unfoldable pub step : Network → ℕ → ℕ → Bool
unfolding is_core similar
step g u v = is_core g u && similar g u v

pub data Reachable (g : Network) : ℕ → ℕ → Type 0 where
  one : {u v : ℕ} → u < g.n → v < g.n → T (step g u v) → Reachable g u v
  more : {u v w : ℕ} → Reachable g u v → w < g.n → T (step g v w) → Reachable g u w

pub record IsCommunity (g : Network) (P : ℕ → Type 0) : Type 0 where
  pub handset : (v : ℕ) → P v → v < g.n
  pub has_core : (u : ℕ) × P u × T (is_core g u)
  pub together : (v w : ℕ) → P v → P w → (u : ℕ) × Reachable g u v × Reachable g u w
  pub closed : (v w : ℕ) → P v → Reachable g v w → P w

unfoldable pub chain : (ℕ → ℕ → Bool) → ℕ → ℕ → ℕ → Bool
chain st zero u v = st u v
chain st (suc k) u v = chain st k u v || (chain st k u k && chain st k k v)

unfoldable pub reachable : Network → ℕ → ℕ → Bool
unfolding chain step
reachable g u v = chain (step g) g.n u v

pub record ReachableTest : Type 0 where
  pub exactly : (g : Network) (u v : ℕ) → u < g.n → v < g.n → T (reachable g u v) ↔ Reachable g u v

unfoldable pub is_leader : Network → ℕ → Bool
unfolding is_core any reachable
is_leader g u = is_core g u && not (any u (λ w. reachable g w u))

unfoldable pub members : Network → ℕ → List ℕ
unfolding select reachable
members g u = select g.n (reachable g u)

unfoldable pub leaders : Network → List ℕ
unfolding select is_leader
leaders g = select g.n (is_leader g)

unfoldable pub communities : Network → List (List ℕ)
unfolding members leaders
communities g = map (members g) (leaders g)

unfoldable pub cores : Network → List ℕ
unfolding select is_core
cores g = select g.n (is_core g)

unfoldable pub contains : ℕ → List ℕ → Bool
contains v [] = false
contains v (x ∷ xs) = eqb v x || contains v xs

unfoldable pub community_number : ℕ → List (List ℕ) → ℕ
unfolding contains
community_number v [] = 0
community_number v (x ∷ xs) = cond (contains v x) 0 (suc (community_number v xs))

unfoldable pub membership_count : ℕ → List (List ℕ) → ℕ
unfolding contains
membership_count v [] = 0
membership_count v (x ∷ xs) = bit (contains v x) + membership_count v xs

abbrev pub border_of : ℕ → Role
border_of zero = Outlier
border_of (suc k) = Border (suc k)

abbrev pub role_among : List (List ℕ) → Bool → ℕ → Role
role_among gs core v = cond core (Core (community_number v gs)) (border_of (membership_count v gs))

unfoldable pub role : Network → ℕ → Role
unfolding is_core community_number membership_count communities
role g v = role_among (communities g) (is_core g v) v

abbrev pub role_values : Role → List ℕ
role_values (Core k) = 0 ∷ k ∷ []
role_values (Border k) = 1 ∷ k ∷ []
role_values Outlier = 2 ∷ 0 ∷ []
