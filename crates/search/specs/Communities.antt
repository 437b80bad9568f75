-- What is found of a network in tables of bits: its similarity relation, its cores and its communities. The contracts of the crates that find communities cite
-- these definitions; the network itself is in community/specs/Network.
--
--     both g u v                u and v are handsets of the network
--     similar_in g u v           they are similar, among its handsets; core_in g u: u is one of its cores; reachable_in g u v: v is reachable from u
--     Grouped g rows k          the first k rows are the communities of the network, in their order: row j has whoever is reachable from the smallest core of
--                               community j
use Rattle.std.specs.Prelude.{ℕ, ◌<◌, ◌≡◌, Bool, ◌&&◌, List, ltb, length, get_or}
use Rattle.sets.specs.Below.{bit}
use Rattle.sets.specs.Bits.{cell}
use Rattle.community.specs.Network.{Network, similar, is_core, reachable, leaders}

abbrev pub both : Network → ℕ → ℕ → Bool
both g u v = ltb u g.n && ltb v g.n

unfoldable pub similar_in : Network → ℕ → ℕ → Bool
unfolding similar
similar_in g u v = both g u v && similar g u v

unfoldable pub core_in : Network → ℕ → Bool
unfolding is_core
core_in g u = ltb u g.n && is_core g u

unfoldable pub reachable_in : Network → ℕ → ℕ → Bool
unfolding reachable
reachable_in g u v = both g u v && reachable g u v

pub record Grouped (g : Network) (rows : List ℕ) (k : ℕ) : Type 0 where
  pub number : k ≡ length (leaders g)
  pub row : (j v : ℕ) → j < k → v < 512 → cell rows j v ≡ bit (reachable_in g (get_or (leaders g) j 0) v)
