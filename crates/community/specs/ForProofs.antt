-- These definitions only serve the proofs; a caller need not believe them.
-- What the laws ask of a network.
--
--     Sound g     what holds of the network of an accepted image (proofs/Site)
use Rattle.std.specs.Prelude.{ℕ, ◌≤◌, ◌≡◌, T}
use Rattle.community.specs.Network.{Network}

-- what an accepted image makes sure of: whoever has a neighbour is its own neighbour, the relation is symmetric, epsilon is at most 1, mu is not 0
pub record Sound (g : Network) : Type 0 where
  pub neighbour_self : (u v : ℕ) → T (g.neighbour u v) → T (g.neighbour u u)
  pub neighbour_sym : (u v : ℕ) → g.neighbour u v ≡ g.neighbour v u
  pub at_most_one : g.p ≤ g.q
  pub mu_some : 1 ≤ g.mu
