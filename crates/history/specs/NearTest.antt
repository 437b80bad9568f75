-- The near test until paper 02, order 6: yes or no, and no distance.
--
--     older_neighbour s u v    the older test, over the positions of today: u is v, or they are adjacent and no farther apart than gamma
--     older_network s          the network of an image by it
--     SameAsOlder             the theorems: today's test answers near exactly when the older one said yes, so that the network of an image is the older one, and
--                             its neighbourhoods, communities and roles are the same (proved in proofs/NearTest as `same_as_older`)
use Rattle.std.specs.Prelude.{ℕ, ◌≡◌, ◌↔◌, Bool, ◌&&◌, ◌||◌, List, leb, eqb}
use Rattle.image.specs.Image.{handset_count, limit_of, epsilon_num, epsilon_den, mu, distance_squared, adjacent}
use Rattle.near.specs.Near.{neighbour}
use Rattle.community.specs.Network.{Network, neighbourhood_size, IsCommunity, cores, communities, role}
use Rattle.community.specs.Site.{network}

unfoldable pub older_neighbour : List ℕ → ℕ → ℕ → Bool
unfolding adjacent distance_squared
older_neighbour s u v = eqb u v || (adjacent s u v && leb (distance_squared s u v) (limit_of s))

abbrev pub older_network : List ℕ → Network
older_network s = record { n = handset_count s; neighbour = older_neighbour s; p = epsilon_num s; q = epsilon_den s; mu = mu s }

pub record SameAsOlder : Type 1 where
  pub tests : (s : List ℕ) (u v : ℕ) → neighbour s u v ≡ older_neighbour s u v
  pub networks : (s : List ℕ) → network s ≡ older_network s
  pub neighbourhoods : (s : List ℕ) (u : ℕ) → neighbourhood_size (network s) u ≡ neighbourhood_size (older_network s) u
  pub sets : (s : List ℕ) (P : ℕ → Type 0) → IsCommunity (network s) P ↔ IsCommunity (older_network s) P
  pub listed : (s : List ℕ) → communities (network s) ≡ communities (older_network s)
  pub core_lists : (s : List ℕ) → cores (network s) ≡ cores (older_network s)
  pub roles : (s : List ℕ) (v : ℕ) → role (network s) v ≡ role (older_network s) v
