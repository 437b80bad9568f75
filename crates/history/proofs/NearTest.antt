-- The network of an image is that by the older near test, and so is all that stands on it.
use Prim.Native.Nat.{ℕ}
use mathlib.Core.Path.{◌≡◌, sym, ap, subst}
use mathlib.Core.List.{List}
use Rattle.image.specs.Image.{handset_count, epsilon_num, epsilon_den, mu}
use Rattle.near.specs.Near.{neighbour}
use Rattle.near.proofs.Near.{neighbour_is}
use Rattle.community.specs.Network.{Network, neighbourhood_size, IsCommunity, cores, communities, role}
use Rattle.community.specs.Site.{network}
use Rattle.history.specs.NearTest.{older_neighbour, older_network, SameAsOlder}

neighbour_older : (s : List ℕ) (u v : ℕ) → neighbour s u v ≡ older_neighbour s u v
unfolding older_neighbour
neighbour_older s u v = neighbour_is s u v

network_older : (s : List ℕ) → network s ≡ older_network s
network_older s = λ i. record { n = handset_count s; neighbour = λ u v. neighbour_older s u v i; p = epsilon_num s; q = epsilon_den s; mu = mu s }

pub same_as_older : SameAsOlder
same_as_older = record {
  tests = neighbour_older;
  networks = network_older;
  neighbourhoods = λ s u. ap (λ (g : Network). neighbourhood_size g u) (network_older s);
  sets = λ s P. (subst (λ (g : Network). IsCommunity g P) (network_older s), subst (λ (g : Network). IsCommunity g P) (sym (network_older s)));
  listed = λ s. ap communities (network_older s);
  core_lists = λ s. ap cores (network_older s);
  roles = λ s v. ap (λ (g : Network). role g v) (network_older s);
}
