-- The network of a site image.
--
--     network s          the image's handsets, neighbours, epsilon and mu
--     communities_of s    its communities
use Rattle.std.specs.Prelude.{List, ℕ}
use Rattle.image.specs.Image.{handset_count, epsilon_num, epsilon_den, mu}
use Rattle.near.specs.Near.{neighbour}
use Rattle.community.specs.Network.{Network, communities}

abbrev pub network : List ℕ → Network
network s = record { n = handset_count s; neighbour = neighbour s; p = epsilon_num s; q = epsilon_den s; mu = mu s }

unfoldable pub communities_of : List ℕ → List (List ℕ)
communities_of s = communities (network s)
