-- The network of a site as tables of bits, and the communities found in it, as the calls of this crate leave them. A set of edges has a bit for each of
-- the 4,096 edges that a site may have; a set of handsets is eight words, and a table has such a row for each of 512 handsets (sets/specs/Rows).
--
--     edge_words                    how many words a set of edges has
--     EdgeSet ws f                 a set of edges: those that pass f
--     neighbour_in g u v            u and v are handsets of the network, and neighbours in it
--     is_near_edge s g k             edge k is one of the image's, and its ends are neighbours in the network g (the paper: a near tie)
--     near_edges s g                how many of the image's edges are
--     NearCounts g sizes           512 near counts: for each handset the size of its neighbourhood, and 0 past the last handset
--     Groups s g ..                what is found of a network g of an accepted image: the cores; the communities as the first rows of the table; the similarity
--                                  relation in the rows past them; a test for each near edge; and beside it the near edges and near counts of the whole site
--     SiteFound s g r ..           what a call that finds the communities of g answers and leaves: the reader's answer; Groups after a yes, 0 after a no
--     RowsFound s g r ws cores     the same of a call that keeps the near edges and the near counts to itself
--     among g f                    the network among the handsets that pass a test, under the same numbers: the others have no neighbours, not even themselves
--     PartFound s within r ..      what a call that finds the communities among the handsets within a set answers and leaves
use Rattle.std.specs.Prelude.{ℕ, ◌/◌, ◌≤◌, ◌<◌, ◌≡◌, Bool, ◌&&◌, List, ltb, length, get_or, Err, Ok}
use Rattle.sets.specs.Below.{bit, count}
use Rattle.sets.specs.Bits.{bit_at, cell}
use Rattle.sets.specs.Rows.{SetOf}
use Rattle.limits.specs.Limits.{edges_most}
use Rattle.image.specs.Image.{edge_count, edge_records, end_a, end_b}
use Rattle.image.specs.Questions.{open_of}
use Rattle.image.specs.Rows.{Room, zeros, Cleared}
use Rattle.image.specs.declared.Header.{Header}
use Rattle.image.specs.declared.Refusal.{Refusal}
use Rattle.community.specs.Network.{Network, neighbourhood_size}
use Rattle.community.specs.Site.{network}
use Rattle.search.specs.Communities.{both, similar_in, core_in, Grouped}
use Rattle.graph.specs.declared.SiteGroups.{SiteGroups}

abbrev pub edge_words : ℕ
edge_words = edges_most / 64

pub record EdgeSet (ws : List ℕ) (f : ℕ → Bool) : Type 0 where
  pub size : length ws ≡ edge_words
  pub bits : (k : ℕ) → k < edges_most → bit_at ws k ≡ bit (f k)

unfoldable pub neighbour_in : Network → ℕ → ℕ → Bool
neighbour_in g u v = both g u v && g.neighbour u v

-- the ends of edge k are neighbours
abbrev pub ends_near : List ℕ → Network → ℕ → Bool
ends_near s g k = g.neighbour (end_a (edge_records s) k) (end_b (edge_records s) k)

abbrev pub is_near_edge : List ℕ → Network → ℕ → Bool
is_near_edge s g k = ltb k (edge_count s) && ends_near s g k

unfoldable pub near_edges : List ℕ → Network → ℕ
unfolding count
near_edges s g = count (edge_count s) (ends_near s g)

pub record NearCounts (g : Network) (sizes : List ℕ) : Type 0 where
  pub size : length sizes ≡ 512
  pub each : (u : ℕ) → u < g.n → get_or sizes u 0 ≡ neighbourhood_size g u
  pub past : (u : ℕ) → g.n ≤ u → u < 512 → get_or sizes u 0 ≡ 0

-- of the count of communities and of tests, and the four tables
pub record Groups (s : List ℕ) (g : Network) (groups tests : ℕ) (near ws sizes cores : List ℕ) : Type 0 where
  pub near_set : EdgeSet near (is_near_edge s (network s))
  pub counts : NearCounts (network s) sizes
  pub core_set : SetOf cores (core_in g)
  pub grouped : Grouped g ws groups
  pub rest : (j v : ℕ) → groups ≤ j → j < 512 → v < 512 → cell ws j v ≡ bit (similar_in g j v)
  pub tested : tests ≡ near_edges s g

pub record SiteFound (s : List ℕ) (g : Network) (r : SiteGroups) (near ws sizes cores : List ℕ) : Type 0 where
  pub answered : r.opened ≡ open_of s
  pub room : Room ws sizes
  pub found : (h : Header) → r.opened ≡ Ok h → Groups s g r.groups r.tests near ws sizes cores
  pub cleared : (x : Refusal) → r.opened ≡ Err x → (r.groups ≡ 0) × (r.tests ≡ 0) × (near ≡ zeros edge_words) × Cleared ws sizes × (cores ≡ zeros 8)

-- for some near edges and near counts
pub record RowsFound (s : List ℕ) (g : Network) (r : SiteGroups) (ws cores : List ℕ) : Type 0 where
  pub near : List ℕ
  pub sizes : List ℕ
  pub site : SiteFound s g r near ws sizes cores

abbrev pub among : Network → (ℕ → Bool) → Network
among g f = record { n = g.n; neighbour = λ u v. (f u && f v) && g.neighbour u v; p = g.p; q = g.q; mu = g.mu }

-- for every test f whose set the words hold
pub record PartFound (s within : List ℕ) (r : SiteGroups) (near ws sizes cores : List ℕ) : Type 0 where
  pub found : (f : ℕ → Bool) → SetOf within f → SiteFound s (among (network s) f) r near ws sizes cores
