-- These definitions only serve the proofs; a caller need not believe them.
-- What the working tables hold, for the contracts inside the crate.
--
--     HasEnds edges n k        edge k stands among the records, and its ends are below n
--     in_word word base k       edge k is in a word that holds edges from base on, one bit an edge
--     WordOf w f               a word holds the k below 64 that pass f
--     edge_proximity ..         the near test of the ends of edge k, by the records of handsets and edges; passes_near ..: it answers near
--     Dropped edges f a b      the table b is the table a without the edges that pass f
--     enough ..                the test for similarity by a table and its sizes; enough_at ..: of the ends of edge k
--     in_set ws v               v is in a set; both_within ws edges k: both ends of edge k are
--     SelfTaken ws n a b       the table b is the table a, with each handset below n outside the set taken out of its own row
--     OfSite s g               a network of the handsets of an image, along its edges
--     Drawn s h near ws sizes  an accepted image and its header, edges of it, a table and its sizes
--     DrawnAfter s opened ..   so they are after the reader's yes
--     Holds s g near ws        these edges are the near edges of the network, and the table is its neighbour table
--     FoundIn g ..             the cores and the communities of the network, and the rows past these
--     Finds s near ws ..       whichever network of the image the edges and the table hold, that is found of it
--     GroupsFound s opened ..   what finding the communities answers and leaves: that after the reader's yes, with a test for each edge; nothing after its no
--     HeldWithin s within ..   where the edges and the table held the site's network, they now hold that of the handsets within the set
--     Neighbours s near ws sizes   of an accepted image: the set of its near edges, its neighbour table, and the sizes of the table's rows
--     NeighboursRead s answer ..   what opening the image answers and leaves: the reader's answer; the neighbours after a yes, 0 everywhere after a no
use Rattle.std.specs.Prelude.{ℕ, ◌+◌, ◌*◌, ◌-◌, ◌≤◌, ◌<◌, min, ◌≡◌, ◌⊎◌, Bool, ◌&&◌, not, List, T, leb, eqb, length, get_or, Err, Ok, Option, Result}
use Rattle.sets.specs.Below.{bit, sum}
use Rattle.sets.specs.Bits.{bit_of, bit_at, cell}
use Rattle.sets.specs.Rows.{SetOf, Table, Counted}
use Rattle.fields.specs.Fields.{edge_bytes}
use Rattle.limits.specs.Limits.{edges_most}
use Rattle.image.specs.Image.{header_of, handset_count, edge_count, epsilon_num, epsilon_den, mu, end_a, end_b, joins, adjacent, handset_record}
use Rattle.image.specs.Questions.{Accepted, open_of}
use Rattle.image.specs.Rows.{zeros, Cleared}
use Rattle.image.specs.declared.Header.{Header}
use Rattle.image.specs.declared.Refusal.{Refusal}
use Rattle.near.specs.Near.{proximity_of, is_near}
use Rattle.community.specs.Network.{Network, meets_epsilon}
use Rattle.community.specs.ForProofs.{Sound}
use Rattle.search.specs.Communities.{similar_in, core_in, Grouped}
use Rattle.community.specs.Site.{network}
use Rattle.graph.specs.Graph.{edge_words, EdgeSet, neighbour_in, is_near_edge, among}
use Rattle.graph.specs.declared.SiteGroups.{SiteGroups}

abbrev pub HasEnds : List ℕ → ℕ → ℕ → Type 0
HasEnds edges n k = (k < edges_most) × (edge_bytes * k + edge_bytes ≤ length edges) × (end_a edges k < n) × (end_b edges k < n)

unfoldable pub in_word : ℕ → ℕ → ℕ → Bool
unfolding bit_of
in_word word base k = leb base k && eqb (bit_of word (k - base)) 1

pub record WordOf (w : ℕ) (f : ℕ → Bool) : Type 0 where
  pub bits : (k : ℕ) → k < 64 → bit_of w k ≡ bit (f k)

abbrev pub edge_proximity : List ℕ → List ℕ → ℕ → ℕ → Option ℕ
edge_proximity handsets edges limit k = proximity_of (handset_record handsets (end_a edges k)) (handset_record handsets (end_b edges k)) limit

abbrev pub passes_near : List ℕ → List ℕ → ℕ → ℕ → Bool
passes_near handsets edges limit k = is_near (edge_proximity handsets edges limit k)

-- no cell is newly set, those of an edge that passes f are cleared, and those of no such edge are as before
pub record Dropped (edges : List ℕ) (f : ℕ → Bool) (before after : List ℕ) : Type 0 where
  pub size : length after ≡ length before
  pub most : (u v : ℕ) → u < 512 → v < 512 → cell after u v ≤ cell before u v
  pub out : (u v k : ℕ) → u < 512 → v < 512 → T (f k) → T (joins edges u v k) → cell after u v ≡ 0
  pub kept : (u v : ℕ) → u < 512 → v < 512 → ((k : ℕ) → T (f k) → T (joins edges u v k) → ⊥) → cell after u v ≡ cell before u v

-- of the marks that rows u and v have in common, and of their sizes
abbrev pub enough : List ℕ → List ℕ → ℕ → ℕ → ℕ → ℕ → Bool
enough ws sizes p q u v = meets_epsilon p q (sum 512 (λ w. min (cell ws u w) (cell ws v w))) (get_or sizes u 0) (get_or sizes v 0)

abbrev pub enough_at : List ℕ → List ℕ → ℕ → ℕ → List ℕ → ℕ → Bool
enough_at ws sizes p q edges k = enough ws sizes p q (end_a edges k) (end_b edges k)

abbrev pub in_set : List ℕ → ℕ → Bool
in_set ws v = eqb (bit_at ws v) 1

abbrev pub both_within : List ℕ → List ℕ → ℕ → Bool
both_within ws edges k = in_set ws (end_a edges k) && in_set ws (end_b edges k)

pub record SelfTaken (within : List ℕ) (n : ℕ) (before after : List ℕ) : Type 0 where
  pub size : length after ≡ length before
  pub taken : (u : ℕ) → u < n → u < 512 → T (not (in_set within u)) → cell after u u ≡ 0
  pub kept : (u v : ℕ) → u < 512 → v < 512 → ((u ≡ v) → u < n → T (not (in_set within u)) → ⊥) → cell after u v ≡ cell before u v

pub record OfSite (s : List ℕ) (g : Network) : Type 0 where
  pub same_n : g.n ≡ handset_count s
  pub same_p : g.p ≡ epsilon_num s
  pub same_q : g.q ≡ epsilon_den s
  pub same_mu : g.mu ≡ mu s
  pub sound : Sound g
  pub along : (u v : ℕ) → T (g.neighbour u v) → (u ≡ v) ⊎ T (adjacent s u v)

pub record Drawn (s : List ℕ) (h : Header) (near ws sizes : List ℕ) : Type 0 where
  pub accepted : Accepted s
  pub header : h ≡ header_of s
  pub near_below : (k : ℕ) → bit_at near k ≡ 1 → k < edge_count s
  pub counted : Counted ws sizes

abbrev pub DrawnAfter : List ℕ → Result Header Refusal → List ℕ → List ℕ → List ℕ → Type 0
DrawnAfter s opened near ws sizes = (h : Header) → opened ≡ Ok h → Drawn s h near ws sizes

pub record Holds (s : List ℕ) (g : Network) (near ws : List ℕ) : Type 0 where
  pub of_site : OfSite s g
  pub near_set : EdgeSet near (is_near_edge s g)
  pub table : Table ws (neighbour_in g)

pub record FoundIn (g : Network) (groups : ℕ) (ws cores : List ℕ) : Type 0 where
  pub core_set : SetOf cores (core_in g)
  pub grouped : Grouped g ws groups
  pub rest : (j v : ℕ) → groups ≤ j → j < 512 → v < 512 → cell ws j v ≡ bit (similar_in g j v)

pub record Finds (s near before : List ℕ) (groups : ℕ) (after cores : List ℕ) : Type 0 where
  pub each : (g : Network) → Holds s g near before → FoundIn g groups after cores

pub record GroupsFound (s : List ℕ) (opened : Result Header Refusal) (near before : List ℕ) (r : SiteGroups) (after cores : List ℕ) : Type 0 where
  pub answered : r.opened ≡ opened
  pub found : (h : Header) → opened ≡ Ok h → Finds s near before r.groups after cores
  pub tested : (h : Header) → opened ≡ Ok h → r.tests ≡ sum edges_most (bit_at near)
  pub refused : (x : Refusal) → opened ≡ Err x → (r.groups ≡ 0) × (r.tests ≡ 0) × (after ≡ before) × (cores ≡ zeros 8)

pub record HeldWithin (s within near ws near' ws' : List ℕ) : Type 0 where
  pub among_held : (f : ℕ → Bool) → SetOf within f → Holds s (network s) near ws → Holds s (among (network s) f) near' ws'

pub record Neighbours (s near ws sizes : List ℕ) : Type 0 where
  pub near_set : EdgeSet near (is_near_edge s (network s))
  pub table : Table ws (neighbour_in (network s))
  pub counted : Counted ws sizes

pub record NeighboursRead (s : List ℕ) (answer : Result Header Refusal) (near ws sizes : List ℕ) : Type 0 where
  pub answered : answer ≡ open_of s
  pub neighbours : (h : Header) → answer ≡ Ok h → Neighbours s near ws sizes
  pub cleared : (x : Refusal) → answer ≡ Err x → (near ≡ zeros edge_words) × Cleared ws sizes
