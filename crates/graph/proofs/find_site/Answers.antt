-- `graph::find_site` meets its contract: of an accepted image the tables that were read hold the network of the whole site, so what is found of them is its
-- cores and communities.
use native.Mathlib.Omega.{arith}
use mathlib.Core.Path.{refl}
use Rattle.graph.proofs.GraphLaws.{drawn_after, holds_after, site_found}
use Rattle.graph.proofs.find_site.Goals as goal

pub find_groups-requires : goal.find_groups-requires
find_groups-requires c = drawn_after c.open_neighbours-opened.ensures

pub returns : goal.returns
returns c = site_found c.open_neighbours-opened.ensures (omega arith, omega arith) c.find_groups.ensures (holds_after c.open_neighbours-opened.ensures) (λ x e. refl)
