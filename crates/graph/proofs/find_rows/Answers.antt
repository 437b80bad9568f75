-- `graph::find_rows` meets its contract, as `find_site` does: the near edges and the sizes are those that were read.
use native.Mathlib.Omega.{arith}
use mathlib.Core.Path.{refl}
use Rattle.graph.proofs.GraphLaws.{drawn_after, holds_after, site_found}
use Rattle.graph.proofs.find_rows.Goals as goal

pub find_groups-requires : goal.find_groups-requires
find_groups-requires c = drawn_after c.open_neighbours-opened.ensures

pub returns : goal.returns
returns c = record {
  near = _;
  sizes = _;
  site = site_found c.open_neighbours-opened.ensures (omega arith, omega arith) c.find_groups.ensures (holds_after c.open_neighbours-opened.ensures) (λ x e. refl);
}
