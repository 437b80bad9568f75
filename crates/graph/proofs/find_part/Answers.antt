-- `graph::find_part` meets its contract: of an accepted image the tables are first made those of the handsets within the set, so what is found of them is the
-- cores and the communities among these.
use native.Mathlib.Omega.{arith}
use mathlib.Core.Path.{◌≡◌, sym, ◌∙◌}
use Rattle.graph.proofs.GraphLaws.{drawn_after, holds_after, site_found}
use Rattle.graph.proofs.find_part.Goals.{in-Ok, in_default}
use Rattle.graph.proofs.find_part.Goals as goal

pub keep_within-requires : goal.keep_within-requires
keep_within-requires c = drawn_after c.open_neighbours-opened.ensures c.in-Ok.h c.in-Ok.is

pub returns : goal.returns
returns c = record {
  found = λ f w.
      let same : c.match-opened.opened ≡ c.open_neighbours-opened.result = elim c.match-opened.branch [ in-Ok x ↦ x.opened-is ∙ sym x.in-Ok.is | in_default x ↦ x.opened-is ] in
      site_found c.open_neighbours-opened.ensures (omega arith, omega arith) (rw same at c.find_groups.ensures)
      (λ h e. elim c.match-opened.branch [
        | in-Ok x ↦ rw (x.inside-is, x.table-is) (x.keep_within.ensures.held.among_held f w (holds_after c.open_neighbours-opened.ensures x.in-Ok.h x.in-Ok.is))
        | in_default x ↦ (cc)
      ])
      (λ x e. elim c.match-opened.branch [ in-Ok y ↦ (cc) | in_default y ↦ y.table-is ]);
}
