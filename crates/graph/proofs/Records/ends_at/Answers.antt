-- `graph::Records::ends_at` meets its contract: the two numbers of a record are those at its place in the table.
use native.Mathlib.Omega.{arith}
use mathlib.Core.Path.{ap, ◌∙◌}
use Rattle.fields.specs.declared.Ends.{Ends}
use Rattle.image.proofs.Records.{ends_slice}
use Rattle.graph.proofs.Records.ends_at.Goals as goal

pub returns : goal.returns
returns c =
    let w = c.args.self.now.whole_edges c.args.k c.requires in
    let e = c.read_ends.ensures ∙ ends_slice c.args.self.now.edges.now c.args.k w.1 in
    record {
      ends = (ap (λ (x : Ends). x.a) e, ap (λ (x : Ends). x.b) e);
      below = (
        omega (arith, ap (λ (x : Ends). x.a) e, w.2, c.args.self.now.few_handsets),
        omega (arith, ap (λ (x : Ends). x.b) e, w.3, c.args.self.now.few_handsets),
      );
    }
