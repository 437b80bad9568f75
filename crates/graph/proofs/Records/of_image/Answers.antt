-- `graph::Records::of_image` meets its contract: an accepted image has the records of all its handsets and edges, and each end is a handset.
use native.Mathlib.Omega.{arith}
use Rattle.image.proofs.Records.{edge_slice_is, handset_slice_is}
use Rattle.graph.proofs.GraphLaws.{header_is, edges_ready, handset_slice_length}
use Rattle.graph.proofs.Records.of_image.Goals as goal

pub invariant_of-result : goal.invariant_of-result
invariant_of-result c =
    let r = header_is c.args.image.now c.args.h c.requires.0 c.requires.1 in
    let l = handset_slice_length c.args.image.now c.args.h c.requires.0 c.requires.1 in
    record {
      few_handsets = omega (arith, l, r.n_is, r.fits.n_limit);
      few_edges = r.fits.m_limit;
      whole_edges = λ k h. edges_ready c.args.image.now c.args.h c.requires.0 c.requires.1 _ k (omega (arith, l)) h;
    }

pub returns-clause-handsets : goal.returns-clause-handsets
returns-clause-handsets c = handset_slice_is c.args.image.now c.args.h c.requires.1

pub returns-clause-edges : goal.returns-clause-edges
returns-clause-edges c = edge_slice_is c.args.image.now c.args.h c.requires.1
