-- Tables that suffice: there are no more communities than handsets, and no more memberships than n + 2 m.
use native.Mathlib.Omega.{arith}
use Rattle.image.proofs.Acceptance.{accepted_fits}
use Rattle.community.specs.Site.{network, communities_of}
use Rattle.community.proofs.Bound.{memberships_bound}
use Rattle.community.proofs.Communities.{communities_few}
use Rattle.demands.specs.Lengths.{TablesSuffice}

pub tables_suffice : TablesSuffice
unfolding communities_of
tables_suffice = record {
  counted = λ s ss ms ok a b. (omega (arith, communities_few (network s), a), omega (arith, memberships_bound s ok, b));
  every = λ s ss ms ok a b.
      let f = accepted_fits s ok in
      (omega (arith, communities_few (network s), f.n_limit, a), omega (arith, memberships_bound s ok, f.n_limit, f.m_limit, b));
}
