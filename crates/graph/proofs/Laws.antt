-- What callers cite of the contracts.
--
--     site_read              after a call on an accepted image, what was found
--     site_rows              after a call the first rows, listed, are the communities of the network
--     whole_site             within all 512 numbers the part is the site
use Prim.Native.Nat.{ℕ, ◌<◌, min}
use mathlib.Core.Path.{◌≡◌, ◌∙◌}
use mathlib.Core.Bool.{true}
use mathlib.Core.List.{List}
use lib.ListN.{length}
use Rattle.sets.specs.Bits.{bit_at}
use Rattle.image.specs.Image.{header_of}
use Rattle.image.specs.Questions.{Accepted}
use Rattle.image.proofs.Acceptance.{opened, accepted_fits}
use Rattle.community.specs.Network.{Network, communities}
use Rattle.community.specs.Site.{network}
use Rattle.rows.specs.Rows.{rows_of}
use Rattle.graph.specs.Graph.{Groups, SiteFound, PartFound}
use Rattle.graph.specs.declared.SiteGroups.{SiteGroups}
use Rattle.graph.proofs.Listing.{rows_are}

module _ (s : List ℕ) (ok : Accepted s) (g : Network) (same : g.n ≡ (network s).n) {r : SiteGroups} {near ws sizes cores : List ℕ}
    (f : SiteFound s g r near ws sizes cores) where
  pub site_read : Groups s g r.groups r.tests near ws sizes cores
  site_read = f.found (header_of s) (f.answered ∙ opened s ok)

  pub site_rows : rows_of ws (min r.groups 512) ≡ communities g
  site_rows = rows_are (rw same (accepted_fits s ok).n_limit) site_read

pub whole_site : {s within near ws sizes cores : List ℕ} {r : SiteGroups} → length within ≡ 8 → ((v : ℕ) → v < 512 → bit_at within v ≡ 1)
    → PartFound s within r near ws sizes cores → SiteFound s (network s) r near ws sizes cores
whole_site long all p = p.found (λ v. true) (record { size = long; bits = all })
