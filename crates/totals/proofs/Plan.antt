-- By the rows of a network's communities and the set of its cores, the roles are those of the network.
--
--     plan_totals       the totals are the network's
--     plan_outliers     the set holds the network's outliers
use Prim.Native.Nat.{ℕ, ◌≤◌, ◌<◌, min}
use native.Mathlib.Omega.{arith}
use native.Mathlib.Decide.{dec_lt}
use mathlib.Core.Path.{◌≡◌, ap, ap₂, ◌∙◌}
use mathlib.Core.Bool.{Bool, ◌&&◌}
use mathlib.Core.List.{List}
use lib.Dec.{eqb, ltb}
use borrow.Author.Tests.{lt-ltb, le-ltb}
use Rattle.sets.specs.Below.{bit}
use Rattle.sets.specs.Bits.{bit_at}
use Rattle.sets.specs.Rows.{SetOf}
use Rattle.sets.proofs.Counting.{bit_test}
use Rattle.community.specs.Network.{Network, is_core, communities, role_among, role}
use Rattle.community.specs.declared.Role.{Role}
use Rattle.rows.specs.Rows.{rows_of}
use Rattle.tables.specs.Plan.{role_for}
use Rattle.totals.specs.declared.Totals.{Totals}
use Rattle.totals.specs.Totals.{is_core_role, is_border, is_outlier, is_multiple, totals_of, totals, RolesCounted}
use Rattle.totals.proofs.Adding.{totals_same}

module _ (g : Network) (cores rows : List ℕ) (k : ℕ) (few : g.n ≤ 512) (listed : rows_of rows k ≡ communities g)
    (held : SetOf cores (λ v. ltb v g.n && is_core g v)) where
  role_held : (v : ℕ) → v < g.n → role_for cores rows k v ≡ role g v
  unfolding role_for role
  role_held v h =
      let core : eqb (bit_at cores v) 1 ≡ is_core g v =
      ap (λ (b : ℕ). eqb b 1) (held.bits v (omega arith)) ∙ bit_test (ltb v g.n && is_core g v) ∙ ap (λ (b : Bool). b && is_core g v) (lt-ltb v g.n h) in
      ap₂ (λ (gs : List (List ℕ)) (b : Bool). role_among gs b v) listed core

  module _ {t : Totals} {outliers : List ℕ} (counted : RolesCounted cores rows k g.n t outliers) where
    pub plan_totals : t ≡ totals g
    unfolding totals
    plan_totals =
        counted.numbers ∙ ap (λ (m : ℕ). totals_of m (role_for cores rows k)) (let e : min g.n 512 ≡ g.n = omega arith in e)
        ∙ totals_same g.n (role_for cores rows k) (role g)
        (λ v h. record {
          core = ap is_core_role (role_held v h);
          border = ap is_border (role_held v h);
          outlier = ap is_outlier (role_held v h);
          multiple = ap is_multiple (role_held v h);
        })

    pub plan_outliers : (v : ℕ) → v < 512 → bit_at outliers v ≡ bit (ltb v g.n && is_outlier (role g v))
    plan_outliers v h = counted.marked.bits v h ∙ pick (dec_lt v g.n)
      where
        pick : Dec (v < g.n) → bit (ltb v g.n && is_outlier (role_for cores rows k v)) ≡ bit (ltb v g.n && is_outlier (role g v))
        pick (yes l) = ap (λ (r : Role). bit (ltb v g.n && is_outlier r)) (role_held v l)
        pick (no l) = rw (le-ltb v g.n (omega arith))
