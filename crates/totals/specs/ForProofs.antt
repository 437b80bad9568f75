-- These definitions only serve the proofs; a caller need not believe them.
-- What the call's steps hold, for the contracts inside the crate.
--
--     BitsBelow n j w          the word w has the handsets below n of the 64 from 64 j on
--     with_words t a b c d      the totals with the ones of four words added
--     TotalsAtMost t k         none of the four numbers is above k
--     role_of core one two      the role of a handset that is a core or not, in one group or more, and in two or more; the numbers are left out, and stand as 0,
--                              as 1, and as 2 for two or more
--     set_role ..               that role of v, by three sets
--     WordsCounted ..          the totals and the outliers of the handsets below n, by three sets
use Rattle.std.specs.Prelude.{ℕ, ◌+◌, ◌*◌, ◌≤◌, ◌<◌, min, ◌≡◌, Bool, ◌&&◌, cond, List, eqb, ltb}
use Rattle.std.specs.Int.Count.{ones}
use Rattle.sets.specs.Below.{bit}
use Rattle.sets.specs.Bits.{bit_of, bit_at}
use Rattle.sets.specs.Rows.{SetOf}
use Rattle.community.specs.declared.Role.{Role}
use Rattle.community.specs.declared.Role.TheVariants.{Core, Border, Outlier}
use Rattle.totals.specs.Totals.{is_outlier, totals_of}
use Rattle.totals.specs.declared.Totals.{Totals}

pub record BitsBelow (n j w : ℕ) : Type 0 where
  pub bits : (k : ℕ) → k < 64 → bit_of w k ≡ bit (ltb (j * 64 + k) n)

abbrev pub with_words : Totals → ℕ → ℕ → ℕ → ℕ → Totals
with_words t a b c d = record { cores = t.cores + ones a; borders = t.borders + ones b; outliers = t.outliers + ones c; multiple = t.multiple + ones d }

pub record TotalsAtMost (t : Totals) (k : ℕ) : Type 0 where
  pub cores : t.cores ≤ k
  pub borders : t.borders ≤ k
  pub outliers : t.outliers ≤ k
  pub multiple : t.multiple ≤ k

abbrev pub role_of : Bool → Bool → Bool → Role
role_of core one two = cond core (Core 0) (cond one (Border (cond two 2 1)) Outlier)

abbrev pub set_role : List ℕ → List ℕ → List ℕ → ℕ → Role
set_role once twice cores v = role_of (eqb (bit_at cores v) 1) (eqb (bit_at once v) 1) (eqb (bit_at twice v) 1)

pub record WordsCounted (once twice cores : List ℕ) (n : ℕ) (t : Totals) (outliers : List ℕ) : Type 0 where
  pub numbers : t ≡ totals_of (min n 512) (set_role once twice cores)
  pub marked : SetOf outliers (λ v. ltb v n && is_outlier (set_role once twice cores v))
