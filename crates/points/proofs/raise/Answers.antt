-- `points::raise` meets its contract. A number of 32 bits and its sum with 2 ^ 31 fit 64 bits; the sum is not negative, and fits 32.
use Rattle.std.proofs.Common.{◌≡◌, ◌<◌, ℤ, pos, negsuc, ◌+ℤ◌, nat_abs, sym, refl, ap, ◌∙◌, subst, arith, to_z-of_z, w32, w64, SFits, to_z, of_z, le-ltb}
use lib.Signed.{mag}
use Rattle.image.specs.Signed.{raised}
use Rattle.points.proofs.raise.Goals as goal

raised-sum : (z : ℤ) → mag z < 2147483648 → (z +ℤ pos 2147483648 ≡ pos (raised z)) × (raised z < 4294967296)
unfolding raised
raised-sum (pos x) h = (refl, omega arith)
raised-sum (negsuc x) h = (simp (le-ltb _ _ h), omega arith)

module _ (z : ℤ) (f : SFits w32 z) where
  -- the number as the code has it in 64 bits, and the sum
  abbrev wide : ℤ
  wide = to_z w32 (of_z w32 z)

  abbrev total : ℤ
  total = to_z w64 (of_z w64 wide) +ℤ pos 2147483648

  wide_fits : SFits w64 wide
  wide_fits = subst (SFits w64) (sym (to_z-of_z f)) (record { sfits = omega (arith, f.sfits) })

  total-is : total ≡ pos (raised z)
  total-is = ap (λ (w : ℤ). w +ℤ pos 2147483648) (to_z-of_z wide_fits ∙ to_z-of_z f) ∙ (raised-sum z f.sfits).0

  total-fits : SFits w64 total
  total-fits = subst (SFits w64) (sym total-is) (record { sfits = omega (arith, (raised-sum z f.sfits).1) })

  total-raised : to_z w64 (of_z w64 total) ≡ pos (raised z)
  total-raised = to_z-of_z total-fits ∙ total-is

pub returns : goal.returns
returns c = ap nat_abs (total-raised c.args.x c.ranges.x)
