-- `similarity::meets_epsilon` meets its contract: no product of four numbers of 16 bits wraps.
use native.Mathlib.Nat.{mul-le-mul}
use mir.Facts.{Fits-le, Fits-lit}
use Prim.Native.Nat.{ℕ, ◌*◌, ◌≤◌}
use native.Mathlib.Omega.{arith}
use mir.Syntax.{w16, w64}
use mir.Val.{Fits}
use mathlib.Core.Path.{refl}
use Rattle.community.specs.Network.{meets_epsilon}
use Rattle.similarity.proofs.meets_epsilon.Goals as goal

-- the largest number of 16 bits
abbrev most : ℕ
most = 65535

low : {x : ℕ} → Fits w16 x → x ≤ most
low h = omega (arith, h.fits)

two-fit : {x y : ℕ} → x ≤ most → y ≤ most → Fits w64 (x * y)
two-fit h l = Fits-le (mul-le-mul h l) (Fits-lit tt)

four-fit : {x y z w : ℕ} → x ≤ most → y ≤ most → z ≤ most → w ≤ most → Fits w64 (x * y * (z * w))
four-fit h l k m = Fits-le (mul-le-mul (mul-le-mul h l) (mul-le-mul k m)) (Fits-lit tt)

pub returns : goal.returns
unfolding meets_epsilon
returns c = refl
