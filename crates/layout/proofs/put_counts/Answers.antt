-- `layout::put_counts` meets its contract: each field is written where the last ended.
use native.Mathlib.Omega.{arith}
use mathlib.Core.Path.{refl}
use Rattle.little_endian.specs.Bytes.{le_bytes}
use Rattle.layout.specs.ForProofs.{counts_bytes}
use Rattle.layout.proofs.Storing.{next}
use Rattle.layout.proofs.put_counts.Goals as goal

pub returns : goal.returns
unfolding counts_bytes le_bytes
returns c =
    let r1 = next _ _ _ _ _ _ c.write.ensures (refl, refl) (omega (arith, c.requires)) in
    let r2 = next _ _ _ _ _ _ c.write-2.ensures r1 (omega (arith, c.requires)) in
    let r3 = next _ _ _ _ _ _ c.write-3.ensures r2 (omega (arith, c.requires)) in
    let r4 = next _ _ _ _ _ _ c.write-4.ensures r3 (omega (arith, c.requires)) in
    (next _ _ _ _ _ _ c.write-5.ensures r4 (omega (arith, c.requires))).0
