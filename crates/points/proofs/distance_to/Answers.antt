use Rattle.std.proofs.Common.{◌≡◌, ℕ, ◌+◌, ◌*◌, ◌%◌, ◌^◌, ◌<◌, List, get_or, sym, refl, ap, ◌∙◌, add-one, arith}
use Rattle.sets.specs.Below.{sum}
use Rattle.little_endian.specs.Bytes.{number}
use Rattle.fields.specs.Fields.{coordinate_bytes, coordinate_count, handset_bytes, shifted, gap, coordinate_of}
use Rattle.little_endian.proofs.Bytes.{number_slice}
use Rattle.image.specs.Image.{handset_record}
use Rattle.points.specs.Points.{distance_from}
use Rattle.points.proofs.distance_to.Invariants.{squares}
use Rattle.points.proofs.distance_to.Goals as goal

-- a coordinate read from the records is that of the handset's record
coordinate_at : (records : List ℕ) (v i : ℕ) → i < coordinate_count → shifted (number coordinate_bytes records (handset_bytes * v + coordinate_bytes * i)) ≡ coordinate_of (handset_record records v) i
unfolding coordinate_of handset_record
coordinate_at records v i h =
    ap shifted (sym (number_slice coordinate_bytes records (handset_bytes * v) handset_bytes (coordinate_bytes * i) (omega arith) (omega arith)))

-- one square more
wrap-more : (total d x y : ℕ) → total ≡ x % 2 ^ 64 → d ≡ y → (total + d) % 2 ^ 64 ≡ (y + x) % 2 ^ 64
wrap-more total d x y p q = omega arith

pub loop-i-init : goal.loop-i-init
unfolding sum
loop-i-init c = refl

pub loop-i-preserved : goal.loop-i-preserved
unfolding sum
loop-i-preserved c =
    let square : c.squared_gap-total.result ≡ squares c.args.point.now c.args.handsets.now c.args.v c.loop-i.i =
    c.squared_gap-total.ensures
    ∙ ap (λ (y : ℕ). let x : ℕ = get_or c.args.point.now c.loop-i.i 0 in gap x y * gap x y)
    (c.coordinate-coordinate.ensures ∙ coordinate_at c.args.handsets.now c.args.v c.loop-i.i (omega arith)) in
    rw (add-one c.loop-i.i) (wrap-more c.loop-i.total _ _ _ c.loop-i.invariant square)

pub returns : goal.returns
unfolding distance_from
returns c =
    let e : c.loop-i.i ≡ coordinate_count = omega arith in
    c.loop-i.invariant ∙ ap (λ (n : ℕ). sum n (squares c.args.point.now c.args.handsets.now c.args.v) % 2 ^ 64) e
