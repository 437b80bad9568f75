use Rattle.std.proofs.Common.{arith, ℕ, ap, take, drop, ◌*◌, ◌+◌, ◌-◌, ◌≡◌}
use Rattle.image.specs.Image.{handset_record}
use Rattle.near.proofs.record_at.Goals as goal

pub returns-then-v-handsets : goal.returns-then-v-handsets
unfolding handset_record
returns-then-v-handsets c =
    let width : 12 * c.args.v + 12 - 12 * c.args.v ≡ 12 = omega arith in
    (omega arith, ap (λ (n : ℕ). take n (drop (12 * c.args.v) c.args.handsets.now)) width)
