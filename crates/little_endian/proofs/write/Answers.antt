use Rattle.std.proofs.Common.{arith, sym, ℕ, ◌+◌, ◌-◌, ◌≡◌, length-take, length-drop}
use Rattle.little_endian.proofs.Writing.{write_none, write_more, stored_past, stored_part}
use Rattle.little_endian.proofs.write.Goals as goal
use Rattle.little_endian.proofs.write.Goals.{then-s-w-via-then-s-w, then-s-w-via-else-s-w+then-s-w-2}

pub loop-byte-init : goal.loop-byte-init
loop-byte-init c = write_none _ c.args.v

pub loop-byte-preserved : goal.loop-byte-preserved
loop-byte-preserved c = write_more _ c.args.v c.loop-byte.byte-index c.loop-byte.rest c.loop-byte.byte-items c.loop-byte.invariant.0 c.loop-byte.invariant.1

pub returns-then-s-w : goal.returns-then-s-w
returns-then-s-w c =
    sym (stored_past c.args.w c.args.s.now c.args.at c.args.v
    (elim c.then-s-w.branch [ then-s-w-via-then-s-w w ↦ omega arith | then-s-w-via-else-s-w+then-s-w-2 w ↦ omega arith ]))

pub returns : goal.returns
returns c =
    let all : c.loop-byte.byte-index ≡ c.args.w = omega (arith, length-take {A = ℕ}, length-drop {A = ℕ}) in
    let width : c.args.at + c.args.w - c.args.at ≡ c.args.w = omega arith in
    rw width (stored_part c.args.w c.args.s.now c.args.at c.args.v c.loop-byte.byte-items (omega arith)
    (rw (all, width) at c.loop-byte.invariant.1))
