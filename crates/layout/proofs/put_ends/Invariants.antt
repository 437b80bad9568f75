-- `layout::put_ends` meets its contract. After i steps the first i ends are written.
use Prim.Native.Nat.{◌+◌, ◌*◌, ◌≤◌}
use mathlib.Core.Path.{◌≡◌}
use lib.ListN.{length, take}
use lib.Seq.{sets}
use Rattle.little_endian.specs.Bytes.{table_bytes}
use Rattle.fields.specs.Fields.{end_bytes}
use Rattle.layout.proofs.put_ends.Given as goal

abbrev pub invariant-loop-i : goal.invariant-loop-i
invariant-loop-i l = (l.from + end_bytes * length l.ends ≤ length l.initial.s) × (l.s ≡ sets l.initial.s l.from (table_bytes end_bytes (take l.i l.ends)))
