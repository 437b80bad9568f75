-- `layout::put_coordinates` meets its contract. After i steps the first i coordinates are written.
use Prim.Native.Nat.{◌+◌, ◌*◌, ◌≤◌}
use mathlib.Core.Path.{◌≡◌}
use mathlib.Core.List.{map}
use lib.ListN.{length, take}
use lib.Seq.{sets}
use Rattle.little_endian.specs.Bytes.{table_bytes}
use Rattle.fields.specs.Fields.{coordinate_bytes, header_bytes}
use Rattle.layout.specs.Layout.{word32}
use Rattle.layout.proofs.put_coordinates.Given as goal

abbrev pub invariant-loop-i : goal.invariant-loop-i
invariant-loop-i l = (header_bytes + coordinate_bytes * length l.coordinates ≤ length l.initial.s) × (l.s ≡ sets l.initial.s header_bytes (table_bytes coordinate_bytes (take l.i (map word32 l.coordinates))))
