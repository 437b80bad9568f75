-- `little_endian::write` meets its contract: after i steps the first i bytes are written, and what is left of the number is its quotient.
use Prim.Native.Nat.{◌/◌, ◌^◌}
use mathlib.Core.Path.{◌≡◌}
use lib.Seq.{sets}
use Rattle.little_endian.specs.Bytes.{le_bytes}
use Rattle.little_endian.proofs.write.Given as goal

abbrev pub invariant-loop-byte : goal.invariant-loop-byte
invariant-loop-byte l = (l.rest ≡ l.v / 256 ^ l.byte-index) × (l.byte-items ≡ sets l.initial.byte-items 0 (le_bytes l.byte-index l.v))
