use native.Mathlib.Omega.{arith}
use native.Mathlib.Numerals.{add-one}
use mathlib.Core.Path.{ap, ◌∙◌}
use mathlib.Core.List.{map}
use lib.ListN.{length-map}
use mir.Facts.{to_z-of_z}
use mir.Syntax.{w32}
use Rattle.little_endian.proofs.Writing.{table_none, table_more}
use Rattle.fields.specs.Fields.{coordinate_bytes, header_bytes}
use Rattle.layout.specs.Layout.{word32}
use Rattle.layout.proofs.Storing.{get_or_word}
use Rattle.layout.proofs.put_coordinates.Goals as goal

pub loop-i-init : goal.loop-i-init
loop-i-init c = (c.requires, table_none coordinate_bytes c.args.s.now header_bytes (map word32 c.args.coordinates.now))

pub loop-i-preserved : goal.loop-i-preserved
loop-i-preserved c =
    let words = map word32 c.args.coordinates.now in
    rw (add-one c.loop-i.i) (
      c.loop-i.invariant.0,
      table_more coordinate_bytes c.args.s.now header_bytes words c.loop-i.i _ _ _ (omega (arith, c.loop-i.invariant.0, length-map c.args.coordinates.now word32))
          (omega (arith, length-map c.args.coordinates.now word32)) (c.word.ensures ∙ ap word32 (to_z-of_z {w = w32} (record { sfits = c.word-arg-1.given })) ∙ get_or_word c.args.coordinates.now c.loop-i.i) c.loop-i.invariant.1 c.write.ensures,
    )
