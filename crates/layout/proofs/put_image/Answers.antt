-- `layout::put_image` meets its contract. With counts within their limits no number wraps; where the tables are those of the counts the four parts follow one
-- another, and stand in a buffer that holds the image.
use Prim.Native.Nat.{ℕ, ◌+◌, ◌*◌}
use native.Mathlib.Omega.{arith}
use mathlib.Core.Path.{◌≡◌, refl, sym, ap, ◌∙◌, subst}
use mathlib.Core.Bool.{Bool, true, ◌&&◌}
use lib.Dec.{T, leb}
use lib.ListN.{length}
use lib.Seq.{sets}
use Rattle.fields.specs.Fields.{coordinate_bytes, header_bytes}
use Rattle.limits.specs.Limits.{counts_fit}
use Rattle.layout.specs.Layout.{header_for, edge_table, lengths_fit}
use Rattle.layout.proofs.Storing.{parts, fitting, writes_by, writes_yes}
use Rattle.layout.proofs.put_image.Goals as goal

pub returns : goal.returns
returns c =
    let counts : T (counts_fit c.args.x.n c.args.x.m) = subst T (sym (sym c.counts_fit.ensures ∙ c.if-not-counts_fit.false)) tt in
    let tests : (lengths_fit c.args.x (length c.args.coordinates.now) (length c.args.ends.now) && leb (header_for c.args.x).len (length c.args.s.now)) ≡ true =
    ap (λ (b : Bool). b && leb (header_for c.args.x).len (length c.args.s.now)) (sym c.lengths_fit.ensures) ∙ c.if-not-lengths_fit-len.false in
    let fits = fitting c.args.x _ _ _ counts tests in
    let at : (header_for c.args.x).edges ≡ header_bytes + coordinate_bytes * length c.args.coordinates.now = omega (arith, fits.coordinates) in
    writes_yes c.args.x c.args.coordinates.now c.args.ends.now c.args.s.now
    (writes_by c.args.x c.args.coordinates.now c.args.ends.now c.args.s.now true counts tests)
    (parts c.args.x c.args.coordinates.now c.args.ends.now c.args.s.now _ _ _ _ c.put_counts.ensures c.put_thresholds.ensures c.put_coordinates.ensures
    (c.put_ends.ensures ∙ ap (λ (k : ℕ). sets c.put_coordinates.new.s k (edge_table c.args.ends.now)) at))
    refl
