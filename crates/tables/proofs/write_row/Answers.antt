use mathlib.Core.Path.{◌≡◌, refl, sym, ap, ap₂, ◌∙◌}
use mathlib.Core.List.{List}
use Prim.Native.Nat.{ℕ, ◌+◌, ◌*◌, ◌≤◌}
use native.Mathlib.Omega.{arith}
use lib.ListN.{length, get_or}
use lib.Seq.{sets}
use Rattle.sets.specs.Below.{select}
use Rattle.sets.proofs.Writing.{sets_append}
use Rattle.tables.specs.ForProofs.{word_members}
use Rattle.rows.specs.Rows.{row_members}
use Rattle.rows.proofs.Listing.{in_row, row_room}
use Rattle.tables.proofs.Listing.{row_word, row_word_length}
use Rattle.tables.proofs.write_row.Goals as goal

pub loop-j-init : goal.loop-j-init
unfolding select
loop-j-init c = (omega arith, refl)

pub write_word-place-requires : goal.write_word-place-requires
write_word-place-requires c =
    let few : (c.loop-j.j + 1) * 64 ≤ 512 = omega arith in
    (omega arith, omega (arith, row_word_length c.args.rows.now c.args.k c.loop-j.j, row_room c.args.rows.now c.args.k ((c.loop-j.j + 1) * 64) few))

pub loop-j-preserved : goal.loop-j-preserved
loop-j-preserved c =
    let old : List ℕ = select (c.loop-j.j * 64) (in_row c.args.rows.now c.args.k) in
    let new : List ℕ = word_members (c.loop-j.j * 64) (get_or c.args.rows.now (c.args.k * 8 + c.loop-j.j) 0) in (
      omega (arith, row_word_length c.args.rows.now c.args.k c.loop-j.j),
      c.write_word-place.ensures.written
          ∙ ap₂ (λ (m : List ℕ) (i : ℕ). sets m i new) c.loop-j.invariant.1 c.loop-j.invariant.0
          ∙ sym (sets_append c.args.members.now c.args.at old new)
          ∙ ap (sets c.args.members.now c.args.at) (sym (row_word c.args.rows.now c.args.k c.loop-j.j)),
    )

pub returns : goal.returns
unfolding row_members
returns c =
    let e : c.loop-j.j ≡ 8 = omega arith in
    let all = ap (λ (n : ℕ). select (n * 64) (in_row c.args.rows.now c.args.k)) e in
    record {
      next = c.loop-j.invariant.0 ∙ ap (λ (m : List ℕ). c.args.at + length m) all;
      written = c.loop-j.invariant.1 ∙ ap (sets c.args.members.now c.args.at) all;
    }
