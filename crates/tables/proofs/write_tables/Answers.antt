use mathlib.Core.Path.{◌≡◌, sym, ap, ap₂, ◌∙◌}
use mathlib.Core.List.{List}
use Prim.Native.Nat.{ℕ, ◌+◌, ◌≤◌}
use native.Mathlib.Omega.{arith}
use lib.ListN.{length, set}
use lib.Seq.{sets}
use Rattle.sets.proofs.Writing.{sets_append, sets_one, sets_front}
use Rattle.community.specs.Tables.{start_table, member_table}
use Rattle.rows.specs.Rows.{row_members, rows_of}
use Rattle.rows.proofs.Listing.{members_none, members_more, members_length, members_room, members_small}
use Rattle.tables.proofs.Listing.{starts_none, starts_more, starts_length}
use Rattle.tables.proofs.write_tables.Goals as goal

pub loop-k-init : goal.loop-k-init
loop-k-init c = (
  sym (ap length (members_none c.args.groups.rows.now)),
  ap (sets c.args.starts.now 0) (sym (starts_none c.args.groups.rows.now)),
  ap (sets c.args.members.now 0) (sym (members_none c.args.groups.rows.now)),
)

pub overflow_cast-starts : goal.overflow_cast-starts
overflow_cast-starts c = omega (arith, members_small c.args.groups.rows.now c.loop-k.k)

pub write_row-place-requires : goal.write_row-place-requires
write_row-place-requires c =
    let h : c.loop-k.k + 1 ≤ c.args.groups.count = omega arith in
    (omega arith, omega (arith, members_length c.args.groups.rows.now c.loop-k.k, members_room c.args.groups.rows.now (c.loop-k.k + 1) c.args.groups.count h))

pub loop-k-preserved : goal.loop-k-preserved
loop-k-preserved c =
    let old : List ℕ = member_table (rows_of c.args.groups.rows.now c.loop-k.k) in
    let new : List ℕ = row_members c.args.groups.rows.now c.loop-k.k in
    let first : List ℕ = start_table (rows_of c.args.groups.rows.now c.loop-k.k) in
    let place : c.loop-k.place ≡ 0 + length old = omega arith in
    let next : c.write_row-place.result ≡ length old + length new = omega arith in
    let at : c.loop-k.k + 1 ≡ 0 + length first = omega (arith, starts_length c.args.groups.rows.now c.loop-k.k) in (
      omega (arith, next, members_length c.args.groups.rows.now c.loop-k.k),
      ap₂ (λ (m : List ℕ) (n : ℕ). set m (c.loop-k.k + 1) n) c.loop-k.invariant.1 next
          ∙ ap (λ (i : ℕ). set (sets c.args.starts.now 0 first) i (length old + length new)) at
          ∙ sym (sets_one c.args.starts.now 0 first (length old + length new))
          ∙ ap (sets c.args.starts.now 0) (sym (starts_more c.args.groups.rows.now c.loop-k.k)),
      c.write_row-place.ensures.written
          ∙ ap₂ (λ (m : List ℕ) (i : ℕ). sets m i new) c.loop-k.invariant.2 place
          ∙ sym (sets_append c.args.members.now 0 old new)
          ∙ ap (sets c.args.members.now 0) (sym (members_more c.args.groups.rows.now c.loop-k.k)),
    )

pub overflow_cast-starts-2 : goal.overflow_cast-starts-2
overflow_cast-starts-2 c = omega (arith, members_small c.args.groups.rows.now c.loop-k.k)

pub returns : goal.returns
returns c =
    let e : c.loop-k.k ≡ c.args.groups.count = omega arith in
    record {
      started = ap (λ (i : ℕ). set c.loop-k.starts i c.loop-k.place) (sym e) ∙ c.loop-k.invariant.1
          ∙ ap (λ (i : ℕ). sets c.args.starts.now 0 (start_table (rows_of c.args.groups.rows.now i))) e
          ∙ sets_front c.args.starts.now (start_table (rows_of c.args.groups.rows.now c.args.groups.count)) (omega (arith, starts_length c.args.groups.rows.now c.args.groups.count));
      written = c.loop-k.invariant.2
          ∙ ap (λ (i : ℕ). sets c.args.members.now 0 (member_table (rows_of c.args.groups.rows.now i))) e
          ∙ sets_front c.args.members.now (member_table (rows_of c.args.groups.rows.now c.args.groups.count)) (omega arith);
    }
