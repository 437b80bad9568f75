use Rattle.std.proofs.Common.{◌<◌}
use native.Mathlib.Omega.{arith}
use mathlib.Core.Path.{◌≡◌, sym, ap, ◌∙◌}
use Rattle.sets.proofs.Bits.{bit_at_lt}
use Rattle.fields.specs.declared.Ends.{Ends}
use Rattle.image.specs.Image.{end_a, end_b}
use Rattle.image.proofs.Scanning.{scan_none, scan_more}
use Rattle.image.proofs.Rows.{zero_is}
use Rattle.image.proofs.Edges.{linked_none, second_new, fault_a, fault_b, fault_cell, table_more, added_no, added_yes}
use Rattle.image.proofs.add_edges.Goals as goal
use Rattle.image.proofs.add_edges.Goals.{then-e-n-via-then-e-n, then-e-n-via-else-e-n+then-e-n-2, then-e-n-via-else-e-n+else-e-n-2+then-has}

pub loop-k-init : goal.loop-k-init
loop-k-init c = record { long = c.told-rows; none = scan_none _; table = linked_none _ _ c.requires.2; counted = c.requires.3 }

pub returns-then-e-n : goal.returns-then-e-n
returns-then-e-n c =
    let p : c.ends_at-e.result.a ≡ end_a c.args.records.now c.loop-k.k = ap (λ (e : Ends). e.a) c.ends_at-e.ensures in
    let q : c.ends_at-e.result.b ≡ end_b c.args.records.now c.loop-k.k = ap (λ (e : Ends). e.b) c.ends_at-e.ensures in
    let t = c.loop-k.invariant.table in
    added_no _ _ _ _ c.loop-k.invariant.none _ _ c.loop-k-test.true
    (elim c.then-e-n.branch [
      | then-e-n-via-then-e-n w ↦ fault_a _ _ _ t _ _ p q w.if-e-n.true
      | then-e-n-via-else-e-n+then-e-n-2 w ↦ fault_b _ _ _ t _ _ p q w.if-e-n-2.true
      | then-e-n-via-else-e-n+else-e-n-2+then-has w ↦ fault_cell _ _ _ t _ _ p q c.requires.0 w.if-e-n.false w.if-e-n-2.false ∙ sym w.has.ensures ∙ w.if-has.true
    ])

pub add-requires : goal.add-requires
add-requires c = (omega (arith, c.requires.0), omega (arith, c.requires.0), c.loop-k.invariant.counted, zero_is _ (bit_at_lt c.loop-k.rows _) (sym c.has.ensures ∙ c.if-has.false))

pub add-requires-in-loop-k : goal.add-requires-in-loop-k
add-requires-in-loop-k c =
    let a : c.ends_at-e.result.a < 512 = omega (arith, c.requires.0) in
    let b : c.ends_at-e.result.b < 512 = omega (arith, c.requires.0) in
    (b, a, c.add.ensures.counted, rw c.add.ensures.added (second_new _ _ _ c.loop-k.invariant.table _ _ c.if-e-n.false a b (zero_is _ (bit_at_lt c.loop-k.rows _) (sym c.has.ensures ∙ c.if-has.false))))

pub loop-k-preserved : goal.loop-k-preserved
loop-k-preserved c =
    let p : c.ends_at-e.result.a ≡ end_a c.args.records.now c.loop-k.k = ap (λ (e : Ends). e.a) c.ends_at-e.ensures in
    let q : c.ends_at-e.result.b ≡ end_b c.args.records.now c.loop-k.k = ap (λ (e : Ends). e.b) c.ends_at-e.ensures in
    let t = c.loop-k.invariant.table in
    record {
      long = c.add-in-loop-k.array_long;
      none = scan_more _ _ c.loop-k.invariant.none (fault_cell _ _ _ t _ _ p q c.requires.0 c.if-e-n.false c.if-e-n-2.false ∙ sym c.has.ensures ∙ c.if-has.false);
      table = rw (c.add-in-loop-k.ensures.added, c.add.ensures.added) (table_more _ _ _ t _ _ p q c.requires.0 c.if-e-n.false c.if-e-n-2.false c.loop-k.invariant.long);
      counted = c.add-in-loop-k.ensures.counted;
    }

pub returns : goal.returns
returns c = added_yes _ _ _ _ c.loop-k.invariant.none (omega arith) c.loop-k.invariant.table c.loop-k.invariant.counted
