use Prim.Native.Nat.{◌*◌}
use native.Mathlib.Omega.{arith}
use mathlib.Core.Path.{◌≡◌, sym, ap₂}
use lib.Dec.{leb}
use lib.ListN.{get_or}
use Rattle.image.specs.Image.{end_a, end_b}
use Rattle.community.specs.Scores.{every_edge, just_one}
use Rattle.sets.proofs.Counting.{bit_le}
use Rattle.scores.proofs.Entries.{joined_none, leaving_none, joined_more, leaving_more, joined_le, leaving_le, ties_le}
use Rattle.scores.proofs.tally_edges.Goals as goal

pub loop-k-init : goal.loop-k-init
loop-k-init c = record { joined = sym (joined_none _ _ every_edge); leaving = sym (leaving_none _ _ every_edge) }

pub overflow_add-joined : goal.overflow_add-joined
overflow_add-joined c =
    let a : c.at_or_zero-a.result ≡ get_or c.args.table.now (end_a c.args.edges.now c.loop-k.k) 0 = rw c.ends_at-ends.ensures at c.at_or_zero-a.ensures in
    let b : c.at_or_zero-b.result ≡ get_or c.args.table.now (end_b c.args.edges.now c.loop-k.k) 0 = rw c.ends_at-ends.ensures at c.at_or_zero-b.ensures in
    omega (arith, ap₂ ◌*◌ a b, ties_le c.args.table.now c.args.edges.now every_edge c.requires.1 c.loop-k.k, joined_le c.args.table.now c.args.edges.now every_edge c.requires.1 c.loop-k.k, c.requires.0)

pub overflow_add-leaving : goal.overflow_add-leaving
overflow_add-leaving c =
    omega (arith, leaving_le c.args.table.now c.args.edges.now every_edge c.loop-k.k, c.requires.0, c.just_one-leaving.ensures, bit_le (just_one (leb 1 c.at_or_zero-a.result) (leb 1 c.at_or_zero-b.result)))

pub loop-k-preserved : goal.loop-k-preserved
loop-k-preserved c =
    let a : c.at_or_zero-a.result ≡ get_or c.args.table.now (end_a c.args.edges.now c.loop-k.k) 0 = rw c.ends_at-ends.ensures at c.at_or_zero-a.ensures in
    let b : c.at_or_zero-b.result ≡ get_or c.args.table.now (end_b c.args.edges.now c.loop-k.k) 0 = rw c.ends_at-ends.ensures at c.at_or_zero-b.ensures in
    record {
      joined = rw (joined_more c.args.table.now c.args.edges.now every_edge c.loop-k.k, a, b, c.loop-k.invariant.joined);
      leaving = rw (leaving_more c.args.table.now c.args.edges.now every_edge c.loop-k.k, c.just_one-leaving.ensures, a, b, c.loop-k.invariant.leaving);
    }
