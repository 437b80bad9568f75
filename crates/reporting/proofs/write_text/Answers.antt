-- `reporting::write_text` meets its contract. What the buffer has to hold is the text's length where the text is measured, and otherwise a bound on it that the
-- buffer holds; so the second test passes exactly where the text fits.
use Prim.Native.Nat.{ℕ, ◌≤◌, ◌<◌}
use native.Mathlib.Omega.{arith}
use mathlib.Core.List.{List}
use lib.ListN.{length}
use Rattle.rows.proofs.Listing.{members_small}
use Rattle.lines.specs.Lines.{table_text}
use Rattle.lines.specs.ForProofs.{most_bytes}
use Rattle.lines.proofs.Lengths.{text_most}
use Rattle.reporting.proofs.Answers.{filled_written, filled_refused}
use Rattle.reporting.proofs.write_text.Goals.{Joined-text-need, then-text-need, else-text-need}
use Rattle.reporting.proofs.write_text.Goals as goal

-- the text, and the room for it
abbrev written : Joined-text-need → List ℕ
written c = table_text c.args.numbers c.args.rows.now c.args.tallies.now c.args.reaches.now c.args.cores.now c.args.outliers.now

abbrev room : Joined-text-need → ℕ
room c = length c.args.text.now

bounded : (c : Joined-text-need) → length (written c) ≤ most_bytes c.args.numbers.head.counts
bounded c = text_most c.args.numbers c.args.rows.now c.args.tallies.now c.args.reaches.now c.args.cores.now c.args.outliers.now c.requires.few c.requires.listed

small : (c : Joined-text-need) → room c < 9223372036854775808
small c = omega (arith, c.well_formed.0.1)

-- the text fits where what is needed does, and only there
fits : (c : Joined-text-need) → ((c.if-text-need.need ≤ room c) → length (written c) ≤ room c) × ((room c < c.if-text-need.need) → room c < length (written c))
fits c =
    elim c.if-text-need.branch [
      | then-text-need w ↦ ((λ h. omega (arith, w.need-is, w.put_report-need.ensures.next, small c)), (λ h. omega (arith, w.need-is, w.put_report-need.ensures.next)))
      | else-text-need w ↦ ((λ h. omega (arith, w.need-is, c.most_bytes-need.ensures, bounded c)), (λ h. absurd (omega (arith, w.need-is, w.if-text-need.false, c.most_bytes-need.ensures))))
    ]

pub most_bytes-need-requires : goal.most_bytes-need-requires
most_bytes-need-requires c = (c.requires.few, omega (arith, c.requires.few, c.requires.listed, members_small c.args.rows.now c.args.numbers.head.counts.groups))

pub returns-then-need-text : goal.returns-then-need-text
returns-then-need-text c =
    let test = (goal.at.returns-then-need-text c).Joined-text-need in
    filled_written (small test) ((fits test).0 c.if-need-text.true) c.put_report-length.ensures

pub returns : goal.returns
returns c = rw c.refused.ensures (filled_refused ((fits (goal.at.returns c).Joined-text-need).1 c.if-need-text.false))
