-- `near::test_ends` meets its contract: where both records are there, those handed on are these.
use Rattle.std.proofs.Common.{◌∙◌, inl, inr}
use Rattle.near.proofs.Near.{proximity_same}
use Rattle.near.proofs.Edges.{ends_there, ends_missing}
use Rattle.near.proofs.test_ends.Goals as goal

pub returns-in_err-first : goal.returns-in_err-first
returns-in_err-first c = c.from_residual.ensures ∙ ends_missing c.args.handsets.now c.args.u c.args.v c.args.limit (inl c.in_err-first.ensures)

pub returns-in_err-second : goal.returns-in_err-second
returns-in_err-second c = c.from_residual-in_err-second.ensures ∙ ends_missing c.args.handsets.now c.args.u c.args.v c.args.limit (inr c.in_err-second.ensures)

pub returns : goal.returns
returns c =
    proximity_same _ _ c.proximity_of.ensures
    ∙ ends_there c.args.handsets.now _ _ c.args.u c.args.v c.args.limit c.in_ok-first.ensures.0 c.in_ok-second.ensures.0 c.in_ok-first.ensures.1 c.in_ok-second.ensures.1
