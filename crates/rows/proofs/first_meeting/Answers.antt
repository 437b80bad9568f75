-- `rows::first_meeting` meets its contract, by the answer of the method of this name.
use Rattle.std.specs.Option.{unwrap_or}
use mathlib.Core.Path.{ap₂, ◌∙◌}
use Prim.Native.Nat.{min}
use Rattle.rows.proofs.Rows.{met_or}
use Rattle.rows.proofs.first_meeting.Goals as goal

pub returns : goal.returns
returns c =
    c.unwrap_or.ensures
    ∙ ap₂ unwrap_or c.first_meeting.ensures c.min.ensures
    ∙ met_or c.args.set.now c.args.rows.now (min c.args.count 512)
