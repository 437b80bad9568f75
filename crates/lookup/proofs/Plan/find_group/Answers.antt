-- `lookup::Plan::find_group` meets its contract: its answer is the one of the span that it found.
use mathlib.Core.Path.{sym, ap, ◌∙◌}
use Rattle.lookup.specs.Answers.{look_answer}
use Rattle.lookup.proofs.Agreement.{looked_span}
use Rattle.lookup.proofs.Plan.find_group.Goals as goal

pub returns-in-Some : goal.returns-in-Some
returns-in-Some c = ap look_answer (sym (looked_span _ _ _ _ (sym c.in-Some.is ∙ c.find_span.ensures.found) c.in-Some.ensures.inside))

pub returns-in-None : goal.returns-in-None
returns-in-None c =
    rw c.refused.ensures
    (ap look_answer (sym (looked_span _ _ _ _ (sym c.in-None.is ∙ c.find_span.ensures.found) c.in-None.ensures.inside)))
