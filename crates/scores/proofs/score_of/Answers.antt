-- `scores::score_of` meets its contract: the test is the definition's.
use borrow.Author.Tests.{eq-eqb, ne_eqb}
use Rattle.scores.specs.Scored.{score}
use Rattle.scores.proofs.score_of.Goals as goal

pub returns-then-b-eq0 : goal.returns-then-b-eq0
unfolding score
returns-then-b-eq0 c = simp (eq-eqb _ _ c.if-b-eq0.true)

pub returns-else-b-eq0 : goal.returns-else-b-eq0
unfolding score
returns-else-b-eq0 c = simp (ne_eqb _ _ c.if-b-eq0.false)
