-- `nearest::nearest_group` meets its contract: an image that the reader refuses ends the call with its refusal, a point out of the limits with 17, and the
-- rest is `nearest_site`'s, over the rows that the crate graph finds.
use Rattle.std.specs.Prelude.{Err}
use mathlib.Core.Path.{◌≡◌, sym, ap, ◌∙◌, subst}
use mathlib.Core.List.{[], ◌∷◌}
use lib.Dec.{T}
use Rattle.image.specs.Questions.{open_of, refusal_of}
use Rattle.image.proofs.Acceptance.{accepted}
use Rattle.nearest.specs.Nearest.{nearest_answer}
use Rattle.nearest.proofs.Answers.{refused_answer, past_answer}
use Rattle.nearest.proofs.Rows.{rows_found}
use Rattle.nearest.proofs.nearest_group.Goals as goal

pub returns-in_default : goal.returns-in_default
returns-in_default c =
    let e : open_of c.args.image.now ≡ Err c.refusal_of.result =
    sym c.find_rows-found.ensures.site.answered ∙ c.in_default.is ∙ ap Err (sym (c.refusal_of.ensures ∙ ap refusal_of c.in_default.is)) in
    ap nearest_answer (refused_answer c.args.image.now (c.args.point.x ∷ c.args.point.y ∷ c.args.point.z ∷ []) c.refusal_of.result e)

pub nearest_site-requires : goal.nearest_site-requires
nearest_site-requires c =
    let ok = accepted c.args.image.now c.in-Ok.h (sym c.find_rows-found.ensures.site.answered ∙ c.in-Ok.is) in
    (record { accepted = ok.0; header = ok.1; inside = subst T (c.is_in_limits.ensures) (subst T (sym c.if-is_in_limits.true) tt) }, rows_found _ ok.0 (c.find_rows-found.ensures.site.found c.in-Ok.h c.in-Ok.is))

pub returns : goal.returns
returns c =
    let ok = accepted c.args.image.now c.in-Ok.h (sym c.find_rows-found.ensures.site.answered ∙ c.in-Ok.is) in
    rw c.refused.ensures (ap nearest_answer (past_answer c.args.image.now _ ok.0 (sym c.is_in_limits.ensures ∙ c.if-is_in_limits.false)))
