-- `reporting::report` meets its contract: an image that the reader refuses ends the call with its refusal, and the report of an accepted one is `report_groups`'s.
use Rattle.std.specs.Prelude.{Err}
use mathlib.Core.Path.{◌≡◌, sym, ap, ◌∙◌}
use Rattle.image.specs.Questions.{open_of, refusal_of}
use Rattle.image.proofs.Acceptance.{accepted}
use Rattle.reporting.proofs.Whole.{rows_held}
use Rattle.reporting.proofs.Answers.{site_answer_lem, refused_answer}
use Rattle.reporting.proofs.report.Goals as goal

pub returns-in_default : goal.returns-in_default
returns-in_default c =
    let e : open_of c.args.image.now ≡ Err c.refusal_of.result =
    sym c.find_rows-found.ensures.site.answered ∙ c.in_default.is ∙ ap Err (sym (c.refusal_of.ensures ∙ ap refusal_of c.in_default.is)) in
    refused_answer c.args.image.now c.args.text.now c.refusal_of.result e

pub report_groups-requires : goal.report_groups-requires
report_groups-requires c =
    let a = accepted c.args.image.now c.in-Ok.h (sym c.find_rows-found.ensures.site.answered ∙ c.in-Ok.is) in
    rows_held c.in-Ok.h a.0 a.1 c.find_rows-found.ensures

pub returns : goal.returns
returns c =
    let a = accepted c.args.image.now c.in-Ok.h (sym c.find_rows-found.ensures.site.answered ∙ c.in-Ok.is) in
    site_answer_lem (rows_held c.in-Ok.h a.0 a.1 c.find_rows-found.ensures).accepted c.report_groups.ensures
