-- `image::read_image` meets its contract. A no to one of questions 1 to 6 is the answer; where they all get a yes the tables lie in the image, and the
-- rest is what questions 7 to 10 answer and leave.
use native.Mathlib.Omega.{arith}
use mathlib.Core.Path.{sym, ◌∙◌}
use Rattle.std.proofs.lemmas.Result.{err_from_is_err_and}
use Rattle.image.proofs.Acceptance.{header_no, header_yes, header_passed}
use Rattle.image.proofs.Faults.{held_related}
use Rattle.image.proofs.read_image.Goals as goal

pub returns-in_err-h-clause-answer : goal.returns-in_err-h-clause-answer
returns-in_err-h-clause-answer c =
    let p = err_from_is_err_and c.from_residual.result c.from_residual.ensures.1 in
    rw (p.1, p.2) (sym (header_no _ _ (sym c.in_err-h.ensures)))

pub ask_tables-requires : goal.ask_tables-requires
ask_tables-requires c =
    let f = header_passed _ _ (sym c.in_ok-h.ensures) in
    (f.0.n_limit, omega (arith, f.0.handsets_to, f.1), omega (arith, f.0.edges_to, f.1), c.requires)

pub returns-clause-answer : goal.returns-clause-answer
returns-clause-answer c = c.ask_tables.ensures.answer ∙ sym (header_passed _ _ (sym c.in_ok-h.ensures)).2

pub returns-clause-held : goal.returns-clause-held
returns-clause-held c = held_related _ _ (header_yes _ _ (sym c.in_ok-h.ensures)).1 c.ask_tables.ensures.held
