-- `image::ask_records` meets its contract: the first no to question 7 is the refusal, and else the edges are asked.
use Rattle.std.proofs.Common.{rules}
use native.Mathlib.Omega.{arith}
use mathlib.Core.Path.{sym, ◌∙◌}
use Rattle.limits.specs.Limits.{out_of_limits}
use Rattle.image.specs.Image.{handset_record}
use Rattle.std.proofs.lemmas.Result.{err_from_is_err_and}
use Rattle.image.specs.Questions.{ask_records}
use Rattle.image.proofs.Scanning.{each_no, each_yes}
use Rattle.image.proofs.ask_records.Goals as goal

pub returns-in_err-ask_each-clause-answer : goal.returns-in_err-ask_each-clause-answer
unfolding ask_records
returns-in_err-ask_each-clause-answer c =
    let p = err_from_is_err_and c.from_residual.result c.from_residual.ensures.1 in
    let e = c.in_err-ask_each.ensures in
    rw (p.1, p.2) (sym (each_no _ _ _ _ _ e.0 (rw c.from.ensures at e.1) (search rules) (λ k h. let q = e.3 k h in search rules)))

pub returns-clause-answer : goal.returns-clause-answer
unfolding ask_records
returns-clause-answer c = c.ask_edges.ensures.answer ∙ sym (each_yes c.args.h.n (λ v. out_of_limits (handset_record c.args.handsets.now v)) 7 _ (λ k h. let q = c.in_ok-ask_each.ensures k (omega (arith, h, c.from.ensures)) in search rules))
