-- `image::ask_edges` meets its contract. Where the pass comes to the end, no edge is at fault, and the table has them all. Where it does not, the first no to
-- question 8 or 9 is the refusal, and else the first fault is the first repeat.
use Rattle.std.proofs.Common.{rules}
use native.Mathlib.Omega.{arith}
use mathlib.Core.Path.{sym, ◌∙◌}
use Rattle.std.proofs.lemmas.Result.{err_from_is_err_and}
use Rattle.image.specs.Questions.{bad_end, ask_edges}
use Rattle.image.proofs.Scanning.{each_no, each_yes}
use Rattle.image.proofs.Faults.{edges_yes, edges_repeat}
use Rattle.image.proofs.ask_edges.Goals as goal

pub returns-in_default-clause-answer : goal.returns-in_default-clause-answer
returns-in_default-clause-answer c = sym (edges_yes c.args.records.now c.args.h (rw (c.from-m.ensures, c.from-n.ensures) at c.in_default.ensures.first))

pub returns-in_err-ask_each-clause-answer : goal.returns-in_err-ask_each-clause-answer
unfolding ask_edges
returns-in_err-ask_each-clause-answer c =
    let p = err_from_is_err_and c.from_residual.result c.from_residual.ensures.1 in
    let e = c.in_err-ask_each.ensures in
    rw (p.1, p.2) (sym (each_no _ _ _ _ _ e.0 (rw c.from-m.ensures at e.1) (search rules) (λ k h. let q = e.3 k h in search rules)))

pub returns-in_err-ask_each-2-clause-answer : goal.returns-in_err-ask_each-2-clause-answer
unfolding ask_edges
returns-in_err-ask_each-2-clause-answer c =
    let p = err_from_is_err_and c.from_residual-in_err-ask_each-2.result c.from_residual-in_err-ask_each-2.ensures.1 in
    let e = c.in_err-ask_each-2.ensures in
    rw (p.1, p.2)
    (sym (each_yes c.args.h.m (bad_end c.args.records.now c.args.h.n) 8 _ (λ k h. let q = c.in_ok-ask_each.ensures k (omega (arith, h, c.from-m.ensures)) in search rules)
    ∙ each_no _ _ _ _ _ e.0 (rw c.from-m.ensures at e.1) (search rules) (λ k h. let q = e.3 k h in search rules)))

pub returns-clause-answer : goal.returns-clause-answer
returns-clause-answer c =
    rw c.refused_at.ensures
    (sym (edges_repeat c.args.records.now c.args.h c.in-Some.fault (rw (c.from-m.ensures, c.from-n.ensures) at c.in-Some.ensures.first)
    (λ k h. let q = c.in_ok-ask_each.ensures k (omega (arith, h, c.from-m.ensures)) in search rules)
    (λ k h. let q = c.in_ok-ask_each-2.ensures k (omega (arith, h, c.from-m.ensures)) in search rules)))
