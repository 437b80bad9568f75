-- `image::open_header` meets its contract: the first no is the answer, and after a yes to 1 and 2 it is what questions 3 to 6 are put to.
use Rattle.std.proofs.Common.{rules}
use Rattle.std.proofs.lemmas.Result.{err_from_is_err_and}
use Rattle.image.specs.Questions.{ask, ask_image}
use Rattle.image.proofs.open_header.Goals as goal

pub returns-in_err-ask : goal.returns-in_err-ask
unfolding ask_image ask
returns-in_err-ask c = let p = err_from_is_err_and c.from_residual.result c.from_residual.ensures.1 in rw (p.1, p.2, c.in_err-ask.ensures.1) (search rules)

pub returns-in_err-ask-2 : goal.returns-in_err-ask-2
unfolding ask_image ask
returns-in_err-ask-2 c = let p = err_from_is_err_and c.from_residual-in_err-ask-2.result c.from_residual-in_err-ask-2.ensures.1 in rw (p.1, p.2, c.in_err-ask-2.ensures.1) (search rules)

pub returns : goal.returns
unfolding ask_image ask
returns c = search rules
