-- `writer::write` meets its contract: a refusal of the tables, or 20, ends the call before the buffer is touched; else the image is written.
use Rattle.std.specs.Prelude.{Err}
use mathlib.Core.Path.{sym, ap, ◌∙◌}
use borrow.Author.Rules.{rules}
use Rattle.image.specs.Questions.{refusal_of}
use Rattle.writer.proofs.Drafting.{call_no, call_short, call_yes}
use Rattle.writer.proofs.write.Goals as goal

pub returns-in_default : goal.returns-in_default
returns-in_default c =
    call_no c.args.x c.args.coordinates.now c.args.ends.now c.args.buffer.now c.refusal_of.result
    (sym c.ask_tables-asked.ensures ∙ c.in_default.is ∙ sym (ap Err (c.refusal_of.ensures ∙ ap refusal_of c.in_default.is)))

pub returns-then-buffer-len : goal.returns-then-buffer-len
returns-then-buffer-len c =
    rw c.refused.ensures
    (call_short c.args.x c.args.coordinates.now c.args.ends.now c.args.buffer.now c.in-Ok.h (sym c.ask_tables-asked.ensures ∙ c.in-Ok.is) (search rules))

pub returns : goal.returns
returns c = call_yes c.args.x c.args.coordinates.now c.args.ends.now c.args.buffer.now c.in-Ok.h _ _ (sym c.ask_tables-asked.ensures ∙ c.in-Ok.is) (search rules) c.put_image.ensures
