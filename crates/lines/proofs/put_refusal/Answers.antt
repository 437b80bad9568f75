-- `lines::put_refusal` meets its contract: two labelled numbers and byte 10.
use borrow.Author.Rules.{rules}
use Rattle.text.proofs.Writing.{then, written}
use Rattle.lines.specs.Lines.{refused_text}
use Rattle.lines.proofs.put_refusal.Goals as goal

pub returns : goal.returns
unfolding refused_text
returns c =
    written c.new-text.ensures.bytes c.new-text.ensures.position (search rules)
    (then (rw c.from.ensures at c.put_labelled.ensures) (then c.put_labelled-2.ensures c.end_line.ensures))
