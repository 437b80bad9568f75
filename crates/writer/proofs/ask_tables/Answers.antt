-- `writer::ask_tables` meets its contract. Each no ends the call with its number; where 3, 5 and 6 get a yes the draft holds the image, and the reader answers.
use mathlib.Core.Path.{sym, ap, ◌∙◌}
use Rattle.image.specs.Questions.{open_of}
use Rattle.image.proofs.Answers.{open_same}
use Rattle.writer.proofs.Drafting.{no_3, no_5, no_6, asked, by_reader, draft_image}
use Rattle.writer.proofs.ask_tables.Goals as goal

pub returns-then-not-counts_fit : goal.returns-then-not-counts_fit
returns-then-not-counts_fit c =
    rw c.refused.ensures
    (sym (no_3 c.args.x c.args.coordinates.now c.args.ends.now (sym c.counts_fit.ensures ∙ c.if-not-counts_fit.true)))

pub returns-then-not-thresholds_fit : goal.returns-then-not-thresholds_fit
returns-then-not-thresholds_fit c =
    rw c.refused-then-not-thresholds_fit.ensures
    (sym (no_5 c.args.x c.args.coordinates.now c.args.ends.now (sym c.counts_fit.ensures ∙ c.if-not-counts_fit.false) (sym c.thresholds_fit.ensures ∙ c.if-not-thresholds_fit.true)))

pub returns-then-not-lengths_fit : goal.returns-then-not-lengths_fit
returns-then-not-lengths_fit c =
    rw c.refused-then-not-lengths_fit.ensures
    (sym (no_6 c.args.x c.args.coordinates.now c.args.ends.now (sym c.counts_fit.ensures ∙ c.if-not-counts_fit.false)
    (sym c.thresholds_fit.ensures ∙ c.if-not-thresholds_fit.false) (sym c.lengths_fit.ensures ∙ c.if-not-lengths_fit.true)))

pub returns : goal.returns
returns c =
    let ok = asked c.args.x c.args.coordinates.now c.args.ends.now (sym c.counts_fit.ensures ∙ c.if-not-counts_fit.false)
    (sym c.thresholds_fit.ensures ∙ c.if-not-thresholds_fit.false) (sym c.lengths_fit.ensures ∙ c.if-not-lengths_fit.false) in
    open_same _ _ c.«open».ensures
    ∙ ap open_of (draft_image c.args.x c.args.coordinates.now c.args.ends.now ok _ _ c.put_image-len.ensures)
    ∙ sym (by_reader c.args.x c.args.coordinates.now c.args.ends.now ok)
