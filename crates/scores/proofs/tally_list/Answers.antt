-- `scores::tally_list` meets its contract: a refused image gives its refusal. An opened one is accepted, the first bad entry is refused, or there is none
-- and the list is within its limits, and the slice from the offset to the end of the edge records is theirs.
use Rattle.std.specs.Prelude.{Err, Ok}
use Prim.Native.Nat.{◌+◌, ◌*◌, ◌≤◌}
use native.Mathlib.Omega.{arith}
use mathlib.Core.Path.{◌≡◌, sym, ap, ◌∙◌}
use lib.ListN.{length}
use Rattle.fields.specs.Fields.{edge_bytes}
use Rattle.image.proofs.Answers.{open_same}
use Rattle.image.proofs.Records.{edge_slice}
use Rattle.image.proofs.Scanning.{first_nothing}
use Rattle.image.specs.Questions.{open_of, refusal_of}
use Rattle.community.specs.Scores.{every_edge}
use Rattle.scores.specs.Answers.{tally_answer}
use Rattle.scores.specs.ForProofs.{tally_at}
use Rattle.scores.specs.Scored.{bad_entry}
use Rattle.scores.proofs.Entries.{listed, entries_no, entries_yes}
use Rattle.scores.proofs.Tallying.{site_fits, site_tallied, site_refused}
use Rattle.scores.proofs.tally_list.Goals as goal

pub returns-in_default : goal.returns-in_default
returns-in_default c = ap tally_answer (ap Err (c.refusal_of.ensures ∙ ap refusal_of c.in_default.is) ∙ sym (site_refused c.args.image.now _ c.args.list.now (sym (open_same _ _ c.open-opened.ensures) ∙ c.in_default.is)))

pub returns-in-Some : goal.returns-in-Some
returns-in-Some c =
    let h = c.in-Ok.h in
    let l = c.args.list.now in
    let is : open_of c.args.image.now ≡ Ok h = sym (open_same _ _ c.open-opened.ensures) ∙ c.in-Ok.is in
    rw c.refused_at.ensures
    (ap tally_answer (entries_no h.n l (tally_at (edge_slice c.args.image.now h) h.m every_edge l) _ (rw c.from.ensures at c.in-Some.ensures) ∙ site_tallied c.args.image.now h is l))

pub slice_bounds-tally_listed-end : goal.slice_bounds-tally_listed-end
slice_bounds-tally_listed-end c =
    let f = site_fits c.args.image.now c.in-Ok.h (sym (open_same _ _ c.open-opened.ensures) ∙ c.in-Ok.is) in
    let end : c.in-Ok.h.edges + edge_bytes * c.from-m.result ≤ length c.args.image.now = omega (arith, f.0, c.from-m.ensures) in
    end

pub tally_listed-requires : goal.tally_listed-requires
tally_listed-requires c =
    let h = c.in-Ok.h in
    let l = c.args.list.now in
    let f = site_fits c.args.image.now h (sym (open_same _ _ c.open-opened.ensures) ∙ c.in-Ok.is) in
    (omega (arith, f.1, c.from-m.ensures), listed h.n l f.2 (first_nothing (length l) (bad_entry h.n l) (sym (rw c.from.ensures at c.in_default-first_bad_entry.ensures))))

pub returns : goal.returns
returns c =
    let h = c.in-Ok.h in
    let l = c.args.list.now in
    let is : open_of c.args.image.now ≡ Ok h = sym (open_same _ _ c.open-opened.ensures) ∙ c.in-Ok.is in
    ap tally_answer
    (ap Ok (rw c.from-m.ensures at c.tally_listed.ensures)
    ∙ entries_yes h.n l (tally_at (edge_slice c.args.image.now h) h.m every_edge l) (rw c.from.ensures at c.in_default-first_bad_entry.ensures)
    ∙ site_tallied c.args.image.now h is l)
