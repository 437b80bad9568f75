-- `nearest::nearest_site` meets its contract: the rows of an accepted image's communities each have a member, and the answer over them is the call's.
use mathlib.Core.Path.{refl}
use Rattle.nearest.proofs.Rows.{rows_filled, site_answer_lem}
use Rattle.nearest.proofs.nearest_site.Goals as goal

pub nearest_of-requires : goal.nearest_of-requires
nearest_of-requires c = rows_filled c.args.image.now c.args.groups.rows.now c.args.groups.count c.requires.0.accepted c.requires.1.0 c.requires.1.1

pub returns : goal.returns
returns c =
    site_answer_lem c.requires.0 refl c.raised.result c.args.groups.rows.now c.args.groups.count c.nearest_of.result
    c.raised.ensures c.requires.1.1 (rw c.from.ensures at c.nearest_of.ensures)
