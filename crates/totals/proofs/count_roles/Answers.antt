-- `totals::count_roles` meets its contract: by the sets of the handsets in one row or more and in two or more, the roles are those by the rows.
use Rattle.totals.proofs.Words.{counted_rows}
use Rattle.totals.proofs.count_roles.Goals as goal

pub returns : goal.returns
returns c = counted_rows c.args.groups.rows.now c.args.cores.now _ _ _ c.find_members.ensures c.args.n _ _ c.add_words.ensures
