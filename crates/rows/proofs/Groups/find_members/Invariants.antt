-- `rows::Groups::find_members` meets its contract. The invariant: the sets have the handsets in one or more, and in two or more, of the rows passed.
use Rattle.rows.specs.Rows.{rows_of, MembersFound}
use Rattle.rows.proofs.Groups.find_members.Given as goal

abbrev pub invariant-loop-k : goal.invariant-loop-k
invariant-loop-k l = MembersFound (rows_of l.self.rows.now l.k) l.once l.twice
