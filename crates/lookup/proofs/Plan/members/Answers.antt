-- `lookup::Plan::members` meets its contract: the part is the one in the span that it found.
use Rattle.lookup.proofs.Agreement.{members_span}
use Rattle.lookup.proofs.Plan.members.Goals as goal

pub returns-in-Some : goal.returns-in-Some
returns-in-Some c = rw (members_span c.args.self.starts.now c.args.self.members.now c.args.k, ← c.find_span.ensures.found, c.in-Some.is)

pub returns-in-None : goal.returns-in-None
returns-in-None c = rw (members_span c.args.self.starts.now c.args.self.members.now c.args.k, ← c.find_span.ensures.found, c.in-None.is)
