-- `fields::read_ends` meets its contract: each end is the number that `read` gives.
use Rattle.fields.specs.Fields.{ends_of}
use Rattle.fields.proofs.read_ends.Goals as goal

pub returns : goal.returns
unfolding ends_of
returns c = λ i. record { a = c.read.ensures i; b = c.read-2.ensures i }
