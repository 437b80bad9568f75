use Rattle.std.proofs.Common.{rules, bit_and, ◌-◌, ◌∷◌, ◌≡◌, arith}
use lib.Count.{count_trailing_zeros}
use Rattle.sets.specs.Bits.{ones_of}
use Rattle.sets.proofs.Ascending.{ones_none, ones_next}
use Rattle.sets.proofs.SetBitsIterator.next.Goals as goal

pub returns-then-self-eq0-clause-steps : goal.returns-then-self-eq0-clause-steps
returns-then-self-eq0-clause-steps c = let e = ones_none c.args.self.now.word (omega arith) in (e, e)

pub returns-clause-steps : goal.returns-clause-steps
returns-clause-steps c = ones_next c.args.self.now.word (omega arith) (omega arith)

pub returns-clause-goes : goal.returns-clause-goes
returns-clause-goes c = let e : ones_of c.args.self.now.word ≡ count_trailing_zeros 64 c.args.self.now.word ∷ ones_of (bit_and c.args.self.now.word (c.args.self.now.word - 1)) = ones_next c.args.self.now.word (omega arith) (omega arith) in search (rules, e)
