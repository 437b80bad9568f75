-- `little_endian::read` meets its contract: a number at a place is the one at the front of what stands from there on.
use Rattle.std.proofs.Common.{arith, ap, ◌∙◌, ℕ, List, drop, ◌≡◌}
use Rattle.std.proofs.lemmas.Grind.{common_steps}
use Rattle.little_endian.specs.Bytes.{number}
use Rattle.little_endian.proofs.Bytes.{number_drop}
use Rattle.little_endian.proofs.read.Goals as goal

pub returns : goal.returns
returns g c =
    let rest : c.unwrap_or.result.now ≡ drop c.args.at c.args.s.now = grind (arith, common_steps) in
    c.read_first.ensures ∙ ap (λ (l : List ℕ). number g.T.LittleEndian.width l 0) rest ∙ number_drop g.T.LittleEndian.width c.args.s.now c.args.at
