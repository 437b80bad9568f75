-- `near::ends_at` meets its contract: what stands from the edge's record on begins with those of its ends that are there.
use Rattle.std.proofs.Common.{◌≡◌, ◌*◌, ◌-◌, ◌^◌, drop, ap, ◌∙◌, arith}
use Rattle.std.proofs.lemmas.Grind.{common_steps}
use Rattle.fields.specs.Fields.{edge_bytes, ends_of}
use Rattle.near.proofs.Edges.{drop_capped, ends_rest}
use Rattle.near.proofs.ends_at.Goals as goal

pub returns : goal.returns
returns c =
    let rest : c.unwrap_or.result.now ≡ drop c.saturating_mul-at.result c.args.edges.now = grind (arith, common_steps) in
    c.read_ends.ensures
    ∙ ap ends_of (rest ∙ drop_capped c.args.edges.now (edge_bytes * c.args.k) (2 ^ 64 - 1) c.saturating_mul-at.result (omega arith) (omega (arith, c.saturating_mul-at.ensures)))
    ∙ ends_rest c.args.edges.now c.args.k
