-- `tables::write_plan` meets its contract: the memberships are counted first, the tables are written where they fit, and the answer is that of the questions
-- for the two counts.
use Prim.Native.Nat.{ℕ, min}
use native.Mathlib.Omega.{arith}
use mathlib.Core.Path.{◌≡◌, sym, ap, ◌∙◌, subst}
use mathlib.Core.List.{List}
use lib.ListN.{length}
use Rattle.community.specs.Tables.{member_table}
use Rattle.rows.specs.Rows.{rows_of, counts_of}
use Rattle.rows.specs.declared.Counts.{Counts}
use Rattle.rows.proofs.Listing.{rows_length}
use Rattle.tables.specs.Plan.{ask_room, plan_answer, PlanWritten}
use Rattle.tables.proofs.write_plan.Goals as goal

-- the counts of the first n rows
counted : (rows : List ℕ) (n : ℕ) (c : Counts) → c ≡ counts_of (rows_of rows n)
    → (c.groups ≡ n) × (c.memberships ≡ length (member_table (rows_of rows c.groups)))
counted rows n c e =
    let g : c.groups ≡ n = ap (λ (x : Counts). x.groups) e ∙ rows_length rows n in
    (g, ap (λ (x : Counts). x.memberships) e ∙ ap (λ (k : ℕ). length (member_table (rows_of rows k))) (sym g))

pub write_where_it_fits-requires : goal.write_where_it_fits-requires
write_where_it_fits-requires c =
    let n = counted c.args.groups.rows.now (min c.args.groups.count 512) c.counts-counts.result c.counts-counts.ensures in
    (omega (arith, n.0), n.1)

pub returns : goal.returns
returns c =
    let n = counted c.args.groups.rows.now (min c.args.groups.count 512) c.counts-counts.result c.counts-counts.ensures in
    let gs : List (List ℕ) = rows_of c.args.groups.rows.now c.counts-counts.result.groups in
    let g : c.counts-counts.result.groups ≡ length gs = sym (rows_length c.args.groups.rows.now c.counts-counts.result.groups) in
    let room : c.ask_room.result ≡ ask_room (length gs) (length (member_table gs)) (length c.args.starts.now) (length c.args.members.now) =
    c.ask_room.ensures ∙ (λ i. ask_room (g i) (n.1 i) (c.write_where_it_fits.auto.starts i) (c.write_where_it_fits.auto.members i)) in
    subst (λ (k : ℕ). PlanWritten (rows_of c.args.groups.rows.now k) c.args.starts.now c.args.members.now c.ask_room.result c.write_where_it_fits.new.starts c.write_where_it_fits.new.members)
    n.0
    (record { answer = ap plan_answer room; starts = c.write_where_it_fits.ensures.started; members = c.write_where_it_fits.ensures.written })
