-- `tables::write_where_it_fits` meets its contract: its two tests are those of the questions, and where both pass the tables are written.
use Prim.Native.Nat.{ℕ}
use mathlib.Core.Path.{ap, ◌≡◌, sym, ap₂, ◌∙◌}
use mathlib.Core.Bool.{Bool, true, cond, not}
use mathlib.Core.List.{List}
use lib.Dec.{ltb, leb}
use lib.ListN.{length}
use Rattle.community.specs.Tables.{member_table}
use Rattle.rows.specs.Rows.{rows_of}
use Rattle.rows.proofs.Listing.{rows_length}
use Rattle.tables.specs.Plan.{by_room}
use Rattle.tables.proofs.Listing.{room_no, room_yes}
use Rattle.tables.proofs.write_where_it_fits.Goals as goal

-- of the rows, the code's two tests are those of the questions
tests : {X : Type 0} (rows : List ℕ) (groups memberships a b : ℕ) → memberships ≡ length (member_table (rows_of rows groups)) → (l new : X)
    → by_room (length (rows_of rows groups)) (length (member_table (rows_of rows groups))) a b l l new ≡ cond (ltb groups a) (cond (leb memberships b) new l) l
tests rows groups memberships a b h l new = ap₂ (λ (g m : ℕ). by_room g m a b l l new) (rows_length rows groups) (sym h)

pub returns-then-not-fits : goal.returns-then-not-fits
returns-then-not-fits c =
    let few : Bool = ltb c.args.groups.count (length c.args.starts.now) in
    let short : Bool = leb c.args.memberships (length c.args.members.now) in
    record {
      started = sym (tests _ _ _ _ _ c.requires.1 _ _ ∙ room_no _ _ few short (ap not c.if-not-fits.true));
      written = sym (tests _ _ _ _ _ c.requires.1 _ _ ∙ room_no _ _ few short (ap not c.if-not-fits.true));
    }

pub returns : goal.returns
returns c =
    let few : Bool = ltb c.args.groups.count (length c.args.starts.now) in
    let short : Bool = leb c.args.memberships (length c.args.members.now) in
    let b : (few ≡ true) × (short ≡ true) = room_yes few short (ap not c.if-not-fits.false) in
    record {
      started = c.write_tables.ensures.started ∙ sym (tests _ _ _ _ _ c.requires.1 _ _ ∙ rw (b.0, b.1));
      written = c.write_tables.ensures.written ∙ sym (tests _ _ _ _ _ c.requires.1 _ _ ∙ rw (b.0, b.1));
    }
