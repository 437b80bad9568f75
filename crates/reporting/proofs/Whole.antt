-- The text from the rows is the report's: each row lists a community, which lists no handset twice, so that its counts are the community's tally; and by the rows
-- and the set of cores, the roles are the network's.
--
--     rows_held          the rows that a call finds, of an accepted image
--     rows_counted       the counts of the rows are those that a text lists
--     text_held          the text from the tables as the report's functions leave them
use Rattle.std.specs.Prelude.{None, Option, Some}
use Prim.Native.Nat.{ℕ, zero, suc, ◌+◌, ◌≤◌, ◌<◌, min}
use native.Mathlib.Omega.{arith}
use mathlib.Core.Path.{◌≡◌, refl, sym, ap, ap₂, ◌∙◌, subst, subst₂}
use mathlib.Core.Bool.{Bool, ◌&&◌, cond}
use mathlib.Core.List.{List, [], ◌++◌}
use lib.ListN.{length, get_or}
use Rattle.sets.specs.Below.{select}
use Rattle.sets.proofs.Counting.{count_cong, count_at}
use Rattle.limits.specs.Limits.{limit_most}
use Rattle.image.specs.Image.{header_of, handset_count, edge_count, limit_of, handset_records, edge_records, end_a, end_b}
use Rattle.image.specs.Questions.{Accepted}
use Rattle.image.specs.declared.Header.{Header}
use Rattle.near.specs.Near.{ends_proximity}
use Rattle.image.proofs.Acceptance.{accepted_fits, edges_length}
use Rattle.image.proofs.Records.{edge_slice, handset_slice, edge_slice_is, handset_slice_is}
use Rattle.near.proofs.Edges.{ends_accepted}
use Rattle.community.specs.Network.{Network, is_core, communities, cores, contains, role}
use Rattle.community.specs.Scores.{pairs, every_edge, joined_pairs, just_one, leaving}
use Rattle.community.specs.Reach.{farthest, inside, reach}
use Rattle.community.specs.Site.{network}
use Rattle.community.proofs.Reach.{farthest_cong}
use Rattle.community.proofs.Multiplicities.{community_apart}
use Rattle.search.specs.Communities.{core_in}
use Rattle.rows.specs.Rows.{rows_of, row_in, counts_of}
use Rattle.rows.specs.declared.Counts.{Counts}
use Rattle.rows.proofs.Rows.{row_listed}
use Rattle.rows.proofs.Listing.{rows_length}
use Rattle.graph.specs.Graph.{RowsFound}
use Rattle.graph.specs.declared.SiteGroups.{SiteGroups}
use Rattle.graph.proofs.Laws.{site_read}
use Rattle.graph.proofs.Listing.{groups_most, grouped_rows}
use Rattle.scores.specs.Scored.{tally_of}
use Rattle.scores.proofs.Tallying.{joined_once}
use Rattle.text.specs.Text.{bytes, elements_of}
use Rattle.tallies.specs.Tallies.{edges_in, is_member, GroupsCounted, reach_entry, GroupsReach}
use Rattle.tallies.proofs.Reaching.{member_listed}
use Rattle.totals.specs.declared.Totals.{Totals}
use Rattle.totals.specs.Totals.{is_outlier, RolesCounted}
use Rattle.totals.proofs.Plan.{plan_totals, plan_outliers}
use Rattle.lines.specs.Lines.{head_line, list_line, totals_line, group_tally, reach_of, group_reach, table_lines, table_text}
use Rattle.reporting.specs.Report.{group_lines, outliers, head_of, report_with, report_text}
use Rattle.reporting.specs.ForProofs.{RowsCounted, RowsHeld}
use Rattle.reporting.proofs.Elements.{held_members}

-- what a call that finds the rows leaves of an accepted image
pub rows_held : {s rows ws : List ℕ} {r : SiteGroups} (h : Header) → Accepted s → h ≡ header_of s → RowsFound s (network s) r rows ws → RowsHeld s h rows r.groups ws
unfolding core_in
rows_held {s} h a e f =
    let found = site_read s a (network s) refl f.site in
    let small : (network s).n ≤ 512 = (accepted_fits s a).n_limit in
    record {
      accepted = a;
      header = e;
      few = groups_most small found.grouped;
      listed = grouped_rows small found.grouped;
      cores_are = found.core_set;
    }

pub rows_counted : (rows : List ℕ) (k : ℕ) (c : Counts) → c ≡ counts_of (rows_of rows (min k 512)) → RowsCounted rows c
rows_counted rows k c e =
    let all : c.groups ≡ min k 512 = ap (λ (x : Counts). x.groups) e ∙ rows_length rows (min k 512) in
    record { few = omega arith; listed = rw all (ap (λ (x : Counts). x.memberships) e) }

-- the lines from tables whose rows and tallies are those of the communities
lines_are : (s : List ℕ) (gs : List (List ℕ)) (rows ts rs : List ℕ) (k : ℕ)
    → ((j : ℕ) → j < k → row_in rows j ≡ get_or gs j []) → ((j : ℕ) → j < k → group_tally ts j (length (get_or gs j [])) ≡ tally_of s (get_or gs j []))
    → ((j : ℕ) → j < k → group_reach rs j ≡ reach s (get_or gs j [])) → table_lines rows ts rs k ≡ group_lines s gs k
unfolding table_lines group_lines
lines_are s gs rows ts rs zero p q r = refl
lines_are s gs rows ts rs (suc k) p q r =
    ap₂ (λ (a b : List ℕ). a ++ b)
    (lines_are s gs rows ts rs k (λ j h. p j (omega arith)) (λ j h. q j (omega arith)) (λ j h. r j (omega arith)))
    (rw (p k (omega arith), q k (omega arith), r k (omega arith)))

-- a table's number stands for the reach that it was made of
entry_back : (r : Option ℕ) → reach_of (reach_entry r) ≡ r
entry_back (Some d) = refl
entry_back None = refl

module _ {s : List ℕ} {h : Header} {rows : List ℕ} {k : ℕ} {core_set : List ℕ} (held : RowsHeld s h rows k core_set) where
  groups_are : length (communities (network s)) ≡ k
  groups_are = ap length (sym held.listed) ∙ rows_length rows k

  row_is : (j : ℕ) → j < k → row_in rows j ≡ get_or (communities (network s)) j []
  row_is j l = row_listed rows k (communities (network s)) j held.few held.listed l

  member_is : (j v : ℕ) → j < k → is_member rows k j v ≡ contains v (get_or (communities (network s)) j [])
  member_is j v l = member_listed rows k (communities (network s)) j v held.listed l

  -- every edge is counted
  all_edges : edges_in (edge_records s) ≡ edge_count s
  all_edges = omega (arith, edges_length s held.accepted.header, (accepted_fits s held.accepted).m_limit)

  -- the counts of a group are its community's tally
  tally_held : (ts : List ℕ) → GroupsCounted (edge_records s) rows k ts
      → (j : ℕ) → j < k → group_tally ts j (length (get_or (communities (network s)) j [])) ≡ tally_of s (get_or (communities (network s)) j [])
  unfolding group_tally tally_of leaving pairs
  tally_held ts c j l =
      let list : List ℕ = get_or (communities (network s)) j [] in
      let small : j < 512 = omega (arith, held.few) in
      let edges : List ℕ = edge_records s in
      let here : ℕ → Bool = is_member rows k j in
      let both : (f : Bool → Bool → Bool) (e : ℕ) → e < edge_count s → f (here (end_a edges e)) (here (end_b edges e)) ≡ f (contains (end_a edges e) list) (contains (end_b edges e) list) =
      λ f e q. ap₂ f (member_is j (end_a edges e) l) (member_is j (end_b edges e) l) in
      let t : get_or ts j 0 ≡ joined_pairs s every_edge list =
      c.joined j small ∙ count_at (edges_in edges) (edge_count s) _ all_edges
      ∙ count_cong (edge_count s) _ (λ e. contains (end_a edges e) list && contains (end_b edges e) list) (both ◌&&◌)
      ∙ sym (joined_once s held.accepted every_edge list (community_apart (network s) j (omega (arith, groups_are)))) in
      let o : get_or ts (512 + j) 0 ≡ leaving s every_edge list =
      c.leaving j small ∙ count_at (edges_in edges) (edge_count s) _ all_edges
      ∙ count_cong (edge_count s) _ (λ e. just_one (contains (end_a edges e) list) (contains (end_b edges e) list)) (both just_one) in
      λ i. record { pairs = pairs list; joined = t i; leaving = o i }

  -- and its reach is the community's
  reach_held : (rs : List ℕ) → GroupsReach (handset_records s) (edge_records s) (limit_of s) rows k rs
      → (j : ℕ) → j < k → group_reach rs j ≡ reach s (get_or (communities (network s)) j [])
  unfolding group_reach reach inside
  reach_held rs c j l =
      let list : List ℕ = get_or (communities (network s)) j [] in
      let edges : List ℕ = edge_records s in
      let hs : List ℕ = handset_records s in
      let here : ℕ → Bool = is_member rows k j in
      let limit : min (limit_of s) limit_most ≡ limit_of s = omega (arith, (accepted_fits s held.accepted).square_limit) in
      let share : ℕ → ℕ → (Option ℕ) = λ x e. cond (here (end_a edges e) && here (end_b edges e)) (ends_proximity hs (end_a edges e) (end_b edges e) x) None in
      ap reach_of (c.reaches j (omega (arith, held.few)))
      ∙ entry_back (farthest (edges_in edges) (share (min (limit_of s) limit_most)))
      ∙ ap₂ (λ (n x : ℕ). farthest n (share x)) all_edges limit
      ∙ farthest_cong (edge_count s) (share (limit_of s)) _
      (λ e q.
      let a : ℕ = end_a edges e in
      let b : ℕ = end_b edges e in
      ap₂ (λ (x y : Bool). cond (x && y) (ends_proximity hs a b (limit_of s)) None) (member_is j a l) (member_is j b l)
      ∙ ap (λ (p : Option ℕ). cond (contains a list && contains b list) p None) (ends_accepted s held.accepted e q))

  -- the text from tables that hold what the image has
  text_is : (c : Counts) (t : Totals) (ts rs outlier-set : List ℕ) → c ≡ counts_of (rows_of rows k) → GroupsCounted (edge_records s) rows k ts
      → GroupsReach (handset_records s) (edge_records s) (limit_of s) rows k rs → RolesCounted core_set rows k (handset_count s) t outlier-set
      → table_text (record { head = record { handsets = h.n; ties = h.m; counts = c }; totals = t }) rows ts rs core_set outlier-set ≡ report_text s
  unfolding table_text report_text report_with cores outliers
  text_is c t ts rs outlier-set counted e r o =
      let n : ℕ = handset_count s in
      let g : Network = network s in
      let few : n ≤ 512 = omega (arith, (accepted_fits s held.accepted).n_limit) in
      let listed : c ≡ counts_of (communities g) = counted ∙ ap counts_of held.listed in
      let head : record { handsets = h.n; ties = h.m; counts = c } ≡ head_of s (communities g) =
      λ i. record { handsets = (held.header i).n; ties = (held.header i).m; counts = listed i } in
      let groups : min c.groups 512 ≡ k = omega (arith, ap (λ (x : Counts). x.groups) listed, groups_are, held.few) in
      let core-list : elements_of core_set ≡ select n (is_core g) = held_members core_set n (is_core g) few held.cores_are.bits in
      let outlier-list : elements_of outlier-set ≡ select n (λ v. is_outlier (role g v)) =
      held_members outlier-set n (λ v. is_outlier (role g v)) few (plan_outliers g core_set rows k few held.listed held.cores_are o) in
      ap₂ (λ (a b : List ℕ). a ++ b)
      (ap head_line head)
      (ap₂ (λ (a b : List ℕ). a ++ b)
      (ap (table_lines rows ts rs) groups ∙ lines_are s (communities g) rows ts rs k row_is (tally_held ts e) (reach_held rs r) ∙ ap (group_lines s (communities g)) (sym groups_are))
      (ap₂ (λ (a b : List ℕ). a ++ b)
      (ap (list_line (bytes "cores:")) core-list)
      (ap₂ (λ (a b : List ℕ). a ++ b)
      (ap (list_line (bytes "outliers:")) outlier-list)
      (ap totals_line (plan_totals g core_set rows k few held.listed held.cores_are o)))))

  pub text_held : (c : Counts) (t : Totals) (ts rs outlier-set : List ℕ) → c ≡ counts_of (rows_of rows (min k 512))
      → GroupsCounted (edge_slice s h) rows k ts
      → GroupsReach (handset_slice s h) (edge_slice s h) h.limit rows k rs
      → RolesCounted core_set rows (min k 512) h.n t outlier-set
      → table_text (record { head = record { handsets = h.n; ties = h.m; counts = c }; totals = t }) rows ts rs core_set outlier-set ≡ report_text s
  text_held c t ts rs outlier-set counted e r o =
      let edges : edge_slice s h ≡ edge_records s = edge_slice_is s h held.header in
      let all : min k 512 ≡ k = omega (arith, held.few) in
      text_is c t ts rs outlier-set
      (counted ∙ ap (λ (x : ℕ). counts_of (rows_of rows x)) all)
      (subst (λ (records : List ℕ). GroupsCounted records rows k ts) edges e)
      (subst (λ (limit : ℕ). GroupsReach (handset_records s) (edge_records s) limit rows k rs) (ap (λ (x : Header). x.limit) held.header)
      (subst₂ (λ (hs es : List ℕ). GroupsReach hs es h.limit rows k rs) (handset_slice_is s h held.header) edges r))
      (subst₂ (λ (x : ℕ) (y : Header). RolesCounted core_set rows x y.n t outlier-set) all held.header o)
