-- Two accepted images with the same parameters and records have the same outcome, whatever is asked of them: their networks, tallies and texts are the
-- same, and each call's answer is made of these.
--
--     network_is, tally_is, reach_is, text_is     the network, the tally and the reach of a list, and the report's text
--     same_outcome                                so every call has the same outcome (specs/RoundTrips)
use Rattle.std.specs.Prelude.{Err, None, Ok, Option, Some}
use Prim.Native.Nat.{ℕ, zero, suc}
use mathlib.Core.Path.{◌≡◌, refl, sym, ap, ap₂, ◌∙◌}
use mathlib.Core.Bool.{◌&&◌, cond}
use mathlib.Core.List.{List, [], ◌++◌, map}
use lib.Dec.{ltb, eqb}
use lib.IntN.{ℤ}
use lib.ListN.{length, get_or}
use Rattle.sets.specs.Below.{any, count}
use Rattle.fields.specs.Fields.{core_size}
use Rattle.image.specs.Image.{header_of, handset_record, end_a, end_b, joins, adjacent, mu}
use Rattle.image.specs.Signed.{raised}
use Rattle.image.specs.Answers.{Answer, refusal, Injective}
use Rattle.image.specs.Questions.{when_opened, Accepted}
use Rattle.image.specs.declared.Header.{Header}
use Rattle.image.specs.declared.Refusal.{Refusal}
use Rattle.near.specs.Near.{proximity_of, proximity, is_near, neighbour}
use Rattle.image.proofs.Acceptance.{when_accepted}
use Rattle.community.specs.Network.{Network, neighbourhood_size, cores, communities, contains, role}
use Rattle.community.specs.Scores.{count_pairs, pairs, every_edge, joined_by, joined_pairs, just_one, leaving}
use Rattle.community.specs.Reach.{farthest, inside, reach}
use Rattle.community.specs.Site.{network, communities_of}
use Rattle.community.specs.Tables.{start_table, member_table}
use Rattle.rows.specs.Rows.{counts_of}
use Rattle.tables.specs.Plan.{planned, table_after}
use Rattle.tables.proofs.Answers.{plan_same}
use Rattle.planner.specs.Plan.{plan_of, starts_after, members_after, standing, known_of}
use Rattle.planner.proofs.Answers.{known_same}
use Rattle.scores.specs.Scored.{tally_of, scores_for, ask_entries, tallied_of, scored_for, scored_of}
use Rattle.scores.specs.declared.Tally.{Tally}
use Rattle.scores.proofs.Answers.{tally_same, scored_same}
use Rattle.totals.specs.Totals.{totals}
use Rattle.points.specs.Points.{point_in_limits, distance_from, distance_to}
use Rattle.nearest.specs.Nearest.{nearest_in, nearest_of}
use Rattle.nearest.proofs.Answers.{nearest_same}
use Rattle.text.specs.Text.{bytes}
use Rattle.lines.specs.Lines.{head_line, list_line, totals_line, group_line}
use Rattle.reporting.specs.Report.{group_lines, outliers, report_with, report_text, written_of, written_in, report_of, text_after}
use Rattle.reporting.proofs.Answers.{report_same}
use Rattle.layout.specs.declared.Parameters.{Parameters}
use Rattle.writer.specs.Holds.{parameters_of}
use Rattle.roundtrips.specs.RoundTrips.{SameOutcome}
use Rattle.roundtrips.proofs.Openings.{SameRecords}

-- ---- what the calls go by

-- the text of a report by its image's parameters, its network and the lines of its groups
abbrev text_by : Parameters → Network → List ℕ → List ℕ
text_by x g lines =
    head_line (record {
      handsets = x.n;
      ties = x.m;
      counts = counts_of (communities g);
    })
    ++ (lines ++ (list_line (bytes "cores:") (cores g) ++ (list_line (bytes "outliers:") (outliers g) ++ totals_line (totals g))))

module _ (s t : List ℕ) (same : SameRecords s t) where
  proximity_is : (u v : ℕ) → proximity s u v ≡ proximity t u v
  unfolding proximity adjacent
  proximity_is u v = λ i.
      cond (eqb u v) (Some 0)
      (cond (any (same.parameters i).m (joins (same.edges i) u v))
      (proximity_of (handset_record (same.handsets i) u) (handset_record (same.handsets i) v) (same.parameters i).limit) None)

  network_is : network s ≡ network t
  unfolding neighbour mu
  network_is = λ i. record {
    n = (same.parameters i).n;
    neighbour = λ u v. is_near (proximity_is u v i);
    p = (same.parameters i).p;
    q = (same.parameters i).q;
    mu = core_size (same.parameters i).mu;
  }

  tally_is : (l : List ℕ) → tally_of s l ≡ tally_of t l
  unfolding tally_of joined_pairs joined_by leaving
  tally_is l = λ i. record {
    pairs = pairs l;
    joined = count_pairs (length l) (λ a b. any (same.parameters i).m (λ k. every_edge k && joins (same.edges i) (get_or l a 0) (get_or l b 0) k));
    leaving = count (same.parameters i).m
        (λ k. every_edge k && just_one (contains (end_a (same.edges i) k) l) (contains (end_b (same.edges i) k) l));
  }

  reach_is : (l : List ℕ) → reach s l ≡ reach t l
  unfolding reach inside
  reach_is l = λ i.
      farthest (same.parameters i).m
      (λ k. cond (contains (end_a (same.edges i) k) l && contains (end_b (same.edges i) k) l) (proximity_is (end_a (same.edges i) k) (end_b (same.edges i) k) i) None)

  lines_are : (gs : List (List ℕ)) (k : ℕ) → group_lines s gs k ≡ group_lines t gs k
  unfolding group_lines
  lines_are gs zero = refl
  lines_are gs (suc k) =
      ap₂ (λ (lines line : List ℕ). lines ++ line) (lines_are gs k)
      (ap₂ (λ (c : Tally) (r : Option ℕ). group_line k (scores_for c) r (get_or gs k [])) (tally_is (get_or gs k [])) (reach_is (get_or gs k [])))

  text_is : report_text s ≡ report_text t
  unfolding report_text report_with
  text_is =
      ap (text_by (parameters_of (header_of s)) (network s)) (lines_are (communities (network s)) (length (communities (network s))))
      ∙ (λ i. text_by (same.parameters i) (network_is i) (group_lines t (communities (network_is i)) (length (communities (network_is i)))))

-- ---- the calls

-- an answer that has the number, place and values of one definition, and one that has those of another
one_answer : {A : Type 0} (f : A → Answer) → Injective f → (x y : A) → x ≡ y → (a b : A) → f a ≡ f x → f b ≡ f y → a ≡ b
one_answer f same x y e a b p q = same a b (p ∙ ap f e ∙ sym q)

module _ (s t : List ℕ) (same : SameRecords s t) (ok : Accepted s) (fine : Accepted t) where
  -- what a call says of both, where it says the same of their headers
  by_header : {A : Type 0} (f h : Header → A) (g : Refusal → A) → f (header_of s) ≡ h (header_of t) → when_opened s f g ≡ when_opened t h g
  by_header f h g e = when_accepted s f g ok ∙ e ∙ sym (when_accepted t h g fine)

  plan_is : (a b : ℕ) → plan_of s a b ≡ plan_of t a b
  unfolding plan_of communities_of
  plan_is a b = by_header _ _ _ (ap (λ (g : Network). planned (communities g) a b) (network_is s t same))

  starts_are : (l : List ℕ) (b : ℕ) → starts_after s l b ≡ starts_after t l b
  unfolding starts_after communities_of
  starts_are l b = by_header _ _ _ (ap (λ (g : Network). table_after (communities g) (length l) b (start_table (communities g)) l) (network_is s t same))

  members_are : (a : ℕ) (l : List ℕ) → members_after s a l ≡ members_after t a l
  unfolding members_after communities_of
  members_are a l = by_header _ _ _ (ap (λ (g : Network). table_after (communities g) a (length l) (member_table (communities g)) l) (network_is s t same))

  known_is : (v : ℕ) → known_of s v ≡ known_of t v
  unfolding known_of standing
  known_is v =
      by_header _ _ _
      (ap (λ (g : Network). cond (ltb v g.n) (Ok (record { neighbours = neighbourhood_size g v; role = role g v })) (Err (refusal 13)))
      (network_is s t same))

  tallied_is : (l : List ℕ) → tallied_of s l ≡ tallied_of t l
  unfolding tallied_of
  tallied_is l = by_header _ _ _ (λ i. ask_entries (same.parameters i).n l (tally_is s t same l i))

  scored_is : (l : List ℕ) → scored_of s l ≡ scored_of t l
  unfolding scored_of
  scored_is l = ap scored_for (tallied_is l)

  report_is : (room : ℕ) → report_of s room ≡ report_of t room
  unfolding report_of
  report_is room = by_header _ _ _ (ap (λ (x : List ℕ). written_of x room) (text_is s t same))

  after_is : (l : List ℕ) → text_after s l ≡ text_after t l
  unfolding text_after
  after_is l = by_header _ _ _ (ap (λ (x : List ℕ). written_in x l) (text_is s t same))

  nearest_is : (p : List ℤ) → nearest_of s p ≡ nearest_of t p
  unfolding nearest_of distance_to communities_of
  nearest_is p =
      let far : List ℕ → ℕ → ℕ = λ records v. distance_from (map raised p) (handset_record records v) in
      by_header _ _ _
      (λ i. cond (point_in_limits p) (nearest_in (far (same.handsets i)) (communities (network_is s t same i))) (Err (refusal 17)))

  pub same_outcome : SameOutcome s t
  same_outcome = record {
    parameters = same.parameters;
    plan = λ ss ms a b ss' ms' ss'' ms'' c d. (
      one_answer _ plan_same _ _ (plan_is (length ss) (length ms)) a b c.answer d.answer,
      c.starts ∙ starts_are ss (length ms) ∙ sym d.starts,
      c.members ∙ members_are (length ss) ms ∙ sym d.members,
    );
    role = λ v. one_answer _ known_same _ _ (known_is v);
    tally = λ l. one_answer _ tally_same _ _ (tallied_is l);
    scores = λ l. one_answer _ scored_same _ _ (scored_is l);
    nearest = λ p. one_answer _ nearest_same _ _ (nearest_is p);
    report = λ l a b l' l'' c d. (
      one_answer _ report_same _ _ (report_is (length l)) a b c.answer d.answer,
      c.text ∙ after_is l ∙ sym d.text,
    );
  }
