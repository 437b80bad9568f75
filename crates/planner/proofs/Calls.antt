-- How the calls' answers follow from what was found of a site: a refused image ends the call with its refusal, and of an accepted one the rows that were
-- found are its communities, so the counts, the tables and the roles are those of the definitions.
--
--     told_yes, told_no                             what is known of an accepted and of a refused image
--     plan_refused, known_refused                   the outcome of the calls for a refused image
--     handsets_most_lem                                 an accepted image has at most 512 handsets
--     plan_found                                    the outcome of a plan, from the communities found
--     plan_made, starts_made, members_made          the answer and the tables of a plan for which both tables have room
--     known_past, known_handset                     the role call's answer, for a number past the handsets and for a handset
--     role_found, known_found                       the role and the answer for a handset, from the communities found
use Rattle.std.specs.Prelude.{Err, Ok, Result}
use Prim.Native.Nat.{ℕ, ◌+◌, ◌≤◌, ◌<◌, min}
use native.Mathlib.Omega.{arith}
use mathlib.Core.Path.{◌≡◌, refl, sym, ap, ap₂, ◌∙◌, subst}
use mathlib.Core.Bool.{Bool, true, false, ◌&&◌, cond}
use mathlib.Core.List.{List, ◌∷◌}
use lib.Dec.{ltb, eqb}
use lib.ListN.{length}
use borrow.Author.Tests.{lt-ltb, le-ltb, le-leb}
use Rattle.sets.specs.Below.{bit}
use Rattle.sets.specs.Bits.{bit_at}
use Rattle.sets.specs.Rows.{SetOf}
use Rattle.sets.proofs.Counting.{bit_test}
use Rattle.image.specs.Image.{handset_count}
use Rattle.image.specs.Answers.{refusal, given}
use Rattle.image.specs.Questions.{Accepted, open_of, refusal_of}
use Rattle.image.specs.declared.Header.{Header}
use Rattle.image.specs.declared.Refusal.{Refusal}
use Rattle.image.proofs.Acceptance.{accepted, accepted_fits, when_accepted, when_refused}
use Rattle.community.specs.Network.{Network, is_core, role, neighbourhood_size, role_among, role_values}
use Rattle.community.specs.Tables.{start_table, member_table}
use Rattle.community.specs.Site.{network, communities_of}
use Rattle.community.specs.declared.Standing.{Standing}
use Rattle.search.specs.Communities.{core_in}
use Rattle.rows.specs.Rows.{rows_of}
use Rattle.tables.specs.Plan.{by_room, made, plan_answer, over, role_for, PlanWritten}
use Rattle.graph.specs.Graph.{SiteFound}
use Rattle.graph.specs.declared.SiteGroups.{SiteGroups}
use Rattle.graph.proofs.Laws.{site_read, site_rows}
use Rattle.rows.specs.declared.Counts.{Counts}
use Rattle.planner.specs.Plan.{PlanCall, plan_of, starts_after, members_after, known_of, known_answer, standing}

-- ---- what is told of an image
pub told_no : {s : List ℕ} {g : Network} {a : SiteGroups} {near rows sizes cores : List ℕ} → SiteFound s g a near rows sizes cores
    → (x y : Refusal) → a.opened ≡ Err x → y ≡ refusal_of a.opened → open_of s ≡ Err y
told_no r x y e f = sym r.answered ∙ e ∙ ap Err (sym (f ∙ ap refusal_of e))

pub told_yes : {s : List ℕ} {g : Network} {a : SiteGroups} {near rows sizes cores : List ℕ} → SiteFound s g a near rows sizes cores
    → (h : Header) → a.opened ≡ Ok h → Accepted s × (h.n ≡ handset_count s)
told_yes {s} r h e = let k = accepted s h (sym r.answered ∙ e) in (k.0, ap (λ (x : Header). x.n) k.1)

-- ---- a refused image
module _ (s : List ℕ) (r : Refusal) (e : open_of s ≡ Err r) where
  pub plan_refused : (ss ms : List ℕ) → PlanCall s ss ms (Err r) ss ms
  unfolding plan_of starts_after members_after
  plan_refused ss ms = record {
    answer = ap plan_answer (sym (when_refused s _ _ r e));
    starts = sym (when_refused s _ _ r e);
    members = sym (when_refused s _ _ r e);
  }

  pub known_refused : (v : ℕ) → Err r ≡ known_of s v
  unfolding known_of
  known_refused v = sym (when_refused s _ _ r e)

-- ---- an accepted image
module _ (s : List ℕ) (ok : Accepted s) where
  pub handsets_most_lem : (network s).n ≤ 512
  handsets_most_lem = (accepted_fits s ok).n_limit

  pub plan_found : {r : SiteGroups} {near rows sizes cores : List ℕ} → SiteFound s (network s) r near rows sizes cores → (ss ms : List ℕ) (a : Result Counts Refusal) (ss' ms' : List ℕ)
      → PlanWritten (rows_of rows (min r.groups 512)) ss ms a ss' ms' → PlanCall s ss ms a ss' ms'
  unfolding plan_of starts_after members_after communities_of
  plan_found f ss ms a ss' ms' w =
      let w' = subst (λ (gs : List (List ℕ)). PlanWritten gs ss ms a ss' ms') (site_rows s ok (network s) refl f) w in
      record {
        answer = w'.answer ∙ ap plan_answer (sym (when_accepted s _ _ ok));
        starts = w'.starts ∙ sym (when_accepted s _ _ ok);
        members = w'.members ∙ sym (when_accepted s _ _ ok);
      }

  -- the role call's answer, by the test of the number
  known_is : (v : ℕ) (b : Bool) → ltb v (handset_count s) ≡ b → known_of s v ≡ cond b (Ok (standing s v)) (Err (refusal 13))
  unfolding known_of
  known_is v b e = when_accepted s _ _ ok ∙ ap (λ (x : Bool). cond x (Ok (standing s v)) (Err (refusal 13))) e

  pub known_handset : (v : ℕ) → v < handset_count s → known_of s v ≡ Ok (standing s v)
  known_handset v h = known_is v true (lt-ltb v (handset_count s) h)

  pub known_past : (v : ℕ) → handset_count s ≤ v → Err (refusal 13) ≡ known_of s v
  known_past v h = sym (known_is v false (le-ltb v (handset_count s) h))

  -- the bit of a handset in the set of cores says whether it is one
  core_bit : {ws : List ℕ} → SetOf ws (core_in (network s)) → (v : ℕ) → v < handset_count s → eqb (bit_at ws v) 1 ≡ is_core (network s) v
  unfolding core_in
  core_bit {ws} c v h =
      ap (λ (b : ℕ). eqb b 1) (c.bits v (omega (arith, handsets_most_lem)))
      ∙ ap (λ (b : Bool). eqb (bit (b && is_core (network s) v)) 1) (lt-ltb v (handset_count s) h)
      ∙ bit_test (is_core (network s) v)

  pub role_found : {r : SiteGroups} {near rows sizes cores : List ℕ} → SiteFound s (network s) r near rows sizes cores → (v : ℕ) → v < handset_count s
      → role_for cores rows (min r.groups 512) v ≡ role (network s) v
  unfolding role_for role
  role_found f v h =
      ap₂ (λ (b : Bool) (gs : List (List ℕ)). role_among gs b v) (core_bit (site_read s ok (network s) refl f).core_set v h) (site_rows s ok (network s) refl f)

  pub known_found : (v : ℕ) → v < handset_count s → (x : Standing) → x.neighbours ≡ neighbourhood_size (network s) v
      → role_values x.role ≡ role_values (role (network s) v) → known_answer (Ok x) ≡ known_answer (known_of s v)
  unfolding standing
  known_found v h x p q = ap₂ (λ (n : ℕ) (vs : List ℕ). given (n ∷ vs)) p q ∙ ap known_answer (sym (known_handset v h))

-- ---- an accepted image and tables long enough
module _ (s ss ms : List ℕ) (ok : Accepted s)
    (room : (length (communities_of s) + 1 ≤ length ss) × (length (member_table (communities_of s)) ≤ length ms)) where
  in_room : {X : Type 0} (x y z : X) → by_room (length (communities_of s)) (length (member_table (communities_of s))) (length ss) (length ms) x y z ≡ z
  in_room x y z = simp (lt-ltb (length (communities_of s)) (length ss) (omega (arith, room.0)), le-leb _ _ room.1)

  pub plan_made : plan_of s (length ss) (length ms) ≡ made (length (communities_of s)) (length (member_table (communities_of s)))
  unfolding plan_of
  plan_made = when_accepted s _ _ ok ∙ in_room _ _ _

  pub starts_made : starts_after s ss (length ms) ≡ over (start_table (communities_of s)) ss
  unfolding starts_after
  starts_made = when_accepted s _ _ ok ∙ in_room _ _ _

  pub members_made : members_after s (length ss) ms ≡ over (member_table (communities_of s)) ms
  unfolding members_after
  members_made = when_accepted s _ _ ok ∙ in_room _ _ _
