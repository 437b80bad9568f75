-- The lookup on a plan's tables. They begin with the plan's, so start k and start k + 1 are in order and within the member table, question 14 gets a
-- yes, and the part between them is the k-th community.
--
--     table_part        the part of two tables that begin with the plan's
--     lookup_of_plan    the theorem of specs/Lookup
use Rattle.std.specs.Prelude.{Ok}
use Prim.Native.Nat.{ℕ, ◌+◌, ◌<◌}
use native.Mathlib.Omega.{arith}
use mathlib.Core.Path.{◌≡◌, ap, ap₂, ◌∙◌}
use mathlib.Core.Bool.{true}
use mathlib.Core.List.{List, [], ◌++◌}
use lib.ListN.{length, get_or, length-append}
use Rattle.image.specs.Questions.{Accepted}
use Rattle.community.specs.Tables.{start_table, member_table}
use Rattle.community.proofs.Tables.{table_community, starts_ordered, starts_within, length_start_table}
use Rattle.tables.specs.Plan.{made, over}
use Rattle.community.specs.Site.{communities_of}
use Rattle.planner.specs.Plan.{PlanCall}
use Rattle.planner.proofs.Calls.{starts_made, members_made}
use Rattle.lookup.specs.Lookup.{placed, members_of, looked_of}
use Rattle.lookup.proofs.Answers.{looked_same}
use Rattle.lookup.proofs.Agreement.{placed_yes, looked_yes, members_slice}
use Rattle.demands.specs.Lookup.{LookupOfPlan}
use Rattle.demands.proofs.Demand3.{room_of}

-- of two tables that begin with the plan's
module _ (gs : List (List ℕ)) (x y : List ℕ) (k : ℕ) (h : k < length gs) where
  long : k + 1 < length (start_table gs ++ x)
  long = omega (arith, length-append (start_table gs) x, length_start_table gs)

  yes : placed (start_table gs ++ x) (length (member_table gs ++ y)) k ≡ true
  yes =
      placed_yes (start_table gs ++ x) (length (member_table gs ++ y)) k long (starts_ordered gs x y k h) (starts_within gs x y k h)

  pub table_part : members_of (start_table gs ++ x) (member_table gs ++ y) k ≡ get_or gs k []
  table_part = members_slice (start_table gs ++ x) (member_table gs ++ y) k long (starts_ordered gs x y k h) (starts_within gs x y k h) ∙ table_community gs x y k h

module _ (s ss ms ss' ms' : List ℕ) (g c k : ℕ) (ok : Accepted s) (call : PlanCall s ss ms (made g c) ss' ms') (h : k < g) where
  in_plan_lem : k < length (communities_of s)
  in_plan_lem = omega (arith, (room_of s ss ms ss' ms' g c ok call).1)

  starts_are : ss' ≡ over (start_table (communities_of s)) ss
  starts_are = call.starts ∙ starts_made s ss ms ok (room_of s ss ms ss' ms' g c ok call).0

  members_are : ms' ≡ over (member_table (communities_of s)) ms
  members_are = call.members ∙ members_made s ss ms ok (room_of s ss ms ss' ms' g c ok call).0

  group_found : members_of ss' ms' k ≡ get_or (communities_of s) k []
  group_found = ap₂ (λ (a b : List ℕ). members_of a b k) starts_are members_are ∙ table_part (communities_of s) _ _ k in_plan_lem

  none_refused : looked_of ss' ms' k ≡ Ok (length (get_or (communities_of s) k []))
  none_refused =
      ap₂ (λ (a b : List ℕ). looked_of a b k) starts_are members_are
      ∙ looked_yes (over (start_table (communities_of s)) ss) (over (member_table (communities_of s)) ms) k (yes (communities_of s) _ _ k in_plan_lem)
      ∙ ap (λ (l : List ℕ). Ok (length l)) (table_part (communities_of s) _ _ k in_plan_lem)

pub lookup_of_plan : LookupOfPlan
lookup_of_plan = record { members = group_found; found = λ s ss ms ss' ms' g c k ok call h a e. looked_same _ _ e ∙ none_refused s ss ms ss' ms' g c k ok call h }
