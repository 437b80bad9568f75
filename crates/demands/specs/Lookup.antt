-- The lookup on the tables that a plan wrote, of the three calls through their contracts. Proved in proofs/Lookup as `lookup_of_plan`.
--
--     LookupOfPlan    the theorem: for each k below the count of groups, the part that `lookup::Plan::members` gives back is exactly the k-th community,
--                     and the companion refuses nothing and answers its size
use Rattle.std.specs.Prelude.{ℕ, ◌<◌, ◌≡◌, List, [], length, get_or, Ok, Result}
use Rattle.image.specs.Questions.{Accepted}
use Rattle.community.specs.Site.{communities_of}
use Rattle.planner.specs.Plan.{PlanCall}
use Rattle.tables.specs.Plan.{made}
use Rattle.lookup.specs.Lookup.{members_of, looked_of}
use Rattle.image.specs.declared.Refusal.{Refusal}
use Rattle.lookup.specs.Answers.{look_answer}

pub record LookupOfPlan : Type 0 where
  pub members : (s ss ms ss' ms' : List ℕ) (g c k : ℕ) → Accepted s → PlanCall s ss ms (made g c) ss' ms' → k < g
      → members_of ss' ms' k ≡ get_or (communities_of s) k []
  pub found : (s ss ms ss' ms' : List ℕ) (g c k : ℕ) → Accepted s → PlanCall s ss ms (made g c) ss' ms' → k < g
      → (a : Result ℕ Refusal) → look_answer a ≡ look_answer (looked_of ss' ms' k) → a ≡ Ok (length (get_or (communities_of s) k []))
