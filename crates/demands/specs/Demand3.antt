-- Demand 3 of the user, of the calls `plan` and `role`, through their contracts: `PlanCall` is what `plan` ensures of its answer and of both lent
-- tables, and `role` ensures that its answer has the number, place and values of `known_of`. The definitions of a community and of a renumbered image are
-- those of crates/community. Proved in proofs/Demand3 as `demand3`.
--
-- "The plan of every accepted image, lent tables long enough for it, lists each community exactly once. A set of handsets is listed exactly when it
-- has a core in it, each two members, or one taken twice, can both be reached from some one handset, and whoever is reached from a member is a
-- member. Each core is in one group only. For every renumbering of the handsets, in whatever order the ties and each tie's two ends then stand, the
-- second image is accepted too. Its plan, given tables at least as long as those that served the first, isn't refused and, numbered back, lists
-- exactly the same sets. The role call says of each handset what it said before: core, border in the same count of groups, or outlier."
--
--     group ss ms k           group k of the two tables: the members from start k up to start k + 1
--     ListedAs ss ms g P k    the set P is listed as group k of the first g groups of the tables
--     Listed ss ms g P        P is listed as one of them
--     Plan s ss ms g c        what a plan of g groups and c memberships of the image s, in the tables ss and ms, says
--     SameStanding a b        a role call on the first image and one on the second say the same of a handset
--     Again s t r ..          what holds of a second image t, renumbered, and the plan of g groups and c memberships of s in the tables ss and ms
--     LongEnough s ss ms      tables ss and ms that are long enough for the image's plan
--     Demand3                 the theorem: the plan call on an accepted image with tables long enough is not refused, and what it writes is the plan;
--                             and for every renumbering, again
use Rattle.std.specs.Prelude.{ℕ, ◌+◌, ◌*◌, ◌≤◌, ◌<◌, ◌≡◌, ◌↔◌, T, length, get_or, Ok, Result}
use mathlib.Core.List.{List, Memᴰ}
use Rattle.std.proofs.Math.Seq.{slice}
use Rattle.image.specs.Image.{header_of, handset_count, edge_count}
use Rattle.image.specs.Questions.{Accepted, open_of}
use Rattle.community.specs.Network.{is_core, IsCommunity}
use Rattle.community.specs.Tables.{member_table}
use Rattle.community.specs.Site.{network, communities_of}
use Rattle.community.specs.Renumbered.{Renumbered, NumberedBack, SameRole}
use Rattle.community.specs.declared.Standing.{Standing}
use Rattle.planner.specs.Plan.{PlanCall, known_of, known_answer}
use Rattle.rows.specs.declared.Counts.{Counts}
use Rattle.image.specs.declared.Refusal.{Refusal}
use Rattle.tables.specs.Plan.{made}

abbrev pub group : List ℕ → List ℕ → ℕ → List ℕ
group ss ms k = slice (get_or ss k 0) (get_or ss (k + 1) 0) ms

pub record ListedAs (ss ms : List ℕ) (g : ℕ) (P : ℕ → Type 0) (k : ℕ) : Type 0 where
  pub place : k < g
  pub same : (v : ℕ) → P v ↔ Memᴰ v (group ss ms k)

abbrev pub Listed : List ℕ → List ℕ → ℕ → (ℕ → Type 0) → Type 0
Listed ss ms g P = (k : ℕ) × ListedAs ss ms g P k

pub record Plan (s ss ms : List ℕ) (g c : ℕ) : Type 1 where
  pub exactly : (P : ℕ → Type 0) → Listed ss ms g P ↔ IsCommunity (network s) P
  pub once : (P : ℕ → Type 0) (j k : ℕ) → ListedAs ss ms g P j → ListedAs ss ms g P k → j ≡ k
  -- each core is in a group, and in one only
  pub core_listed : (v : ℕ) → v < handset_count s → T (is_core (network s) v) → (k : ℕ) × (k < g) × Memᴰ v (group ss ms k)
  pub core_once : (v j k : ℕ) → T (is_core (network s) v) → j < g → k < g → Memᴰ v (group ss ms j) → Memᴰ v (group ss ms k) → j ≡ k
  pub bound : c ≤ handset_count s + 2 * edge_count s

pub record SameStanding (a b : Result Standing Refusal) : Type 0 where
  pub x : Standing
  pub y : Standing
  pub first : a ≡ Ok x
  pub second : b ≡ Ok y
  pub same_neighbours : x.neighbours ≡ y.neighbours
  pub same_role : SameRole x.role y.role

pub record Again (s t : List ℕ) (r : Renumbered s t) (ss₀ ms₀ ss ms : List ℕ) (g c : ℕ) : Type 1 where
  pub accepted : open_of t ≡ Ok (header_of t)
  pub not_refused : (ts us : List ℕ) (b : Result Counts Refusal) (ts' us' : List ℕ) → length ss₀ ≤ length ts → length ms₀ ≤ length us
      → PlanCall t ts us b ts' us' → b ≡ made g c
  pub same_sets : (ts us : List ℕ) (b : Result Counts Refusal) (ts' us' : List ℕ) → length ss₀ ≤ length ts → length ms₀ ≤ length us
      → PlanCall t ts us b ts' us'
      → (P : ℕ → Type 0) → Listed ss ms g P ↔ ((k : ℕ) × (k < g) × ((v : ℕ) → P v ↔ NumberedBack r.map (λ w. Memᴰ w (group ts' us' k)) v))
  pub same_roles : (v : ℕ) → v < handset_count s → (a b : Result Standing Refusal) → known_answer a ≡ known_answer (known_of s v)
      → known_answer b ≡ known_answer (known_of t (r.map.to v)) → SameStanding a b

abbrev pub LongEnough : List ℕ → List ℕ → List ℕ → Type 0
LongEnough s ss ms = (length (communities_of s) + 1 ≤ length ss) × (length (member_table (communities_of s)) ≤ length ms)

pub record Demand3 : Type 1 where
  pub planned : (s ss ms : List ℕ) (a : Result Counts Refusal) (ss' ms' : List ℕ) → Accepted s → LongEnough s ss ms → PlanCall s ss ms a ss' ms'
      → (g : ℕ) × (c : ℕ) × (a ≡ made g c) × Plan s ss' ms' g c
  pub renumbered : (s t : List ℕ) (r : Renumbered s t) (ss ms : List ℕ) (ss' ms' : List ℕ) (g c : ℕ) → Accepted s
      → PlanCall s ss ms (made g c) ss' ms' → Again s t r ss ms ss' ms' g c
