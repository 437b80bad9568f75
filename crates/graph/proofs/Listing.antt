-- The rows of the communities of a network list its communities. A row has a bit for each handset that is reachable from the community's leader, and none
-- past the last handset.
--
--     groups_most      a network of at most 512 handsets has at most 512 communities
--     grouped_rows     the first k rows, listed, are the communities
--     rows_are         so they are after a call: what callers cite
use Prim.Native.Nat.{ℕ, zero, suc, ◌+◌, ◌-◌, ◌≤◌, ◌<◌, min}
use native.Mathlib.Omega.{arith}
use native.Mathlib.Nat.{add-zero, add-suc}
use mathlib.Core.Path.{◌≡◌, sym, ap, ap₂, ◌∙◌}
use mathlib.Core.Bool.{Bool, ◌&&◌, not}
use mathlib.Core.List.{List, []}
use lib.Dec.{T, not_T, eqb, ltb, ltb→lt}
use lib.ListN.{length, get_or}
use lib.Seq.{ext_get_or}
use borrow.Author.Tests.{lt-ltb}
use Rattle.sets.specs.Below.{select}
use Rattle.sets.specs.Bits.{cell}
use Rattle.sets.proofs.Tests.{and_left, and_right}
use Rattle.sets.proofs.Counting.{bit_test, count_le}
use Rattle.sets.proofs.Selecting.{select_no, select_cong, length_select}
use Rattle.community.specs.Network.{Network, reachable, is_leader, leaders, members, communities}
use Rattle.community.proofs.Communities.{leader, length_communities, community_at, leader_below}
use Rattle.search.specs.Communities.{reachable_in, Grouped}
use Rattle.rows.specs.Rows.{row_members, rows_of}
use Rattle.rows.proofs.Listing.{rows_length, rows_at}
use Rattle.graph.specs.Graph.{Groups}

reachable_in_past : (g : Network) (u v : ℕ) → g.n ≤ v → T (not (reachable_in g u v))
unfolding reachable_in
reachable_in_past g u v h =
    not_T (reachable_in g u v) (λ t. absurd (omega (arith, ltb→lt v g.n (and_right (ltb u g.n) (ltb v g.n) (and_left (ltb u g.n && ltb v g.n) (reachable g u v) t)))))

reachable_in_below : (g : Network) (u v : ℕ) → u < g.n → v < g.n → reachable_in g u v ≡ reachable g u v
unfolding reachable_in
reachable_in_below g u v h l = ap₂ (λ (a b : Bool). (a && b) && reachable g u v) (lt-ltb u g.n h) (lt-ltb v g.n l)

-- nothing passes from n on
select_wide : (n d : ℕ) (f : ℕ → Bool) → ((v : ℕ) → n ≤ v → T (not (f v))) → select (n + d) f ≡ select n f
select_wide n zero f past = ap (λ (k : ℕ). select k f) (add-zero n)
select_wide n (suc d) f past =
    ap (λ (k : ℕ). select k f) (add-suc n d) ∙ select_no (n + d) f (past (n + d) (omega arith)) ∙ select_wide n d f past

-- row j has the members of the community of the j-th leader
row_members_lem : {g : Network} {rows : List ℕ} {k : ℕ} → g.n ≤ 512 → Grouped g rows k → (j : ℕ) → j < k → leader g j < g.n
    → row_members rows j ≡ members g (leader g j)
unfolding row_members members leader
row_members_lem {g} {rows} {k} small r j h l =
    let u : ℕ = get_or (leaders g) j 0 in
    let d : ℕ = 512 - g.n in
    let e : 512 ≡ g.n + d = omega arith in
    select_cong 512 (λ v. eqb (cell rows j v) 1) (reachable_in g u) (λ v q. ap (λ (b : ℕ). eqb b 1) (r.row j v h q) ∙ bit_test (reachable_in g u v))
    ∙ ap (λ (n : ℕ). select n (reachable_in g u)) e
    ∙ select_wide g.n d (reachable_in g u) (λ v q. reachable_in_past g u v q)
    ∙ select_cong g.n (reachable_in g u) (reachable g u) (λ v q. reachable_in_below g u v l q)

pub grouped_rows : {g : Network} {rows : List ℕ} {k : ℕ} → g.n ≤ 512 → Grouped g rows k → rows_of rows k ≡ communities g
grouped_rows {g} {rows} {k} small r =
    ext_get_or [] (rows_of rows k) (communities g) (rows_length rows k ∙ number)
    (λ j h.
    let l : j < k = omega (arith, rows_length rows k) in
    let q : j < length (communities g) = omega (arith, number) in
    rows_at rows k j l ∙ row_members_lem small r j l (leader_below g j q) ∙ sym (community_at g j q))
  where
    number : k ≡ length (communities g)
    number = r.number ∙ sym (length_communities g)

pub groups_most : {g : Network} {rows : List ℕ} {k : ℕ} → g.n ≤ 512 → Grouped g rows k → k ≤ 512
unfolding leaders
groups_most {g} small r = omega (arith, r.number, length_select g.n (is_leader g), count_le g.n (is_leader g), small)

pub rows_are : {s : List ℕ} {g : Network} {k tests : ℕ} {near ws sizes cores : List ℕ} → g.n ≤ 512 → Groups s g k tests near ws sizes cores
    → rows_of ws (min k 512) ≡ communities g
rows_are {k = k} {ws = ws} small f =
    let e : min k 512 ≡ k = omega (arith, groups_most small f.grouped) in
    ap (rows_of ws) e ∙ grouped_rows small f.grouped
