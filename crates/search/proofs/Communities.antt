-- With the similarity relation and the cores of a network, the rows that the searches make are its communities. After k searches the rows are the communities
-- of the first k leaders, and the cores left are those that none of these reaches: so the smallest core left is the next leader, and its closure is what is
-- reachable from it, since no core on the way has been found before.
--
--     Found g table cores k b    the first k searches found the communities of the leaders below b
--     closure_reachable          what is found from a leader over the cores left is what is reachable from it
--     searched_grouped           the rows after the searches are the communities, in their order; search_grouped: so they are after a call
use Prim.Native.Nat.{ℕ, zero, suc, ◌≤◌, ◌<◌}
use native.Mathlib.Omega.{arith}
use native.Mathlib.Decide.{ℕ_discrete, dec_lt}
use mathlib.Core.Path.{◌≡◌, refl, sym, ap, ◌∙◌}
use mathlib.Core.Logic.{⊎_elim}
use mathlib.Core.Bool.{Bool, not, ◌&&◌, ◌||◌}
use mathlib.Core.List.{List, [], ◌∷◌, ◌++◌}
use lib.Dec.{T, ltb, eqb, lt→ltb, ltb→lt, eqb→eq, T_not}
use lib.ListN.{length, get_or, length-append, get_or-append}
use lib.Seq.{get_or_at}
use Rattle.sets.specs.Below.{any, find, bit, select}
use Rattle.sets.specs.Bits.{bit_at, cell}
use Rattle.sets.proofs.Tests.{and_make, and_left, and_right, or_right, or_cases, T-ext, decide, not_any, any_none, find_law}
use Rattle.sets.proofs.Counting.{bit_true}
use Rattle.sets.proofs.Selecting.{select_yes, select_same}
use Rattle.community.specs.Network.{Network, similar, is_core, Reachable, one, more, reachable, is_leader, leaders}
use Rattle.community.specs.ForProofs.{Sound}
use Rattle.community.proofs.Reachability.{Reachable-trans, from_below, to_below, reachable_sound, reachable_complete}
use Rattle.community.proofs.Similarity.{core_self, Reachable-back, step_make, step_core, step_similar}
use Rattle.community.proofs.Communities.{leader_core, leader_least, leader_of}
use Rattle.search.specs.Search.{closure, left_after, found_by, Searched, SearchCall}
use Rattle.search.specs.Communities.{both, similar_in, core_in, reachable_in, Grouped}
use Rattle.search.specs.ForProofs.{Surveyed}
use Rattle.search.proofs.Closures.{bit_one, closure_start, closure_on, closure_least, left_first, left_next, found_is}

-- ---- the relations among the handsets

module _ (g : Network) (u v : ℕ) where
  both_left : T (both g u v) → u < g.n
  both_left t = ltb→lt u g.n (and_left (ltb u g.n) (ltb v g.n) t)

  both_right : T (both g u v) → v < g.n
  both_right t = ltb→lt v g.n (and_right (ltb u g.n) (ltb v g.n) t)

  both_make : u < g.n → v < g.n → T (both g u v)
  both_make a b = and_make (ltb u g.n) (ltb v g.n) (lt→ltb u g.n a) (lt→ltb v g.n b)

  pub similar_take : T (similar_in g u v) → (u < g.n) × (v < g.n) × T (similar g u v)
  unfolding similar_in
  similar_take t =
      let w = and_left (both g u v) (similar g u v) t in
      (both_left w, both_right w, and_right (both g u v) (similar g u v) t)

  pub similar_in_lem : u < g.n → v < g.n → T (similar g u v) → T (similar_in g u v)
  unfolding similar_in
  similar_in_lem a b t = and_make (both g u v) (similar g u v) (both_make a b) t

  pub reachable_take : T (reachable_in g u v) → Reachable g u v
  unfolding reachable_in
  reachable_take t =
      let w = and_left (both g u v) (reachable g u v) t in
      reachable_sound g u v (both_left w) (both_right w) (and_right (both g u v) (reachable g u v) t)

  pub reachable_in_lem : Reachable g u v → T (reachable_in g u v)
  unfolding reachable_in
  reachable_in_lem r = and_make (both g u v) (reachable g u v) (both_make (from_below r) (to_below r)) (reachable_complete g r)

pub core_take : (g : Network) (v : ℕ) → T (core_in g v) → (v < g.n) × T (is_core g v)
unfolding core_in
core_take g v t = (ltb→lt v g.n (and_left (ltb v g.n) (is_core g v) t), and_right (ltb v g.n) (is_core g v) t)

pub core_in_lem : (g : Network) (v : ℕ) → v < g.n → T (is_core g v) → T (core_in g v)
unfolding core_in
core_in_lem g v h t = and_make (ltb v g.n) (is_core g v) (lt→ltb v g.n h) t

-- ---- the communities found so far

record Found (g : Network) (table cores : List ℕ) (k b : ℕ) : Type 0 where
  bound : b ≤ g.n
  number : k ≡ length (select b (is_leader g))
  row : (j v : ℕ) → j < k → v < 512 → found_by table cores j v ≡ reachable_in g (get_or (select b (is_leader g)) j 0) v
  core : (v : ℕ) → v < 512 → T (left_after table cores k v) → (v < g.n) × T (is_core g v)
  apart : (v w : ℕ) → v < 512 → T (left_after table cores k v) → w < b → T (is_leader g w) → Reachable g w v → ⊥
  taken : (v : ℕ) → v < g.n → T (is_core g v) → T (not (left_after table cores k v)) → (w : ℕ) × (w < b) × T (is_leader g w) × Reachable g w v

module _ {g : Network} {table cores : List ℕ} (given : Surveyed g table cores) where
  ok : Sound g
  ok = given.sound

  small : {v : ℕ} → v < g.n → v < 512
  small h = omega (arith, h, given.most)

  -- at the start no core is taken
  found_start : Found g table cores 0 0
  unfolding select
  found_start = record {
    bound = omega arith;
    number = refl;
    row = λ j v h. absurd (omega arith);
    core = λ v h t. core_take g v (bit_one (core_in g v) (bit_at cores v) (given.core_set.bits v h) (left_first table cores v ∙ bit_true (left_after table cores 0 v) t));
    apart = λ v w h t l. absurd (omega arith);
    taken = λ v h t n.
        absurd (T_not (left_after table cores 0 v) n (bit_one (left_after table cores 0 v) (bit_at cores v) (left_first table cores v)
        (given.core_set.bits v (small h) ∙ bit_true (core_in g v) (core_in_lem g v h t))));
  }

  module _ (k b : ℕ) (now : Found g table cores k b) where
    abbrev left : ℕ → Bool
    left = left_after table cores k

    -- a core that is not left is in no later leader's community
    no_leader : (w : ℕ) → b ≤ w → w < g.n → T (not (left w)) → T (is_leader g w) → ⊥
    no_leader w h l e t =
        let r = now.taken w l (leader_core g w t) e in
        leader_least g w t r.0 (omega (arith, r.1)) r.3

    leaders_found : T (not (any 512 left)) → leaders g ≡ select b (is_leader g)
    unfolding leaders
    leaders_found none = select_same b g.n (is_leader g) now.bound (λ w h l t. no_leader w h l (any_none 512 left none w (small l)) t)

    -- a turn, at the smallest core that is left
    module _ (u : ℕ) (h : u < 512) (is_left : T (left u)) (first : T (not (any u left))) where
      u_below : u < g.n
      u_below = (now.core u h is_left).0

      u_core : T (is_core g u)
      u_core = (now.core u h is_left).1

      -- a core that u is reachable from is still left
      still : (x : ℕ) → x < g.n → T (is_core g x) → Reachable g x u → T (left x)
      still x l t r =
          ⊎_elim (λ y. y) (λ n. let q = now.taken x l t n in absurd (now.apart u q.0 h is_left q.1 q.2 (Reachable-trans q.3 r))) (decide (left x))

      -- the leader that reaches u is u
      leads : (b ≤ u) × T (is_leader g u)
      leads = pick (ℕ_discrete w u)
        where
          l : (w : ℕ) × T (is_leader g w) × Reachable g w u
          l = leader_of ok u u_below u_core

          w : ℕ
          w = l.0

          low : b ≤ w
          low = go (dec_lt w b)
            where
              go : Dec (w < b) → b ≤ w
              go (yes q) = absurd (now.apart u w h is_left q l.1 l.2)
              go (no n) = omega arith

          pick : Dec (w ≡ u) → (b ≤ u) × T (is_leader g u)
          pick (yes q) = (omega (arith, low), rw q at l.1)
          pick (no n) = go (dec_lt w u)
            where
              go : Dec (w < u) → (b ≤ u) × T (is_leader g u)
              go (yes q) = absurd (not_any u left w first q (still w (from_below l.2) (leader_core g w l.1) l.2))
              go (no m) = absurd (leader_least g w l.1 u (omega arith) (Reachable-back ok l.2 u_core))

      -- u is the next leader
      next : select (suc u) (is_leader g) ≡ select b (is_leader g) ++ (u ∷ [])
      next =
          select_yes u (is_leader g) leads.1
          ∙ ap (λ (x : List ℕ). x ++ (u ∷ []))
          (select_same b u (is_leader g) leads.0 (λ w q l t. no_leader w q (omega (arith, l, u_below)) (any_none u left first w l) t))

      related : (x v : ℕ) → x < g.n → v < g.n → T (similar g x v) → cell table x v ≡ 1
      related x v a c t = given.similar_table.bits x v (small a) (small c) ∙ bit_true (similar_in g x v) (similar_in_lem g x v a c t)

      whole : (v : ℕ) → Reachable g u v → T (closure table left u v)
      whole v (one a c t) = closure_start table left u v is_left (related u v a c (step_similar ok u v t))
      whole v (more {v = x} r c t) =
          let core = step_core ok x v t in
          closure_on table left u x v (small (to_below r)) (whole x r) (still x (to_below r) core (Reachable-back ok r core))
          (related x v (to_below r) c (step_similar ok x v t))

      only : (v : ℕ) → v < 512 → T (closure table left u v) → T (reachable_in g u v)
      only v l t =
          closure_least table left u (reachable_in g u) h
          (λ y ly r. let s = row u y h ly r in reachable_in_lem g u y (one u_below s.1 (step_make ok u y u_core s.2)))
          (λ x y lx ly p q r.
          let s = row x y lx ly r in
          reachable_in_lem g u y (more (reachable_take g u x p) s.1 (step_make ok x y (now.core x lx q).1 s.2)))
          v l t
        where
          row : (x y : ℕ) → x < 512 → y < 512 → cell table x y ≡ 1 → (x < g.n) × (y < g.n) × T (similar g x y)
          row x y lx ly r = similar_take g x y (bit_one (similar_in g x y) (cell table x y) (given.similar_table.bits x y lx ly) r)

      closure_reachable : (v : ℕ) → v < 512 → closure table left u v ≡ reachable_in g u v
      closure_reachable v l = T-ext (closure table left u v) (reachable_in g u v) (only v l) (λ t. whole v (reachable_take g u v t))

      module _ (smallest : find 512 left ≡ u) where
        abbrev out : ℕ → Bool
        out v = eqb u v || closure table left u v

        left_on : (v : ℕ) → left_after table cores (suc k) v ≡ (left v && not (out v))
        left_on v = left_next table cores k u v smallest

        left_was : (v : ℕ) → T (left_after table cores (suc k) v) → T (left v)
        left_was v t = and_left (left v) (not (out v)) (rw (left_on v) at t)

        left_out : (v : ℕ) → T (left_after table cores (suc k) v) → T (not (out v))
        left_out v t = and_right (left v) (not (out v)) (rw (left_on v) at t)

        -- u is in its own row, so what goes out is what is found
        out_found : (v : ℕ) → T (out v) → T (closure table left u v)
        out_found v t = ⊎_elim (λ e. rw (sym (eqb→eq u v e)) (whole u (core_self ok u u_below u_core))) (λ c. c) (or_cases (eqb u v) (closure table left u v) t)

        found_on : Found g table cores (suc k) (suc u)
        found_on = record {
          bound = omega (arith, u_below);
          number = omega (arith, now.number, ap length next, length-append (select b (is_leader g)) (u ∷ []));
          row = rows_next;
          core = λ v l t. now.core v l (left_was v t);
          apart = apart_next;
          taken = taken_next;
        }
          where
            rows_next : (j v : ℕ) → j < suc k → v < 512 → found_by table cores j v ≡ reachable_in g (get_or (select (suc u) (is_leader g)) j 0) v
            rows_next j v q l = rw next (go (ℕ_discrete j k))
              where
                go : Dec (j ≡ k) → found_by table cores j v ≡ reachable_in g (get_or (select b (is_leader g) ++ (u ∷ [])) j 0) v
                go (yes p) =
                    ap (λ (x : ℕ). found_by table cores x v) p ∙ found_is table cores k u v smallest ∙ closure_reachable v l
                    ∙ ap (λ (x : ℕ). reachable_in g x v) (sym (get_or_at (select b (is_leader g)) u [] 0 j (sym (p ∙ now.number))))
                go (no n) =
                    now.row j v (omega arith) l
                    ∙ ap (λ (x : ℕ). reachable_in g x v) (sym (get_or-append (select b (is_leader g)) (u ∷ []) 0 j (omega (arith, now.number))))

            apart_next : (v w : ℕ) → v < 512 → T (left_after table cores (suc k) v) → w < suc u → T (is_leader g w) → Reachable g w v → ⊥
            apart_next v w l p q t r = go (ℕ_discrete w u) (dec_lt w b)
              where
                go : Dec (w ≡ u) → Dec (w < b) → ⊥
                go (yes z) d = T_not (out v) (left_out v p) (or_right (eqb u v) (closure table left u v) (whole v (rw z at r)))
                go (no n) (yes d) = now.apart v w l (left_was v p) d t r
                go (no n) (no d) = no_leader w (omega arith) (omega (arith, u_below)) (any_none u left first w (omega arith)) t

            taken_next : (v : ℕ) → v < g.n → T (is_core g v) → T (not (left_after table cores (suc k) v)) → (w : ℕ) × (w < suc u) × T (is_leader g w) × Reachable g w v
            taken_next v l t p = ⊎_elim was (λ z. let r = now.taken v l t z in (r.0, omega (arith, r.1, leads.0), r.2, r.3)) (decide (left v))
              where
                found_now : T (left v) → T (closure table left u v)
                found_now y =
                    ⊎_elim (out_found v) (λ n. absurd (T_not (left_after table cores (suc k) v) p (rw (left_on v) (and_make (left v) (not (out v)) y n))))
                    (decide (out v))

                was : T (left v) → (w : ℕ) × (w < suc u) × T (is_leader g w) × Reachable g w v
                was y = (u, omega arith, leads.1, reachable_take g u v (only v (small l) (found_now y)))

  -- after each number of searches
  found_after : (k : ℕ) → ((j : ℕ) → j < k → T (any 512 (left_after table cores j))) → (b : ℕ) × Found g table cores k b
  found_after zero some = (0, found_start)
  found_after (suc k) some =
      let f = found_after k (λ j h. some j (omega arith)) in
      let m = find_law 512 (left_after table cores k) (some k (omega arith)) in
      let u : ℕ = find 512 (left_after table cores k) in
      (suc u, found_on k f.0 f.1 u m.0 m.1 m.2 refl)

  pub searched_grouped : {after : List ℕ} {r : ℕ} → Searched table cores after r → Grouped g after r
  searched_grouped {after} {r} s =
      let f = found_after r s.some_left in
      let same = leaders_found r f.0 f.1 s.none_left in record {
        number = f.1.number ∙ ap length (sym same);
        row = λ j v h l.
            s.row j v h l ∙ ap bit (f.1.row j v h l) ∙ ap (λ (x : List ℕ). bit (reachable_in g (get_or x j 0) v)) (sym same);
      }

  pub search_grouped : {after : List ℕ} {r : ℕ} → length table ≡ 4096 → SearchCall table cores after r → Grouped g after r
  search_grouped l s = searched_grouped (s.searched (l, given.core_set.size))
