-- How often a handset stands in a list and in a plan's member table. No community lists a handset twice, so that a handset stands in the member table as
-- often as it is in a community.
--
--     Apart l                    no two places of a list hold the same
--     multiplicity_contains      a list contains a handset exactly when it stands there at least once
--     multiplicity_once          in a list without repeats a handset stands once or not at all
--     community_apart            a community lists no handset twice
--     multiplicity_table         in the member table of a network's communities a handset stands as often as it has communities
use Prim.Native.Nat.{ℕ, suc, ◌+◌, ◌<◌}
use native.Mathlib.Omega.{arith}
use mathlib.Core.Path.{◌≡◌, refl, sym, ap, ap₂, ◌∙◌}
use mathlib.Core.Bool.{Bool, true, false}
use mathlib.Core.List.{List, [], ◌∷◌}
use lib.Dec.{T, leb, eqb, eqb→eq, le→leb, leb→le}
use lib.ListN.{length, get_or}
use Rattle.sets.specs.Below.{any, count, bit}
use Rattle.sets.specs.Entries.{multiplicity}
use Rattle.sets.proofs.Tests.{any_take, eqb_of, T-ext}
use Rattle.sets.proofs.Counting.{count_some, count_but, count_once}
use Rattle.sets.proofs.Selecting.{mem_at, at_mem, select_ascends}
use Rattle.sets.proofs.Entries.{multiplicity_append}
use Rattle.community.specs.Network.{Network, reachable, members, communities, contains, membership_count}
use Rattle.community.specs.Tables.{member_table}
use Rattle.community.proofs.Communities.{leader, community_at}
use Rattle.community.proofs.Roles.{contains_mem, mem_contains}

abbrev pub Apart : List ℕ → Type 0
Apart l = (i j : ℕ) → i < j → j < length l → get_or l i 0 ≡ get_or l j 0 → ⊥

pub multiplicity_contains : (l : List ℕ) (v : ℕ) → leb 1 (multiplicity l v) ≡ contains v l
unfolding multiplicity
multiplicity_contains l v = T-ext (leb 1 (count (length l) f)) (contains v l) to back
  where
    f : ℕ → Bool
    f i = eqb v (get_or l i 0)

    to : T (leb 1 (count (length l) f)) → T (contains v l)
    to t =
        let r = any_take (length l) f (count_some (length l) f (leb→le 1 (count (length l) f) t)) in
        rw (eqb→eq v (get_or l r.0 0) r.2) (mem_contains (get_or l r.0 0) l (at_mem l 0 r.0 r.1))

    back : T (contains v l) → T (leb 1 (count (length l) f))
    back t =
        let r = mem_at l 0 v (contains_mem v l t) in
        le→leb 1 (count (length l) f) (omega (arith, count_but (length l) f r.0 r.1 (eqb_of v (get_or l r.0 0) (sym r.2))))

pub multiplicity_once : (l : List ℕ) → Apart l → (v : ℕ) → multiplicity l v ≡ bit (contains v l)
unfolding multiplicity
multiplicity_once l apart v =
    let f : ℕ → Bool = λ i. eqb v (get_or l i 0) in
    let once : bit (any (length l) f) ≡ multiplicity l v = count_once (length l) f
    (λ i j h k x y. apart i j h k (sym (eqb→eq v (get_or l i 0) x) ∙ eqb→eq v (get_or l j 0) y)) in
    sym once ∙ ap bit (sym (one (any (length l) f)) ∙ ap (leb 1) once ∙ multiplicity_contains l v)
  where
    one : (b : Bool) → leb 1 (bit b) ≡ b
    one true = refl
    one false = refl

module _ (g : Network) where
  members_apart : (u : ℕ) → Apart (members g u)
  unfolding members
  members_apart u i j h l e = omega (arith, select_ascends g.n (reachable g u) i j h l)

  pub community_apart : (k : ℕ) → k < length (communities g) → Apart (get_or (communities g) k [])
  community_apart k h = rw (community_at g k h) (members_apart (leader g k))

lists_apart : (v : ℕ) (gs : List (List ℕ)) → ((k : ℕ) → k < length gs → Apart (get_or gs k [])) → multiplicity (member_table gs) v ≡ membership_count v gs
unfolding member_table membership_count multiplicity count
lists_apart v [] apart = refl
lists_apart v (x ∷ gs) apart =
    multiplicity_append x (member_table gs) v
    ∙ ap₂ (λ (a b : ℕ). a + b) (multiplicity_once x (apart 0 (omega arith)) v) (lists_apart v gs (λ k h. apart (suc k) (omega arith)))

pub multiplicity_table : (g : Network) (v : ℕ) → multiplicity (member_table (communities g)) v ≡ membership_count v (communities g)
multiplicity_table g v = lists_apart v (communities g) (community_apart g)
