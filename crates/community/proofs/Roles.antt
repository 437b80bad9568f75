-- Laws of the roles, and of whether a list contains a handset.
use Prim.Native.Nat.{ℕ, zero, suc, ◌+◌, ◌<◌}
use native.Mathlib.Omega.{arith}
use native.Mathlib.Numerals.{add-one}
use mathlib.Core.Path.{◌≡◌, refl, sym, ap, ◌∙◌, subst}
use mathlib.Core.Logic.{⊎_elim}
use mathlib.Core.Bool.{Bool, true, false, ◌&&◌, ◌||◌, cond, or-false}
use mathlib.Core.List.Memᴰ
use mathlib.Core.List.{List, [], ◌∷◌, ◌++◌, map, Memᴰ}
use lib.Dec.{T, eqb, eqb→eq, eqb_refl}
use lib.ListN.{length, get_or, take}
use lib.Seq.{take-suc}
use Rattle.sets.specs.Below.{count, select, bit}
use Rattle.sets.proofs.Tests.{T-ext, T_true, T_false, decide, or_left, or_right, or_cases}
use Rattle.sets.proofs.Selecting.{map_append, mem_select, select_mem, select_yes, select_no}
use Rattle.sets.specs.Renumbering.{Renumbering}
use Rattle.sets.proofs.Counting.{count_cong}
use Rattle.community.specs.Network.{Network, is_core, reachable, is_leader, members, communities, contains, community_number, membership_count, leaders, role, border_of, role_values}
use Rattle.community.specs.declared.Role.{Role}
use Rattle.community.specs.declared.Role.TheVariants.{Core, Border, Outlier}
use Rattle.community.specs.Renumbered.{SameRole}
use Rattle.community.specs.Renumbered.SameRole.{both_core, both_border, both_outlier}
use Rattle.community.specs.ForProofs.{Sound}
use Rattle.community.proofs.Communities.{core_once}
use Rattle.community.proofs.Renumber.{with_neighbour, Moved, leaders_reaching, core_moved, leaders_reaching_moved}

pub contains_mem : (v : ℕ) (l : List ℕ) → T (contains v l) → Memᴰ v l
unfolding contains
contains_mem v [] t = absurd t
contains_mem v (x ∷ l) t = ⊎_elim (λ e. Memᴰ.head (eqb→eq v x e)) (λ y. Memᴰ.tail (contains_mem v l y)) (or_cases (eqb v x) (contains v l) t)

pub mem_contains : (v : ℕ) (l : List ℕ) → Memᴰ v l → T (contains v l)
unfolding contains
mem_contains v [] m = absurd (Memᴰ.not-nil m)
mem_contains v (x ∷ l) m =
    ⊎_elim
    (λ e. or_left (eqb v x) (contains v l) (subst (λ (y : ℕ). T (eqb v y)) e (eqb_refl v)))
    (λ y. or_right (eqb v x) (contains v l) (mem_contains v l y))
    (Memᴰ.cases_cons m)

or_assoc : (a b c : Bool) → ((a || b) || c) ≡ (a || (b || c))
or_assoc true b c = refl
or_assoc false b c = refl

contains_append : (v : ℕ) (a b : List ℕ) → contains v (a ++ b) ≡ (contains v a || contains v b)
unfolding contains
contains_append v [] b = refl
contains_append v (x ∷ a) b =
    ap (λ (y : Bool). eqb v x || y) (contains_append v a b) ∙ sym (or_assoc (eqb v x) (contains v a) (contains v b))

contains_one : (u x : ℕ) → contains u (x ∷ []) ≡ eqb u x
unfolding contains
contains_one u x = or-false (eqb u x)

-- the first numbers of a table, one more
pub contains_more : (l : List ℕ) (i u : ℕ) → i < length l → contains u (take (i + 1) l) ≡ (contains u (take i l) || eqb u (get_or l i 0))
contains_more l i u h =
    ap (λ (k : ℕ). contains u (take k l)) (add-one i) ∙ ap (contains u) (take-suc l i 0 h)
    ∙ contains_append u (take i l) (get_or l i 0 ∷ []) ∙ ap (λ (b : Bool). contains u (take i l) || b) (contains_one u (get_or l i 0))

-- where one list alone holds v, the place is that list's
pub place_law : (v : ℕ) (gs : List (List ℕ)) (k : ℕ) → k < length gs → Memᴰ v (get_or gs k [])
    → ((j : ℕ) → j < length gs → Memᴰ v (get_or gs j []) → j ≡ k) → community_number v gs ≡ k
unfolding community_number
place_law v [] k h m once = absurd (omega arith)
place_law v (x ∷ gs) zero h m once = rw (T_true (contains v x) (mem_contains v x m))
place_law v (x ∷ gs) (suc k) h m once =
    ⊎_elim
    (λ t. absurd (omega (arith, once 0 (omega arith) (contains_mem v x t))))
    (λ t.
    rw (T_false (contains v x) t)
    (ap suc (place_law v gs k (omega arith) m (λ j l y. omega (arith, once (suc j) (omega arith) y)))))
    (decide (contains v x))

times_append : (v : ℕ) (a b : List (List ℕ)) → membership_count v (a ++ b) ≡ membership_count v a + membership_count v b
unfolding membership_count
times_append v [] b = omega arith
times_append v (x ∷ a) b = ap (λ (k : ℕ). bit (contains v x) + k) (times_append v a b) ∙ omega arith

times_select : (n v : ℕ) (f : ℕ → Bool) (h : ℕ → List ℕ) → membership_count v (map h (select n f)) ≡ count n (λ u. f u && contains v (h u))
unfolding membership_count select count
times_select zero v f h = refl
times_select (suc n) v f h =
    ⊎_elim
    (λ t.
    ap (λ (l : List ℕ). membership_count v (map h l)) (select_yes n f t)
    ∙ ap (membership_count v) (map_append h (select n f) (n ∷ []))
    ∙ times_append v (map h (select n f)) (map h (n ∷ []))
    ∙ rw (T_true (f n) t) (omega (arith, times_select n v f h)))
    (λ t. ap (λ (l : List ℕ). membership_count v (map h l)) (select_no n f t) ∙ rw (T_false (f n) t) (omega (arith, times_select n v f h)))
    (decide (f n))

contains_members : (g : Network) (u v : ℕ) → v < g.n → contains v (members g u) ≡ reachable g u v
unfolding members
contains_members g u v h =
    T-ext (contains v (members g u)) (reachable g u v)
    (λ t. (select_mem g.n (reachable g u) v (contains_mem v (members g u) t)).1)
    (λ t. mem_contains v (members g u) (mem_select g.n (reachable g u) v h t))

-- the count of a handset's communities
pub times_law : (g : Network) (v : ℕ) → v < g.n → membership_count v (communities g) ≡ leaders_reaching g v
unfolding communities leaders leaders_reaching
times_law g v h =
    times_select g.n v (is_leader g) (members g)
    ∙ count_cong g.n (λ u. is_leader g u && contains v (members g u)) (λ u. is_leader g u && reachable g u v)
    (λ u l. ap (λ (b : Bool). is_leader g u && b) (contains_members g u v h))

-- the number of a core's community
pub core_place : {g : Network} (ok : Sound g) (v k : ℕ) → T (is_core g v) → k < length (communities g) → Memᴰ v (get_or (communities g) k []) → community_number v (communities g) ≡ k
core_place {g} ok v k t h m = place_law v (communities g) k h m (λ j l y. core_once ok v j k t l h y m)

pub same_border_of : (k : ℕ) → SameRole (border_of k) (border_of k)
same_border_of zero = both_outlier
same_border_of (suc k) = both_border

same_cond : (b : Bool) (i j k : ℕ) → SameRole (cond b (Core i) (border_of k)) (cond b (Core j) (border_of k))
same_cond true i j k = both_core
same_cond false i j k = same_border_of k

pub role_moved : (g : Network) (b : ℕ → ℕ → Bool) (r : Renumbering g.n) → Moved g b r → Sound g → Sound (with_neighbour g b)
    → (v : ℕ) → v < g.n → SameRole (role g v) (role (with_neighbour g b) (r.to v))
unfolding role
role_moved g b r moved ok ok' v h =
    rw (core_moved g b r moved v h, times_law (with_neighbour g b) (r.to v) (r.to_below v h), ← leaders_reaching_moved g b r moved ok ok' v h, times_law g v h)
    (same_cond (is_core g v) (community_number v (communities g)) (community_number (r.to v) (communities (with_neighbour g b))) (leaders_reaching g v))

-- ---- a role by its values
role_from : List ℕ → Role
role_from l = cond (eqb (get_or l 0 0) 0) (Core (get_or l 1 0)) (cond (eqb (get_or l 0 0) 1) (Border (get_or l 1 0)) Outlier)

role_from_lem : (r : Role) → role_from (role_values r) ≡ r
unfolding role_from
role_from_lem (Core k) = refl
role_from_lem (Border k) = refl
role_from_lem Outlier = refl

pub role_same : (a b : Role) → role_values a ≡ role_values b → a ≡ b
role_same a b e = sym (role_from_lem a) ∙ ap role_from e ∙ role_from_lem b
