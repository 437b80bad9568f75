-- The closures that a search finds: a closure has the row of its start and of each core left that it has, and it is the least such set. So what
-- `collect` leaves is the closure, whatever rows stand in the place of those of cores that are not left.
--
--     closure_start, closure_on, closure_least     a closure is the least set with the row of its start that is closed under steps
--     collected_closure                            the set that `collect` gives is the closure; collected_left: and what is left is left without it
--     left_first, left_next                        what is left at first, and after each search; found_is: what a search finds
--     smallest_later                               a search takes out the smallest core left, so the next one starts after it
--     searched_most, search_most                   so there are at most 512 searches, whatever the tables
--     Finding                                      the loop of find_communities: k rows are written, those of the cores left are as at first
use Prim.Native.Nat.{ℕ, zero, suc, ◌+◌, ◌*◌, ◌-◌, ◌/◌, ◌%◌, ◌≤◌, ◌<◌, min}
use native.Mathlib.Omega.{arith}
use native.Mathlib.Numerals.{add-one}
use native.Mathlib.Decide.{ℕ_discrete, dec_lt}
use mathlib.Core.Path.{◌≡◌, refl, sym, ap, ◌∙◌}
use mathlib.Core.Logic.{◌⊎◌, inl, inr, ⊎_elim}
use mathlib.Core.Bool.{Bool, true, false, ◌&&◌, ◌||◌, not}
use mathlib.Core.List.{List}
use lib.Dec.{T, eqb, eqb→eq, T_not}
use lib.ListN.{length, get_or}
use Rattle.sets.specs.Below.{any, find, bit, sum}
use Rattle.sets.specs.Bits.{bit_of, bit_at, cell}
use Rattle.sets.proofs.Bits.{bit_at_lt}
use Rattle.sets.proofs.Counting.{bit_true}
use Rattle.sets.proofs.Tests.{and_make, and_left, and_right, or_left, decide, eqb_of, eqb_not, any_make, none_any, not_any, find_law, find_is, find_none}
use Rattle.community.proofs.Reachability.{chain_step, chain_meet, chain_least}
use Rattle.search.specs.ForProofs.{FirstAt, Stored, Collected}
use Rattle.search.specs.Search.{steps, closure, left_after, found_by, Searched, Sized, SearchCall}
use Rattle.search.proofs.Growth.{cell_at, sum_less}

-- ---- bits that stand for tests

pub bit_one : (b : Bool) (x : ℕ) → x ≡ bit b → x ≡ 1 → T b
bit_one true x e q = tt
bit_one false x e q = absurd (omega arith)

pub bit_none : (b : Bool) (x : ℕ) → x ≡ bit b → x ≡ 0 → T (not b)
bit_none true x e q = absurd (omega arith)
bit_none false x e q = tt

-- a bit that is 1 exactly when a test passes is the test's
pub bit_is : (b : Bool) (x : ℕ) → x < 2 → (x ≡ 1 → T b) → (T b → x ≡ 1) → x ≡ bit b
bit_is true x h f g = g tt
bit_is false x h f g = go (ℕ_discrete x 1)
  where
    go : Dec (x ≡ 1) → x ≡ 0
    go (yes e) = absurd (f e)
    go (no n) = omega arith

bit_eqb : (x : ℕ) → x < 2 → x ≡ bit (eqb x 1)
bit_eqb x h = bit_is (eqb x 1) x h (λ e. eqb_of x 1 e) (λ t. eqb→eq x 1 t)

-- ---- a closure

module _ (rows : List ℕ) (left : ℕ → Bool) (u : ℕ) where
  step_in : (x v : ℕ) → T (left x) → cell rows x v ≡ 1 → T (steps rows left x v)
  unfolding steps
  step_in x v t e = and_make (left x) (eqb (cell rows x v) 1) t (eqb_of (cell rows x v) 1 e)

  pub closure_on : (x v : ℕ) → x < 512 → T (closure rows left u x) → T (left x) → cell rows x v ≡ 1 → T (closure rows left u v)
  unfolding closure
  closure_on x v h t p e = chain_meet (steps rows left) 512 x h u v t (chain_step (steps rows left) 512 x v (step_in x v p e))

  pub closure_start : (v : ℕ) → T (left u) → cell rows u v ≡ 1 → T (closure rows left u v)
  unfolding closure
  closure_start v p e = chain_step (steps rows left) 512 u v (step_in u v p e)

  pub closure_least : (f : ℕ → Bool) → u < 512 → ((v : ℕ) → v < 512 → cell rows u v ≡ 1 → T (f v))
      → ((x v : ℕ) → x < 512 → v < 512 → T (f x) → T (left x) → cell rows x v ≡ 1 → T (f v))
      → (v : ℕ) → v < 512 → T (closure rows left u v) → T (f v)
  unfolding closure steps
  closure_least f h first on v l t =
      chain_least (steps rows left) 512 (λ x y. (x ≡ u) ⊎ T (f x) → T (f y))
      (λ x y a b s.
      let e : cell rows x y ≡ 1 = eqb→eq (cell rows x y) 1 (and_right (left x) (eqb (cell rows x y) 1) s) in
      ⊎_elim (λ q. first y b (ap (λ (z : ℕ). cell rows z y) (sym q) ∙ e)) (λ fx. on x y a b fx (and_left (left x) (eqb (cell rows x y) 1) s) e))
      (λ x y z p q o. q (inr (p o)))
      512 (omega arith) u v h l t (inl refl)

-- the numbers of `left` pass the test f, and the table has rows for them as in `rows`
module _ (rows table left : List ℕ) (f : ℕ → Bool) (left_is : (v : ℕ) → v < 512 → bit_at left v ≡ bit (f v))
    (same : (x v : ℕ) → x < 512 → v < 512 → bit_at left x ≡ 1 → cell table x v ≡ cell rows x v)
    (u : ℕ) (h : u < 512) (is_left : T (f u)) (left' set : List ℕ) (col : Collected table left u left' set) where
  in_left : (x : ℕ) → x < 512 → T (f x) → bit_at left x ≡ 1
  in_left x l t = left_is x l ∙ bit_true (f x) t

  pub collected_closure : (v : ℕ) → v < 512 → bit_at set v ≡ bit (closure rows f u v)
  collected_closure v l =
      bit_is (closure rows f u v) (bit_at set v) (bit_at_lt set v)
      (λ e.
      col.least (closure rows f u) (λ y hy c. closure_start rows f u y is_left (sym (same u y h hy (in_left u h is_left)) ∙ c))
      (λ x y hx hy t p r. closure_on rows f u x y hx t (bit_one (f x) (bit_at left x) (left_is x hx) p) (sym (same x y hx hy p) ∙ r))
      v l e)
      (λ t.
      eqb→eq (bit_at set v) 1
      (closure_least rows f u (λ x. eqb (bit_at set x) 1) h
      (λ y hy c. eqb_of (bit_at set y) 1 (col.start y hy (same u y h hy (in_left u h is_left) ∙ c)))
      (λ x y hx hy s p r.
      eqb_of (bit_at set y) 1
      (col.closed x y hx hy (eqb→eq (bit_at set x) 1 s) (in_left x hx p) (same x y hx hy (in_left x hx p) ∙ r)))
      v l t))

  pub collected_left : (v : ℕ) → v < 512 → bit_at left' v ≡ bit (f v && not (eqb u v || closure rows f u v))
  collected_left v l = pick (ℕ_discrete v u)
    where
      and_not : (a b : Bool) {x y z : ℕ} → x ≡ min y (1 - z) → y ≡ bit a → z ≡ bit b → x ≡ bit (a && not b)
      and_not true true e p q = omega (arith, e, p, q)
      and_not true false e p q = omega (arith, e, p, q)
      and_not false b e p q = omega (arith, e, p)

      start_out : (a b c : Bool) → T b → 0 ≡ bit (a && not (b || c))
      start_out true true c t = refl
      start_out false true c t = refl
      start_out a false c t = absurd t

      other : (b c : Bool) → T (not b) → c ≡ (b || c)
      other true c t = absurd t
      other false c t = refl

      pick : Dec (v ≡ u) → bit_at left' v ≡ bit (f v && not (eqb u v || closure rows f u v))
      pick (yes e) = ap (bit_at left') e ∙ col.gone ∙ start_out (f v) (eqb u v) (closure rows f u v) (eqb_of u v (sym e))
      pick (no d) =
          and_not (f v) (closure rows f u v) (col.rest v l d) (left_is v l) (collected_closure v l)
          ∙ ap (λ (b : Bool). bit (f v && not b)) (other (eqb u v) (closure rows f u v) (eqb_not u v (λ e. d (sym e))))

-- ---- the searches

pub left_next : (rows cores : List ℕ) (k u v : ℕ) → find 512 (left_after rows cores k) ≡ u
    → left_after rows cores (suc k) v ≡ (left_after rows cores k v && not (eqb u v || closure rows (left_after rows cores k) u v))
unfolding left_after
left_next rows cores k u v e = ap (λ (x : ℕ). left_after rows cores k v && not (eqb x v || closure rows (left_after rows cores k) x v)) e

pub found_is : (rows cores : List ℕ) (k u v : ℕ) → find 512 (left_after rows cores k) ≡ u → found_by rows cores k v ≡ closure rows (left_after rows cores k) u v
unfolding found_by
found_is rows cores k u v e = ap (λ (x : ℕ). closure rows (left_after rows cores k) x v) e

pub left_first : (rows cores : List ℕ) (v : ℕ) → bit_at cores v ≡ bit (left_after rows cores zero v)
unfolding left_after
left_first rows cores v = bit_eqb (bit_at cores v) (bit_at_lt cores v)

-- each search takes out the smallest core left, so the next one's comes after it
module _ (table cores : List ℕ) (k : ℕ) where
  abbrev least : ℕ → ℕ
  least j = find 512 (left_after table cores j)

  smallest_later : T (any 512 (left_after table cores k)) → least k < least (suc k)
  smallest_later some =
      ⊎_elim (λ t. later t (ℕ_discrete (least (suc k)) (least k)) (dec_lt (least (suc k)) (least k)))
      (λ n. omega (arith, find_none 512 (left_after table cores (suc k)) n, m.0)) (decide (any 512 (left_after table cores (suc k))))
    where
      m : (least k < 512) × T (left_after table cores k (least k)) × T (not (any (least k) (left_after table cores k)))
      m = find_law 512 (left_after table cores k) some

      reached : Bool
      reached = eqb (least k) (least (suc k)) || closure table (left_after table cores k) (least k) (least (suc k))

      still : T (any 512 (left_after table cores (suc k))) → T (left_after table cores k (least (suc k)) && not reached)
      still t = rw (left_next table cores k (least k) (least (suc k)) refl) at (find_law 512 (left_after table cores (suc k)) t).1

      later : T (any 512 (left_after table cores (suc k))) → Dec (least (suc k) ≡ least k) → Dec (least (suc k) < least k) → least k < least (suc k)
      later t (yes e) d =
          absurd (T_not reached (and_right (left_after table cores k (least (suc k))) (not reached) (still t))
          (or_left (eqb (least k) (least (suc k))) (closure table (left_after table cores k) (least k) (least (suc k))) (eqb_of (least k) (least (suc k)) (sym e))))
      later t (no n) (yes l) =
          absurd (not_any (least k) (left_after table cores k) (least (suc k)) m.2 l (and_left (left_after table cores k (least (suc k))) (not reached) (still t)))
      later t (no n) (no d) = omega (arith, n, d)

smallest_rises : (table cores : List ℕ) (k : ℕ) → ((j : ℕ) → j < k → T (any 512 (left_after table cores j))) → k ≤ find 512 (left_after table cores k)
smallest_rises table cores zero some = omega arith
smallest_rises table cores (suc k) some =
    omega (arith, smallest_rises table cores k (λ j h. some j (omega arith)), smallest_later table cores k (some k (omega arith)))

pub searched_most : {table cores after : List ℕ} {r : ℕ} → Searched table cores after r → r ≤ 512
searched_most {table} {cores} {after} {r} s =
    omega (arith, smallest_rises table cores r s.some_left, find_none 512 (left_after table cores r) s.none_left)

pub search_most : {table cores after : List ℕ} {r : ℕ} → SearchCall table cores after r → r ≤ 512
search_most {table} {cores} {after} {r} s = pick (ℕ_discrete (length table) 4096) (ℕ_discrete (length cores) 8)
  where
    other : (Sized table cores → ⊥) → r ≤ 512
    other n = omega (arith, (s.left_alone n).1)

    pick : Dec (length table ≡ 4096) → Dec (length cores ≡ 8) → r ≤ 512
    pick (yes p) (yes q) = searched_most (s.searched (p, q))
    pick (yes p) (no d) = other (λ z. d z.1)
    pick (no d) q = other (λ z. d z.0)

-- ---- the loop that makes them

pub record Finding (rows₀ cores rows left : List ℕ) (k : ℕ) : Type 0 where
  pub behind : (v : ℕ) → v < 512 → bit_at left v ≡ 1 → k ≤ v
  pub some_left : (j : ℕ) → j < k → T (any 512 (left_after rows₀ cores j))
  pub left_is : (v : ℕ) → v < 512 → bit_at left v ≡ bit (left_after rows₀ cores k v)
  pub size : length rows ≡ length rows₀
  pub row : (j v : ℕ) → j < k → v < 512 → cell rows j v ≡ bit (found_by rows₀ cores j v)
  pub kept : (i : ℕ) → 8 * k ≤ i → get_or rows i 0 ≡ get_or rows₀ i 0

-- rows whose words are the same
cell_same : (ws rows : List ℕ) (x v : ℕ) → v < 512 → get_or ws (x * 8 + v / 64) 0 ≡ get_or rows (x * 8 + v / 64) 0 → cell ws x v ≡ cell rows x v
cell_same ws rows x v l e = cell_at ws x v l ∙ ap (λ (w : ℕ). bit_of w (v % 64)) e ∙ sym (cell_at rows x v l)

module _ (rows₀ cores : List ℕ) where
  pub finding_start : Finding rows₀ cores rows₀ cores 0
  finding_start = record {
    behind = λ v h e. omega arith;
    some_left = λ j h. absurd (omega arith);
    left_is = λ v h. left_first rows₀ cores v;
    size = refl;
    row = λ j v h. absurd (omega arith);
    kept = λ i h. refl;
  }

  module _ (rows left : List ℕ) (k : ℕ) (now : Finding rows₀ cores rows left k) where
    -- a number that is not in the set is not left
    gone : (v : ℕ) → v < 512 → min (bit_at left v) (bit_at left v) ≡ 0 → T (not (left_after rows₀ cores k v))
    gone v l e = bit_none (left_after rows₀ cores k v) (bit_at left v) (now.left_is v l) (omega (arith, e))

    module _ (u : ℕ) (first : FirstAt left left u) (left' set : List ℕ) (col : Collected rows left u left' set) where
      here : bit_at left u ≡ 1
      here = omega (arith, first.found)

      is_left : T (left_after rows₀ cores k u)
      is_left = bit_one (left_after rows₀ cores k u) (bit_at left u) (now.left_is u first.within) here

      smallest : find 512 (left_after rows₀ cores k) ≡ u
      smallest = find_is 512 (left_after rows₀ cores k) u first.within is_left (none_any u (left_after rows₀ cores k) (λ v l. gone v (omega (arith, first.within)) (first.before v l)))

      -- a core that is left has not been written over: it does not come before u
      same : (x v : ℕ) → x < 512 → v < 512 → bit_at left x ≡ 1 → cell rows x v ≡ cell rows₀ x v
      same x v a b t = go (dec_lt x u)
        where
          go : Dec (x < u) → cell rows x v ≡ cell rows₀ x v
          go (yes l) = absurd (omega (arith, first.before x l, t))
          go (no d) = cell_same rows rows₀ x v b (now.kept (x * 8 + v / 64) (omega (arith, now.behind x a t)))

      -- a core that is left after the search comes after u
      later : (x : ℕ) → x < 512 → bit_at left' x ≡ 1 → u < x
      later x l t =
          let other : x ≡ u → ⊥ = λ e. omega (arith, t, col.gone, ap (bit_at left') e) in
          let was : bit_at left x ≡ 1 = omega (arith, col.rest x l other, t, bit_at_lt left x) in
          let before : x < u → ⊥ = λ q. omega (arith, first.before x q, was) in
          omega (arith, other, before)

      pub finding_falls : sum 512 (bit_at left') < sum 512 (bit_at left)
      finding_falls =
          sum_less 512 (bit_at left) (bit_at left') u first.within (λ v l. fewer v l (ℕ_discrete v u)) (omega (arith, col.gone, here))
        where
          fewer : (v : ℕ) → v < 512 → Dec (v ≡ u) → bit_at left' v ≤ bit_at left v
          fewer v l (yes e) = omega (arith, col.gone, ap (bit_at left') e)
          fewer v l (no d) = omega (arith, col.rest v l d)

      pub finding_on : (after : List ℕ) → Stored rows k set after → Finding rows₀ cores after left' (k + 1)
      finding_on after st = record {
        behind = λ v q t. omega (arith, later v q t, now.behind u first.within here);
        some_left = λ j q. some j q (ℕ_discrete j k);
        left_is = λ v q.
            collected_left rows₀ rows left (left_after rows₀ cores k) now.left_is same u first.within is_left left' set col v q
            ∙ ap bit (sym (left_next rows₀ cores k u v smallest) ∙ ap (λ (x : ℕ). left_after rows₀ cores x v) (sym (add-one k)));
        size = st.size ∙ now.size;
        row = λ j v q m. row_next j v q m (ℕ_discrete j k);
        kept = λ i q. st.others i (λ e. omega (arith, q, e)) ∙ now.kept i (omega (arith, q));
      }
        where
          some : (j : ℕ) → j < k + 1 → Dec (j ≡ k) → T (any 512 (left_after rows₀ cores j))
          some j q (yes e) = rw e (any_make 512 (left_after rows₀ cores k) u first.within is_left)
          some j q (no d) = now.some_left j (omega (arith, q, d))

          row_next : (j v : ℕ) → j < k + 1 → v < 512 → Dec (j ≡ k) → cell after j v ≡ bit (found_by rows₀ cores j v)
          row_next j v q m (yes e) =
              ap (λ (x : ℕ). cell after x v) e ∙ st.row v m
              ∙ collected_closure rows₀ rows left (left_after rows₀ cores k) now.left_is same u first.within is_left left' set col v m
              ∙ ap bit (sym (found_is rows₀ cores k u v smallest))
              ∙ ap (λ (x : ℕ). bit (found_by rows₀ cores x v)) (sym e)
          row_next j v q m (no d) =
              cell_same after rows j v m (st.others (j * 8 + v / 64) (λ e. d (omega (arith, e, m)))) ∙ now.row j v (omega (arith, q, d)) m

    pub finding_end : ((v : ℕ) → v < 512 → min (bit_at left v) (bit_at left v) ≡ 0) → Searched rows₀ cores rows k
    finding_end none = record {
      some_left = now.some_left;
      none_left = none_any 512 (left_after rows₀ cores k) (λ v l. gone v l (none v l));
      size = now.size;
      row = now.row;
      kept = now.kept;
    }
