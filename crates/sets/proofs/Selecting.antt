-- Laws of `select`: its members are what passes, ascending, as many as `count` says. And of a list's places.
use Prim.Native.Nat.{ℕ, zero, suc, ◌+◌, ◌-◌, ◌≤◌, ◌<◌}
use native.Mathlib.Omega.{arith}
use mathlib.Core.Path.{◌≡◌, refl, sym, ap, ap₂, ◌∙◌}
use mathlib.Core.Logic.{⊎_elim}
use mathlib.Core.Bool.{Bool, not, cond}
use mathlib.Core.List.Memᴰ
use mathlib.Core.List.{List, [], ◌∷◌, ◌++◌, map, append-nil, Memᴰ}
use lib.Dec.{T, not_T}
use lib.ListN.{length, get_or, length-append, get_or-append}
use lib.Seq.{get_or_at}
use Rattle.sets.specs.Below.{count, select}
use Rattle.sets.proofs.Tests.{decide, T_true, T_false, below}
use Rattle.sets.proofs.Counting.{bit_true, bit_false}

pub select_yes : (n : ℕ) (f : ℕ → Bool) → T (f n) → select (suc n) f ≡ select n f ++ (n ∷ [])
unfolding select
select_yes n f t = ap (λ (b : Bool). select n f ++ cond b (n ∷ []) []) (T_true (f n) t)

pub select_no : (n : ℕ) (f : ℕ → Bool) → T (not (f n)) → select (suc n) f ≡ select n f
unfolding select
select_no n f t = ap (λ (b : Bool). select n f ++ cond b (n ∷ []) []) (T_false (f n) t) ∙ append-nil (select n f)

-- nothing is added where none passes between two bounds
select_between : (b d : ℕ) (f : ℕ → Bool) → ((v : ℕ) → b ≤ v → v < d + b → T (f v) → ⊥) → select (d + b) f ≡ select b f
select_between b zero f h = ap (λ (x : ℕ). select x f) (let e : 0 + b ≡ b = omega arith in e)
select_between b (suc d) f h =
    ap (λ (x : ℕ). select x f) (let e : suc d + b ≡ suc (d + b) = omega arith in e)
    ∙ select_no (d + b) f (not_T (f (d + b)) (h (d + b) (omega arith) (omega arith)))
    ∙ select_between b d f (λ v l q. h v l (omega arith))

pub select_same : (b c : ℕ) (f : ℕ → Bool) → b ≤ c → ((v : ℕ) → b ≤ v → v < c → T (f v) → ⊥) → select c f ≡ select b f
select_same b c f h none =
    let e : (c - b) + b ≡ c = omega arith in
    ap (λ (x : ℕ). select x f) (sym e) ∙ select_between b (c - b) f (λ v l q. none v l (omega arith))

pub select_cong : (n : ℕ) (f g : ℕ → Bool) → ((v : ℕ) → v < n → f v ≡ g v) → select n f ≡ select n g
unfolding select
select_cong zero f g e = refl
select_cong (suc n) f g e =
    ap₂ (λ (x : Bool) (l : List ℕ). l ++ cond x (n ∷ []) []) (e n (omega arith)) (select_cong n f g (λ v h. e v (omega arith)))

pub length_select : (n : ℕ) (f : ℕ → Bool) → length (select n f) ≡ count n f
unfolding select count
length_select zero f = refl
length_select (suc n) f =
    ⊎_elim
    (λ t. ap length (select_yes n f t) ∙ length-append (select n f) (n ∷ []) ∙ omega (arith, length_select n f, bit_true (f n) t))
    (λ t. ap length (select_no n f t) ∙ omega (arith, length_select n f, bit_false (f n) t))
    (decide (f n))

pub mem_select : (n : ℕ) (f : ℕ → Bool) (v : ℕ) → v < n → T (f v) → Memᴰ v (select n f)
mem_select zero f v h t = absurd (omega arith)
mem_select (suc n) f v h t =
    ⊎_elim
    (λ e. rw (select_yes n f (rw (← e) t)) (Memᴰ.append_right (select n f) (Memᴰ.head e)))
    (λ l.
    ⊎_elim
    (λ y. rw (select_yes n f y) (Memᴰ.append_left (n ∷ []) (mem_select n f v l t)))
    (λ y. rw (select_no n f y) (mem_select n f v l t))
    (decide (f n)))
    (below h)

pub select_mem : (n : ℕ) (f : ℕ → Bool) (v : ℕ) → Memᴰ v (select n f) → (v < n) × T (f v)
unfolding select
select_mem zero f v m = absurd (Memᴰ.not-nil m)
select_mem (suc n) f v m =
    ⊎_elim
    (λ y.
    ⊎_elim
    (λ x. let r = select_mem n f v x in (omega arith, r.1))
    (λ x. let e : v ≡ n = Memᴰ.eq_of_singleton x in (omega arith, rw e y))
    (Memᴰ.append_cases (select n f) (rw (select_yes n f y) at m)))
    (λ y. let r = select_mem n f v (rw (select_no n f y) at m) in (omega arith, r.1))
    (decide (f n))

module _ {A : Type 0} where
  pub mem_at : (l : List A) (d v : A) → Memᴰ v l → (k : ℕ) × (k < length l) × (get_or l k d ≡ v)
  mem_at [] d v m = absurd (Memᴰ.not-nil m)
  mem_at (x ∷ l) d v m =
      ⊎_elim (λ e. (0, omega arith, sym e)) (λ y. let r = mem_at l d v y in (suc r.0, omega arith, r.2)) (Memᴰ.cases_cons m)

  pub at_mem : (l : List A) (d : A) (k : ℕ) → k < length l → Memᴰ (get_or l k d) l
  at_mem [] d k h = absurd (omega arith)
  at_mem (x ∷ l) d zero h = Memᴰ.head refl
  at_mem (x ∷ l) d (suc k) h = Memᴰ.tail (at_mem l d k (omega arith))

pub map_at : {A B : Type 0} (f : A → B) (l : List A) (d : A) (e : B) (k : ℕ) → k < length l → get_or (map f l) k e ≡ f (get_or l k d)
map_at f [] d e k h = absurd (omega arith)
map_at f (x ∷ l) d e zero h = refl
map_at f (x ∷ l) d e (suc k) h = map_at f l d e k (omega arith)

pub map_append : {A B : Type 0} (f : A → B) (a b : List A) → map f (a ++ b) ≡ map f a ++ map f b
map_append f [] b = refl
map_append f (x ∷ a) b = ap (λ l. f x ∷ l) (map_append f a b)

pub select_below : (n : ℕ) (f : ℕ → Bool) (k : ℕ) → k < length (select n f) → get_or (select n f) k 0 < n
select_below n f k h = (select_mem n f (get_or (select n f) k 0) (at_mem (select n f) 0 k h)).0

pub select_passes : (n : ℕ) (f : ℕ → Bool) (k : ℕ) → k < length (select n f) → T (f (get_or (select n f) k 0))
select_passes n f k h = (select_mem n f (get_or (select n f) k 0) (at_mem (select n f) 0 k h)).1

-- the selected numbers ascend
pub select_ascends : (n : ℕ) (f : ℕ → Bool) (i j : ℕ) → i < j → j < length (select n f) → get_or (select n f) i 0 < get_or (select n f) j 0
unfolding select
select_ascends zero f i j h k = absurd (omega arith)
select_ascends (suc n) f i j h k =
    ⊎_elim
    (λ y.
    rw (select_yes n f y)
    (let k' : j < suc (length (select n f)) = omega (arith, rw (select_yes n f y) at k, length-append (select n f) (n ∷ [])) in
    ⊎_elim
    (λ e.
    let i' : i < length (select n f) = omega arith in
    rw (get_or-append (select n f) (n ∷ []) 0 i i', get_or_at (select n f) n [] 0 j (sym e)) (select_below n f i i'))
    (λ l.
    let i' : i < length (select n f) = omega arith in
    rw (get_or-append (select n f) (n ∷ []) 0 i i', get_or-append (select n f) (n ∷ []) 0 j l) (select_ascends n f i j h l))
    (below k')))
    (λ y. rw (select_no n f y) (select_ascends n f i j h (rw (select_no n f y) at k)))
    (decide (f n))
