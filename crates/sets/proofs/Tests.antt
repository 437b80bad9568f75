-- Laws of tests, and of tests over the numbers below a bound: a test is decided, `any` is a witness, `find` is the least witness.
use Prim.Native.Nat.{ℕ, zero, suc, ◌+◌, ◌<◌}
use native.Mathlib.Omega.{arith}
use native.Mathlib.Decide.{ℕ_discrete}
use mathlib.Core.Path.{◌≡◌, refl, sym, ap, ap₂, subst}
use mathlib.Core.Logic.{◌⊎◌, inl, inr, ⊎_elim}
use mathlib.Core.Bool.{Bool, true, false, ◌&&◌, ◌||◌, not, cond}
use lib.Dec.{T, eqb, ltb, eqb→eq, ltb→lt, lt→ltb, eqb_refl, T_not, not_T}
use Rattle.std.specs.Prelude.{Some, None}
use Rattle.sets.specs.Below.{any, find, first}

pub and_make : (a b : Bool) → T a → T b → T (a && b)
and_make true b x y = y
and_make false b x y = x

pub and_left : (a b : Bool) → T (a && b) → T a
and_left true b x = tt
and_left false b x = x

pub and_right : (a b : Bool) → T (a && b) → T b
and_right true b x = x
and_right false b x = absurd x

pub or_left : (a b : Bool) → T a → T (a || b)
or_left true b x = tt
or_left false b x = absurd x

pub or_right : (a b : Bool) → T b → T (a || b)
or_right true b x = tt
or_right false b x = x

pub or_cases : (a b : Bool) → T (a || b) → T a ⊎ T b
or_cases true b x = inl tt
or_cases false b x = inr x

-- a test passes or its negation does
pub decide : (a : Bool) → T a ⊎ T (not a)
decide true = inl tt
decide false = inr tt

pub T_true : (a : Bool) → T a → a ≡ true
T_true true x = refl
T_true false x = absurd x

pub T_false : (a : Bool) → T (not a) → a ≡ false
T_false true x = absurd x
T_false false x = refl

-- two tests that pass together are equal
pub T-ext : (a b : Bool) → (T a → T b) → (T b → T a) → a ≡ b
T-ext true b f g = sym (T_true b (f tt))
T-ext false true f g = absurd (g tt)
T-ext false false f g = refl

-- a number below suc n is n, or below n
pub below : {k n : ℕ} → k < suc n → (k ≡ n) ⊎ (k < n)
below {k} {n} h = go (ℕ_discrete k n)
  where
    go : Dec (k ≡ n) → (k ≡ n) ⊎ (k < n)
    go (yes e) = inl e
    go (no e) = inr (omega arith)

pub any_make : (n : ℕ) (f : ℕ → Bool) (k : ℕ) → k < n → T (f k) → T (any n f)
unfolding any
any_make zero f k h t = omega arith
any_make (suc n) f k h t = ⊎_elim (λ e. or_left (f n) (any n f) (rw (← e) t)) (λ l. or_right (f n) (any n f) (any_make n f k l t)) (below h)

pub any_take : (n : ℕ) (f : ℕ → Bool) → T (any n f) → (k : ℕ) × (k < n) × T (f k)
unfolding any
any_take zero f t = absurd t
any_take (suc n) f t =
    ⊎_elim (λ x. (n, omega arith, x)) (λ x. let r = any_take n f x in (r.0, omega arith, r.2)) (or_cases (f n) (any n f) t)

pub eqb_of : (a b : ℕ) → a ≡ b → T (eqb a b)
eqb_of a b e = subst (λ (x : ℕ). T (eqb a x)) e (eqb_refl a)

pub eqb_not : (a b : ℕ) → (a ≡ b → ⊥) → T (not (eqb a b))
eqb_not a b h = not_T (eqb a b) (λ t. h (eqb→eq a b t))

pub any_cong : (n : ℕ) (f g : ℕ → Bool) → ((v : ℕ) → v < n → f v ≡ g v) → any n f ≡ any n g
unfolding any
any_cong zero f g e = refl
any_cong (suc n) f g e = ap₂ ◌||◌ (e n (omega arith)) (any_cong n f g (λ v h. e v (omega arith)))

-- none of those below n passes
pub not_any : (n : ℕ) (f : ℕ → Bool) (k : ℕ) → T (not (any n f)) → k < n → T (f k) → ⊥
not_any n f k t h x = T_not (any n f) t (any_make n f k h x)

pub none_any : (n : ℕ) (f : ℕ → Bool) → ((k : ℕ) → k < n → T (not (f k))) → T (not (any n f))
none_any n f h = not_T (any n f) (λ t. let r = any_take n f t in T_not (f r.0) (h r.0 r.1) r.2)

pub any_none : (n : ℕ) (f : ℕ → Bool) → T (not (any n f)) → (k : ℕ) → k < n → T (not (f k))
any_none n f t k h = not_T (f k) (λ x. not_any n f k t h x)

-- a number is equal to another, below it or above it
pub three : (u w : ℕ) → (u ≡ w) ⊎ ((u < w) ⊎ (w < u))
three zero zero = inl refl
three zero (suc w) = inr (inl (omega arith))
three (suc u) zero = inr (inr (omega arith))
three (suc u) (suc w) = ⊎_elim (λ e. inl (ap suc e)) (λ h. ⊎_elim (λ l. inr (inl (omega arith))) (λ l. inr (inr (omega arith))) h) (three u w)

-- what `find` finds
pub find_law : (n : ℕ) (f : ℕ → Bool) → T (any n f) → (find n f < n) × T (f (find n f)) × T (not (any (find n f) f))
unfolding find any
find_law zero f t = absurd t
find_law (suc n) f t = go (any n f) refl (f n) refl t (find_law n f)
  where
    go : (a : Bool) → any n f ≡ a → (b : Bool) → f n ≡ b → T (b || a) → (T (any n f) → (find n f < n) × T (f (find n f)) × T (not (any (find n f) f)))
        → (cond a (find n f) (cond b n (suc n)) < suc n) × T (f (cond a (find n f) (cond b n (suc n)))) × T (not (any (cond a (find n f) (cond b n (suc n))) f))
    go true e b d t r = let q = r (rw e tt) in (omega arith, q.1, q.2)
    go false e true d t r = (omega arith, rw d tt, rw e tt)
    go false e false d t r = absurd t

-- the least is found, whatever the bound above it
pub find_is : (n : ℕ) (f : ℕ → Bool) (k : ℕ) → k < n → T (f k) → T (not (any k f)) → find n f ≡ k
find_is n f k h t z =
    let l = find_law n f (any_make n f k h t) in
    ⊎_elim (λ e. e)
    (λ o. ⊎_elim (λ q. absurd (not_any k f (find n f) z q l.1)) (λ q. absurd (not_any (find n f) f k l.2 q t)) o)
    (three (find n f) k)

pub find_none : (n : ℕ) (f : ℕ → Bool) → T (not (any n f)) → find n f ≡ n
unfolding find any
find_none zero f t = refl
find_none (suc n) f t = go (any n f) refl (f n) refl t
  where
    go : (a : Bool) → any n f ≡ a → (b : Bool) → f n ≡ b → T (not (b || a)) → cond a (find n f) (cond b n (suc n)) ≡ suc n
    go true e true d t = absurd t
    go true e false d t = absurd t
    go false e true d t = absurd t
    go false e false d t = refl

pub and_comm : (a b : Bool) → (a && b) ≡ (b && a)
and_comm true true = refl
and_comm true false = refl
and_comm false true = refl
and_comm false false = refl

pub or_comm : (a b : Bool) → (a || b) ≡ (b || a)
or_comm true true = refl
or_comm true false = refl
or_comm false true = refl
or_comm false false = refl

pub eqb_comm : (u v : ℕ) → eqb u v ≡ eqb v u
eqb_comm u v = T-ext (eqb u v) (eqb v u) (λ t. eqb_of v u (sym (eqb→eq u v t))) (λ t. eqb_of u v (sym (eqb→eq v u t)))

-- ---- the numbers below k that pass a test, as a loop goes through them: none at first, k not yet, k with one more, and no other
pub passed_none : (i : ℕ) (b : Bool) → (ltb i 0 && b) ≡ false
passed_none i b = T_false (ltb i 0 && b) (not_T (ltb i 0 && b) (λ t. absurd (omega (arith, ltb→lt i 0 (and_left (ltb i 0) b t)))))

pub passed_new : (k : ℕ) (b : Bool) → T (not (ltb k k && b))
passed_new k b = not_T (ltb k k && b) (λ t. omega (arith, ltb→lt k k (and_left (ltb k k) b t)))

pub passed_self : (k : ℕ) (b : Bool) → (ltb k (k + 1) && b) ≡ b
passed_self k b = ap (λ (x : Bool). x && b) (T_true (ltb k (k + 1)) (lt→ltb k (k + 1) (omega arith)))

pub passed_other : (k i : ℕ) (b : Bool) → (i ≡ k → ⊥) → (ltb i (k + 1) && b) ≡ (ltb i k && b)
passed_other k i b d =
    ap (λ (x : Bool). x && b)
    (T-ext (ltb i (k + 1)) (ltb i k) (λ t. lt→ltb i k (omega (arith, ltb→lt i (k + 1) t, d))) (λ t. lt→ltb i (k + 1) (omega (arith, ltb→lt i k t))))

-- ---- the first that passes, as an option
pub first_is : (n : ℕ) (f : ℕ → Bool) (k : ℕ) → k < n → T (f k) → T (not (any k f)) → first n f ≡ Some k
unfolding first
first_is n f k h t z = ap₂ (λ (b : Bool) (v : ℕ). cond b (Some v) None) (T_true (any n f) (any_make n f k h t)) (find_is n f k h t z)

pub first_none : (n : ℕ) (f : ℕ → Bool) → T (not (any n f)) → first n f ≡ None
unfolding first
first_none n f z = ap (λ (b : Bool). cond b (Some (find n f)) None) (T_false (any n f) z)
