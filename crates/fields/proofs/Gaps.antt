-- How far apart two numbers are, by their signed difference.
--
--     abs_sub            the size of the difference of two numbers is their gap
--     moved              a difference stays where both numbers are moved by the same
use Prim.Native.Nat.{ℕ, suc, ◌-◌}
use native.Mathlib.Omega.{arith}
use mathlib.Core.Path.{◌≡◌, sym, ap, ◌∙◌}
use mathlib.Core.Logic.{⊎_elim}
use mathlib.Core.Bool.{Bool, cond}
use lib.Dec.{ltb, ltb→lt, nltb→le}
use lib.IntN.{ℤ, pos, negsuc, nat_abs, neg_ℤ, sub_ℕ, ◌+ℤ◌, ◌-ℤ◌, neg_ℤ-neg_ℤ, neg_ℤ-+ℤ, +ℤ_assoc, +ℤ_comm, +ℤ_idl, +ℤ_invl}
use Rattle.sets.proofs.Tests.{decide, T_true, T_false}
use Rattle.fields.specs.Fields.{gap}

pub abs_sub : (a b : ℕ) → nat_abs (sub_ℕ a b) ≡ gap a b
abs_sub a b =
    ⊎_elim
    (λ t. ap (λ (c : Bool). nat_abs (cond c (negsuc (b - suc a)) (pos (a - b)))) (T_true (ltb a b) t) ∙ omega (arith, ltb→lt a b t))
    (λ t. ap (λ (c : Bool). nat_abs (cond c (negsuc (b - suc a)) (pos (a - b)))) (T_false (ltb a b) t) ∙ omega (arith, nltb→le a b t))
    (decide (ltb a b))

pub moved : (x y c : ℤ) → (x -ℤ c) -ℤ (y -ℤ c) ≡ x -ℤ y
moved x y c =
    let back : neg_ℤ (y -ℤ c) ≡ c +ℤ neg_ℤ y = neg_ℤ-+ℤ y (neg_ℤ c) ∙ ap (λ (w : ℤ). neg_ℤ y +ℤ w) (neg_ℤ-neg_ℤ c) ∙ +ℤ_comm (neg_ℤ y) c in
    +ℤ_assoc x (neg_ℤ c) (neg_ℤ (y -ℤ c))
    ∙ ap (λ (w : ℤ). x +ℤ w) (ap (λ (w : ℤ). neg_ℤ c +ℤ w) back ∙ sym (+ℤ_assoc (neg_ℤ c) c (neg_ℤ y)) ∙ ap (λ (w : ℤ). w +ℤ neg_ℤ y) (+ℤ_invl c) ∙ +ℤ_idl (neg_ℤ y))
