-- The members of a set of bits, word by word.
--
--     word_members      the members below a word, and those of the word
--     elements_are      the members in the words that there are, at most eight, are all below 512
use Prim.Native.Nat.{ℕ, zero, suc, ◌+◌, ◌*◌, min}
use native.Mathlib.Omega.{arith}
use mathlib.Core.Path.{◌≡◌, refl, sym, ap, ap₂, ◌∙◌}
use mathlib.Core.Bool.{Bool, true, false, cond}
use mathlib.Core.List.{List, [], ◌∷◌, ◌++◌, map, append_assoc, append-nil}
use lib.Dec.{eqb, eqb→eq}
use lib.ListN.{length, get_or}
use Rattle.sets.specs.Below.{select}
use Rattle.sets.specs.Bits.{bit_of, bit_at, ones_of}
use Rattle.sets.proofs.Selecting.{select_same, select_cong, map_append}
use Rattle.sets.proofs.Bits.{bit_at_past, word_bit}
use Rattle.text.specs.Text.{numbers, elements_of}
use Rattle.text.proofs.Writing.{numbers_append}

abbrev pub is_member : List ℕ → ℕ → Bool
is_member ws v = eqb (bit_at ws v) 1

-- those below a + n: those below a, and those from a on
select_from : (a n : ℕ) (f : ℕ → Bool) → select (a + n) f ≡ select a f ++ map (λ k. a + k) (select n (λ k. f (a + k)))
unfolding select
select_from a zero f = ap (λ (k : ℕ). select k f) (let e : a + 0 ≡ a = omega arith in e) ∙ sym (append-nil (select a f))
select_from a (suc n) f =
    let g : ℕ → Bool = λ k. f (a + k) in
    ap (λ (k : ℕ). select k f) (let e : a + suc n ≡ suc (a + n) = omega arith in e)
    ∙ ap₂ (λ (x y : List ℕ). x ++ y) (select_from a n f) (last (g n))
    ∙ append_assoc (select a f) (map (λ k. a + k) (select n g)) (map (λ k. a + k) (cond (g n) (n ∷ []) []))
    ∙ ap (λ (x : List ℕ). select a f ++ x) (sym (map_append (λ k. a + k) (select n g) (cond (g n) (n ∷ []) [])))
  where
    last : (b : Bool) → cond b ((a + n) ∷ []) [] ≡ map (λ k. a + k) (cond b (n ∷ []) [])
    last true = refl
    last false = refl

pub word_members : (ws : List ℕ) (j : ℕ)
    → numbers (select ((j + 1) * 64) (is_member ws)) ≡ numbers (select (j * 64) (is_member ws)) ++ numbers (map (λ k. 64 * j + k) (ones_of (get_or ws j 0)))
unfolding ones_of
word_members ws j =
    let f : ℕ → Bool = is_member ws in
    ap (λ (k : ℕ). numbers (select k f)) (let e : (j + 1) * 64 ≡ 64 * j + 64 = omega arith in e)
    ∙ ap numbers (select_from (64 * j) 64 f)
    ∙ numbers_append (select (64 * j) f) (map (λ k. 64 * j + k) (select 64 (λ k. f (64 * j + k))))
    ∙ ap₂ (λ (k : ℕ) (l : List ℕ). numbers (select k f) ++ numbers (map (λ k. 64 * j + k) l)) (let e : 64 * j ≡ j * 64 = omega arith in e)
    (select_cong 64 (λ k. f (64 * j + k)) (λ k. eqb (bit_of (get_or ws j 0) k) 1)
    (λ k h. ap (λ (b : ℕ). eqb b 1) (ap (bit_at ws) (let e : 64 * j + k ≡ j * 64 + k = omega arith in e) ∙ word_bit ws j k h)))

pub elements_are : (ws : List ℕ) (j : ℕ) → j ≡ min (length ws) 8 → elements_of ws ≡ select (j * 64) (is_member ws)
unfolding elements_of
elements_are ws j e =
    select_same (j * 64) 512 (is_member ws) (omega arith) (λ v l h t. omega (arith, eqb→eq (bit_at ws v) 1 t, bit_at_past ws v (omega arith)))
