-- How writes follow one another, and how the texts that a loop writes grow by one step.
--
--     from_start, chain_from       so from a buffer and a position that are known by an equation
--     copied                       bytes copied as far as the buffer reaches; copied_part: through the part of it that is left
--     byte_more                    bytes at the front of a list, one more
--     chain                        a write after a write is one write; then: the same of a text
--     still                        nothing more is written
--     written                      what a text from the front of a buffer leaves in it
--     numbers_append               the numbers of two lists
--     numbers_one                  the numbers of a table, one more
--     numbers_more                 the numbers of a list, each changed, one more
--     members_yes, members_no      the members of a set below a bound, one bound more
use Prim.Native.Nat.{ℕ, ◌+◌, ◌-◌, ◌≤◌, ◌<◌, min}
use mathlib.Core.Path.{◌≡◌, refl, sym, ap, ap₂, ◌∙◌, subst₂}
use mathlib.Core.Bool.{Bool, not}
use mathlib.Core.List.{List, [], ◌∷◌, ◌++◌, map, append_assoc, append-nil}
use native.Mathlib.Omega.{arith}
use native.Mathlib.Decide.{dec_lt}
use native.Mathlib.Numerals.{add-one}
use lib.ListN.{length, get_or, set, length-append, length-drop, take, drop, drop_of_length-le}
use lib.Seq.{sets, sets-eq, length-sets, take-suc, drop-drop}
use Rattle.std.proofs.lemmas.List.{take-append-drop, length-take-le, take_rest}
use lib.Dec.{T}
use borrow.Rule.Slice.PartMut.{put_mid}
use Rattle.sets.specs.Below.{select}
use Rattle.sets.proofs.Selecting.{select_yes, select_no, map_append}
use Rattle.sets.proofs.Writing.{sets_out, sets_append, sets_front}
use Rattle.text.specs.Text.{Wrote, Writes, decimal, numbers}
use Rattle.text.specs.declared.Text.{Text}

-- stores from the capped position are the stores from the true one
capped : (l : List ℕ) (p : ℕ) (ws : List ℕ) → length l ≤ 9223372036854775808 → sets l (min p 9223372036854775808) ws ≡ sets l p ws
capped l p ws h = pick (dec_lt p 9223372036854775808)
  where
    pick : Dec (p < 9223372036854775808) → sets l (min p 9223372036854775808) ws ≡ sets l p ws
    pick (yes k) = ap (λ (q : ℕ). sets l q ws) (omega arith)
    pick (no k) = sets_out l (min p 9223372036854775808) ws (omega arith) ∙ sym (sets_out l p ws (omega arith))

pub chain : {l l₁ l₂ : List ℕ} {at r₁ r₂ : ℕ} {vs ws : List ℕ} → length l ≤ 9223372036854775808 → Wrote l at vs l₁ r₁ → Wrote l₁ r₁ ws l₂ r₂ → Wrote l at (vs ++ ws) l₂ r₂
chain {l} {l₁} {l₂} {at} {r₁} {r₂} {vs} {ws} h p q = record {
  list = q.list
      ∙ ap (λ (k : ℕ). sets l₁ k ws) p.next
      ∙ ap (λ (m : List ℕ). sets m (min (at + length vs) 9223372036854775808) ws) p.list
      ∙ capped (sets l at vs) (at + length vs) ws (omega (arith, length-sets l at vs))
      ∙ sym (sets_append l at vs ws);
  next = omega (arith, length-append vs ws, p.next, q.next);
}

-- a write from a buffer and a position that are known by an equation
pub from_start : {l l₁ l₂ : List ℕ} {at r₁ r₂ : ℕ} {vs : List ℕ} → l₁ ≡ l → r₁ ≡ at → Wrote l₁ r₁ vs l₂ r₂ → Wrote l at vs l₂ r₂
from_start {l₂ = l₂} {r₂ = r₂} {vs} e d w = subst₂ (λ (m : List ℕ) (k : ℕ). Wrote m k vs l₂ r₂) e d w

pub chain_from : {l l₁ l₂ m : List ℕ} {at r₁ r₂ k : ℕ} {vs ws : List ℕ} → length l ≤ 9223372036854775808 → m ≡ l₁ → k ≡ r₁
    → Wrote l at vs l₁ r₁ → Wrote m k ws l₂ r₂ → Wrote l at (vs ++ ws) l₂ r₂
chain_from h e d p q = chain h p (from_start e d q)

-- bytes copied as far as the buffer reaches are the bytes stored
pub copied : (l vs : List ℕ) (p i n k : ℕ) → i ≡ min p (length l) → n ≡ min (length vs) (length l - i) → k ≡ n
    → sets l p vs ≡ take i l ++ (take n vs ++ drop k (drop i l))
copied l vs p i n k e d same =
    from (dec_lt p (length l))
    ∙ ap (sets l i) (sym (take-append-drop n vs))
    ∙ sets_append l i (take n vs) (drop n vs)
    ∙ rest (dec_lt n (length vs))
    ∙ sets-eq (take n vs) l i (omega (arith, long))
    ∙ append_assoc (take i l) (take n vs) (drop (i + length (take n vs)) l)
    ∙ ap (λ (x : List ℕ). take i l ++ (take n vs ++ x)) (ap (λ (j : ℕ). drop (i + j) l) (long ∙ sym same) ∙ sym (drop-drop k i l))
  where
    long : length (take n vs) ≡ n
    long = length-take-le n vs (omega arith)

    from : Dec (p < length l) → sets l p vs ≡ sets l i vs
    from (yes h) = ap (λ (k : ℕ). sets l k vs) (omega arith)
    from (no h) = sets_out l p vs (omega arith) ∙ sym (sets_out l i vs (omega arith))

    rest : Dec (n < length vs) → sets (sets l i (take n vs)) (i + length (take n vs)) (drop n vs) ≡ sets l i (take n vs)
    rest (yes h) = sets_out (sets l i (take n vs)) (i + length (take n vs)) (drop n vs) (omega (arith, long, length-sets l i (take n vs)))
    rest (no h) = ap (sets (sets l i (take n vs)) (i + length (take n vs))) (drop_of_length-le vs {i = n} (omega arith))

-- where the room from a position on has got the bytes, at its front, the buffer has the bytes stored
pub copied_part : (l vs : List ℕ) (p i n : ℕ) (room : List ℕ) → i ≡ min p (length l) → n ≡ min (length vs) (length l - i)
    → room ≡ sets (take (length l - i) (drop i l)) 0 (take n vs) → put_mid i (length l - i) l room ≡ sets l p vs
copied_part l vs p i n room e d h =
    let long : length (take n vs) ≡ n = length-take-le n vs (omega arith) in
    let front : room ≡ take n vs ++ drop (length (take n vs)) (drop i l) =
    h ∙ ap (λ (x : List ℕ). sets x 0 (take n vs)) (take_rest l i) ∙ sets_front (drop i l) (take n vs) (omega (arith, long, length-drop i l)) in
    ap₂ (λ (x y : List ℕ). take i l ++ (x ++ y)) front (drop_of_length-le (drop i l) {i = length l - i} (omega (arith, length-drop i l)))
    ∙ ap (λ (x : List ℕ). take i l ++ x) (append-nil (take n vs ++ drop (length (take n vs)) (drop i l)))
    ∙ sym (copied l vs p i n (length (take n vs)) e d long)

-- one byte more at the front of a list
pub byte_more : (l vs l' : List ℕ) (i : ℕ) → i < length vs → l' ≡ sets l 0 (take i vs) → set l' i (get_or vs i 0) ≡ sets l 0 (take (i + 1) vs)
byte_more l vs l' i h e =
    let long : 0 + length (take i vs) ≡ i = omega (arith, length-take-le i vs (omega arith)) in
    ap₂ (λ (x : List ℕ) (k : ℕ). set x k (get_or vs i 0)) e (sym long)
    ∙ sym (sets_append l 0 (take i vs) (get_or vs i 0 ∷ []))
    ∙ ap (sets l 0) (sym (take-suc vs i 0 h))
    ∙ ap (λ (k : ℕ). sets l 0 (take k vs)) (sym (add-one i))

-- the same of a text
pub then : {s t u : Text} {vs ws : List ℕ} → Writes s vs t → Writes t ws u → Writes s (vs ++ ws) u
then p q = record {
  same_reference = q.same_reference ∙ p.same_reference;
  short = p.short;
  wrote = chain (omega (arith, p.short)) p.wrote q.wrote;
}

-- a text that was written to, with nothing more
pub still : {s t : Text} {vs : List ℕ} → Writes s vs t → Writes t [] t
still {s} {t} {vs} p = record {
  same_reference = refl;
  short = omega (arith, p.short, ap length p.wrote.list, length-sets s.buffer.now s.position vs);
  wrote = record { list = refl; next = omega (arith, p.wrote.next) };
}

-- what a text from the front of a buffer leaves in it
pub written : {t t' : Text} {l l' vs : List ℕ} → t.buffer.now ≡ l → t.position ≡ 0 → l' ≡ t'.buffer.now → Writes t vs t' → Wrote l 0 vs l' t'.position
written {vs = vs} b p e w = record {
  list = e ∙ w.wrote.list ∙ ap₂ (λ (m : List ℕ) (k : ℕ). sets m k vs) b p;
  next = omega (arith, w.wrote.next);
}

one_number : (x : ℕ) → numbers (x ∷ []) ≡ 32 ∷ decimal x
unfolding numbers
one_number x = append-nil (32 ∷ decimal x)

pub numbers_append : (a b : List ℕ) → numbers (a ++ b) ≡ numbers a ++ numbers b
unfolding numbers
numbers_append [] b = refl
numbers_append (x ∷ a) b = ap (λ (l : List ℕ). (32 ∷ decimal x) ++ l) (numbers_append a b) ∙ sym (append_assoc (32 ∷ decimal x) (numbers a) (numbers b))

pub numbers_one : (l : List ℕ) (i : ℕ) → i < length l → numbers (take (i + 1) l) ≡ numbers (take i l) ++ (32 ∷ decimal (get_or l i 0))
numbers_one l i h =
    ap (λ (k : ℕ). numbers (take k l)) (add-one i)
    ∙ ap numbers (take-suc l i 0 h)
    ∙ numbers_append (take i l) (get_or l i 0 ∷ [])
    ∙ ap (λ (x : List ℕ). numbers (take i l) ++ x) (one_number (get_or l i 0))

pub numbers_more : (f : ℕ → ℕ) (l : List ℕ) (x : ℕ) → numbers (map f (l ++ (x ∷ []))) ≡ numbers (map f l) ++ (32 ∷ decimal (f x))
numbers_more f l x =
    ap numbers (map_append f l (x ∷ [])) ∙ numbers_append (map f l) (f x ∷ []) ∙ ap (λ (y : List ℕ). numbers (map f l) ++ y) (one_number (f x))

pub members_yes : (f : ℕ → Bool) (v : ℕ) → T (f v) → numbers (select (v + 1) f) ≡ numbers (select v f) ++ (32 ∷ decimal v)
members_yes f v t =
    ap (λ (k : ℕ). numbers (select k f)) (add-one v)
    ∙ ap numbers (select_yes v f t)
    ∙ numbers_append (select v f) (v ∷ [])
    ∙ ap (λ (x : List ℕ). numbers (select v f) ++ x) (one_number v)

pub members_no : (f : ℕ → Bool) (v : ℕ) → T (not (f v)) → numbers (select (v + 1) f) ≡ numbers (select v f)
members_no f v t = ap (λ (k : ℕ). numbers (select k f)) (add-one v) ∙ ap numbers (select_no v f t)
