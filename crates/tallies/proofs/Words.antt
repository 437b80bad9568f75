-- The words of the handsets, 64 groups at a time: each row that is marked adds its bit to the words of its members. And tables where the bits of a word are added one
-- by one, the lowest first.
--
--     where_is                      a place is before a word's 64, one of them, or past them
--     bit_for_at, _of, _before, _past, _le              a bit by its place; it is at most 1
--     bit_for_first, _gone, _rest, _end                 the first set bit of a word; the rest of the word has the others that it had; a word with no set bit
--     raised_more                   a table where the bits of a word are added, one bit more
--     marked_more, marked_end       the words where the bits of a word are marked, one bit more and none left
--     up_to row j                    a row, up to its word j: row_none, row_more, row_next, row_all; row_short: it has no more than eight
--     row_bit                       a bit of a row, by its members
--     words_none, words_next        the words of the first rows, one row more
use Prim.Native.Nat.{ℕ, zero, suc, ◌+◌, ◌*◌, ◌-◌, ◌/◌, ◌%◌, ◌≤◌, ◌<◌, max}
use native.Mathlib.Omega.{arith}
use native.Mathlib.Decide.{ℕ_discrete, dec_lt}
use mathlib.Core.Path.{◌≡◌, refl, sym, ap, ap₂, ◌∙◌}
use mathlib.Core.Logic.{◌⊎◌, inl, inr, ⊎_elim}
use mathlib.Core.Bool.{Bool, true, false, ◌&&◌, cond, and-false}
use mathlib.Core.List.{List, []}
use lib.Dec.{eqb, leb, ltb}
use lib.ListN.{length, get_or, set, take, drop, replicate}
use lib.Seq.{get_or-set_same, get_or-set_other, get_or-take, get_or-drop}
use borrow.Author.Tests.{lt-ltb, le-ltb, le-leb, lt-leb, eq-eqb, ne_eqb}
use Rattle.sets.specs.Below.{bit}
use Rattle.sets.specs.Bits.{bit_of, bit_at, cell, with_bit, ones_of}
use Rattle.sets.proofs.Bits.{bit_of_lt, bit_at_lt, bit_at_set_same, bit_at_set_other, bit_at_past, bit_at_zeros, word_bit}
use Rattle.sets.proofs.Ascending.{Step, ones_end}
use Rattle.sets.proofs.Counting.{bit_le, test_bit}
use Rattle.sets.proofs.Tests.{three}
use Rattle.community.specs.Network.{contains}
use Rattle.rows.specs.Rows.{row_members, row_words}
use Rattle.rows.proofs.Rows.{contains_row}
use Rattle.std.proofs.Common.{length-take}
use Rattle.tallies.specs.ForProofs.{bit_for, WordMarked, RowMarked, WordsHold}

-- ---- the bits of a word, added to a table

-- a place is before the word's 64, one of them, or past them
pub where_is : (base i : ℕ) → (i < base) ⊎ (((k : ℕ) × (k < 64) × (i ≡ base + k)) ⊎ (base + 64 ≤ i))
where_is base i = pick (dec_lt i base) (dec_lt i (base + 64))
  where
    pick : Dec (i < base) → Dec (i < base + 64) → (i < base) ⊎ (((k : ℕ) × (k < 64) × (i ≡ base + k)) ⊎ (base + 64 ≤ i))
    pick (yes h) l = inl h
    pick (no h) (yes l) = inr (inl (i - base, omega arith, omega arith))
    pick (no h) (no l) = inr (inr (omega arith))

pub bit_for_before : (base w i : ℕ) → i < base → bit_for base w i ≡ 0
unfolding bit_for
bit_for_before base w i h = ap (λ (b : Bool). cond (b && ltb i (base + 64)) (bit_of w (i - base)) 0) (lt-leb base i h)

pub bit_for_past : (base w i : ℕ) → base + 64 ≤ i → bit_for base w i ≡ 0
unfolding bit_for
bit_for_past base w i h =
    ap (λ (b : Bool). cond (leb base i && b) (bit_of w (i - base)) 0) (le-ltb i (base + 64) h)
    ∙ ap (λ (b : Bool). cond b (bit_of w (i - base)) 0) (and-false (leb base i))

pub bit_for_at : (base w k : ℕ) → k < 64 → bit_for base w (base + k) ≡ bit_of w k
unfolding bit_for
bit_for_at base w k h =
    ap₂ (λ (a b : Bool). cond (a && b) (bit_of w ((base + k) - base)) 0) (le-leb base (base + k) (omega arith)) (lt-ltb (base + k) (base + 64) (omega arith))
    ∙ ap (bit_of w) (let e : (base + k) - base ≡ k = omega arith in e)

pub bit_for_of : (base w i k : ℕ) → k < 64 → i ≡ base + k → bit_for base w i ≡ bit_of w k
bit_for_of base w i k h e = ap (bit_for base w) e ∙ bit_for_at base w k h

pub bit_for_le : (base w i : ℕ) → bit_for base w i ≤ 1
bit_for_le base w i =
    ⊎_elim (λ h. omega (arith, bit_for_before base w i h))
    (⊎_elim (λ p. omega (arith, bit_for_of base w i p.0 p.1 p.2, bit_of_lt w p.0)) (λ h. omega (arith, bit_for_past base w i h)))
    (where_is base i)

-- the first set bit of a word, and the rest of the word
pub bit_for_first : (base : ℕ) {w k r : ℕ} → Step w k r → bit_for base w (base + k) ≡ 1
bit_for_first base {w} {k} s = bit_for_at base w k s.below ∙ s.here

pub bit_for_gone : (base : ℕ) {w k r : ℕ} → Step w k r → bit_for base r (base + k) ≡ 0
bit_for_gone base {w} {k} {r} s = bit_for_at base r k s.below ∙ s.gone

pub bit_for_rest : (base : ℕ) {w k r : ℕ} → Step w k r → (i : ℕ) → (i ≡ base + k → ⊥) → bit_for base r i ≡ bit_for base w i
bit_for_rest base {w} {k} {r} s i n =
    ⊎_elim (λ l. bit_for_before base r i l ∙ sym (bit_for_before base w i l))
    (⊎_elim
    (λ p. bit_for_of base r i p.0 p.1 p.2 ∙ s.same p.0 p.1 (λ e. n (omega arith)) ∙ sym (bit_for_of base w i p.0 p.1 p.2))
    (λ l. bit_for_past base r i l ∙ sym (bit_for_past base w i l)))
    (where_is base i)

pub bit_for_end : (base w : ℕ) → ones_of w ≡ [] → (i : ℕ) → bit_for base w i ≡ 0
bit_for_end base w e i =
    ⊎_elim (bit_for_before base w i)
    (⊎_elim (λ p. bit_for_of base w i p.0 p.1 p.2 ∙ ones_end w e p.0 p.1) (bit_for_past base w i))
    (where_is base i)

pub raised_more : (ts : List ℕ) (base : ℕ) {w k r : ℕ} → Step w k r → base + k < length ts
    → (i : ℕ) → get_or (set ts (base + k) (get_or ts (base + k) 0 + 1)) i 0 + bit_for base r i ≡ get_or ts i 0 + bit_for base w i
raised_more ts base {w} {k} {r} s room i = pick (ℕ_discrete i (base + k))
  where
    pick : Dec (i ≡ base + k) → get_or (set ts (base + k) (get_or ts (base + k) 0 + 1)) i 0 + bit_for base r i ≡ get_or ts i 0 + bit_for base w i
    pick (yes e) = rw e (omega (arith, get_or-set_same ts (base + k) (get_or ts (base + k) 0 + 1) 0 room, bit_for_first base s, bit_for_gone base s))
    pick (no n) = ap₂ ◌+◌ (get_or-set_other ts (base + k) i (get_or ts (base + k) 0 + 1) 0 n) (bit_for_rest base s i n)

-- ---- the words of the handsets

pub marked_more : (ws : List ℕ) (base i : ℕ) {w k r : ℕ} → Step w k r → i < 64 → base + k < length ws → (v j : ℕ) → j < 64
    → max (bit_at (with_bit ws ((base + k) * 64 + i)) (v * 64 + j)) (bit (eqb j i) * bit_for base r v) ≡ max (bit_at ws (v * 64 + j)) (bit (eqb j i) * bit_for base w v)
marked_more ws base i {w} {k} {r} s q room v j l = pick (ℕ_discrete v (base + k)) (ℕ_discrete j i)
  where
    pick : Dec (v ≡ base + k) → Dec (j ≡ i)
        → max (bit_at (with_bit ws ((base + k) * 64 + i)) (v * 64 + j)) (bit (eqb j i) * bit_for base r v) ≡ max (bit_at ws (v * 64 + j)) (bit (eqb j i) * bit_for base w v)
    pick (yes d) (yes e) =
        let new : bit_at (with_bit ws ((base + k) * 64 + i)) ((base + k) * 64 + i) ≡ 1 = bit_at_set_same ws ((base + k) * 64 + i) (omega (arith, room, q)) in
        let one : bit (eqb i i) ≡ 1 = ap bit (eq-eqb i i refl) in
        rw (d, e, new, one, bit_for_gone base s, bit_for_first base s) (omega (arith, bit_at_lt ws ((base + k) * 64 + i)))
    pick (yes d) (no e) =
        let none : bit (eqb j i) ≡ 0 = ap bit (ne_eqb j i e) in
        rw (none, bit_at_set_other ws ((base + k) * 64 + i) (v * 64 + j) (λ p. e (omega (arith, p, d, l, q)))) (omega arith)
    pick (no d) e = ap₂ max (bit_at_set_other ws ((base + k) * 64 + i) (v * 64 + j) (λ p. d (omega (arith, p, l, q)))) (ap (λ (x : ℕ). bit (eqb j i) * x) (bit_for_rest base s v d))

pub marked_end : {word base i : ℕ} (w : ℕ) {ws₀ ws : List ℕ} → ones_of w ≡ [] → length ws ≡ length ws₀
    → ((v j : ℕ) → j < 64 → max (bit_at ws (v * 64 + j)) (bit (eqb j i) * bit_for base w v) ≡ max (bit_at ws₀ (v * 64 + j)) (bit (eqb j i) * bit_for base word v))
    → WordMarked word base i ws₀ ws
marked_end {word} {base} {i} w {ws₀} {ws} e size held = record {
  size = size;
  bits = λ v j l. let h = held v j l in let z = rw (bit_for_end base w e v) at h in omega (arith, z);
}

-- a row, up to its word j
abbrev pub up_to : List ℕ → ℕ → ℕ → ℕ
up_to row j v = cond (ltb v (j * 64)) (bit_at row v) 0

pub row_none : (row : List ℕ) (y x v : ℕ) → y ≡ max y (x * up_to row 0 v)
row_none row y x v = omega arith ∙ sym (ap (λ (b : Bool). max y (x * cond b (bit_at row v) 0)) (le-ltb v (0 * 64) (omega arith)))

-- one word more
pub row_more : (row : List ℕ) (j v : ℕ) → up_to row j v + bit_for (j * 64) (get_or row j 0) v ≡ up_to row (j + 1) v
row_more row j v =
    ⊎_elim
    (λ h. ap₂ ◌+◌ (ap (λ (b : Bool). cond b (bit_at row v) 0) (lt-ltb v (j * 64) h)) (bit_for_before (j * 64) (get_or row j 0) v h) ∙ omega arith
    ∙ sym (ap (λ (b : Bool). cond b (bit_at row v) 0) (lt-ltb v ((j + 1) * 64) (omega (arith, h)))))
    (⊎_elim
    (λ p. ap₂ ◌+◌ (ap (λ (b : Bool). cond b (bit_at row v) 0) (le-ltb v (j * 64) (omega (arith, p.2))))
    (bit_for_of (j * 64) (get_or row j 0) v p.0 p.1 p.2 ∙ sym (word_bit row j p.0 p.1) ∙ ap (bit_at row) (sym p.2)) ∙ omega arith
    ∙ sym (ap (λ (b : Bool). cond b (bit_at row v) 0) (lt-ltb v ((j + 1) * 64) (omega (arith, p.1, p.2)))))
    (λ h. ap₂ ◌+◌ (ap (λ (b : Bool). cond b (bit_at row v) 0) (le-ltb v (j * 64) (omega (arith, h)))) (bit_for_past (j * 64) (get_or row j 0) v h) ∙ omega arith
    ∙ sym (ap (λ (b : Bool). cond b (bit_at row v) 0) (le-ltb v ((j + 1) * 64) (omega (arith, h))))))
    (where_is (j * 64) v)

pub up_to_le : (row : List ℕ) (j v : ℕ) → up_to row j v ≤ 1
up_to_le row j v = pick (ltb v (j * 64))
  where
    pick : (b : Bool) → cond b (bit_at row v) 0 ≤ 1
    pick true = omega (arith, bit_at_lt row v)
    pick false = omega arith

-- no bit is in both
row_either : (row : List ℕ) (j v : ℕ) → max (up_to row j v) (bit_for (j * 64) (get_or row j 0) v) ≡ up_to row (j + 1) v
row_either row j v = omega (arith, row_more row j v, up_to_le row (j + 1) v)

max_times : (x b c d : ℕ) → x ≤ 1 → max (max b (x * c)) (x * d) ≡ max b (x * max c d)
max_times zero b c d h = omega arith
max_times (suc zero) b c d h = omega arith
max_times (suc (suc x)) b c d h = absurd (omega arith)

pub row_next : (row ws₀ ws ws' : List ℕ) (i j : ℕ) → ((v k : ℕ) → v < 512 → k < 64 → bit_at ws (v * 64 + k) ≡ max (bit_at ws₀ (v * 64 + k)) (bit (eqb k i) * up_to row j v))
    → WordMarked (get_or row j 0) (j * 64) i ws ws' → (v k : ℕ) → v < 512 → k < 64 → bit_at ws' (v * 64 + k) ≡ max (bit_at ws₀ (v * 64 + k)) (bit (eqb k i) * up_to row (j + 1) v)
row_next row ws₀ ws ws' i j held marked v k h l =
    marked.bits v k l ∙ ap (λ (x : ℕ). max x (bit (eqb k i) * bit_for (j * 64) (get_or row j 0) v)) (held v k h l)
    ∙ max_times (bit (eqb k i)) (bit_at ws₀ (v * 64 + k)) (up_to row j v) (bit_for (j * 64) (get_or row j 0) v) (bit_le (eqb k i))
    ∙ ap (λ (x : ℕ). max (bit_at ws₀ (v * 64 + k)) (bit (eqb k i) * x)) (row_either row j v)

pub row_all : (row : List ℕ) (j v : ℕ) → length row ≤ j → up_to row j v ≡ bit_at row v
row_all row j v past = pick (dec_lt v (j * 64))
  where
    pick : Dec (v < j * 64) → up_to row j v ≡ bit_at row v
    pick (yes l) = ap (λ (b : Bool). cond b (bit_at row v) 0) (lt-ltb v (j * 64) l)
    pick (no l) = ap (λ (b : Bool). cond b (bit_at row v) 0) (le-ltb v (j * 64) (omega arith)) ∙ sym (bit_at_past row v (omega arith))

pub row_short : (rows : List ℕ) (k : ℕ) → length (row_words rows k) ≤ 8
unfolding row_words
row_short rows k = omega (arith, length-take 8 (drop (8 * k) rows))

abbrev pub in_rows : List ℕ → ℕ → ℕ → ℕ → ℕ → Bool
in_rows rows first count i v = ltb i count && contains v (row_members rows (first + i))

pub words_none : (rows : List ℕ) (first : ℕ) → WordsHold (in_rows rows first 0) (replicate 512 0)
words_none rows first = record {
  size = lib.ListN.length-replicate {A = ℕ} 512 0;
  bits = λ v i h l. bit_at_zeros 512 (v * 64 + i) ∙ sym (ap (λ (b : Bool). bit (b && contains v (row_members rows (first + i)))) (le-ltb i 0 (omega arith)));
}

-- a bit of a row, by its members
row_cell : (rows : List ℕ) (k v : ℕ) → v < 512 → bit_at (row_words rows k) v ≡ cell rows k v
unfolding bit_at row_words
row_cell rows k v h =
    ap (λ (w : ℕ). bit_of w (v % 64)) (get_or-take 8 (drop (8 * k) rows) (v / 64) 0 (omega (arith, h)) ∙ get_or-drop (8 * k) rows (v / 64) 0)
    ∙ ap₂ (λ (i j : ℕ). bit_of (get_or rows i 0) j) (let p : 8 * k + v / 64 ≡ (k * 512 + v) / 64 = omega arith in p) (let p : v % 64 ≡ (k * 512 + v) % 64 = omega arith in p)

pub row_bit : (rows row : List ℕ) (k v : ℕ) → row ≡ row_words rows k → v < 512 → bit_at row v ≡ bit (contains v (row_members rows k))
row_bit rows row k v e h =
    ap (λ (r : List ℕ). bit_at r v) e ∙ row_cell rows k v h
    ∙ sym (test_bit (cell rows k v) (bit_at_lt rows (k * 512 + v))) ∙ ap bit (sym (contains_row rows k v h))

pub words_next : (rows row ws ws' : List ℕ) (first i : ℕ) → row ≡ row_words rows (first + i)
    → WordsHold (in_rows rows first i) ws → RowMarked row i ws ws' → WordsHold (in_rows rows first (i + 1)) ws'
words_next rows row ws ws' first i same held marked = record {
  size = marked.size ∙ held.size;
  bits = λ v j h l.
      marked.bits v j h l ∙ ap₂ (λ (x y : ℕ). max x (bit (eqb j i) * y)) (held.bits v j h l) (row_bit rows row (first + i) v same h) ∙ step v j (three j i);
}
  where
    step : (v j : ℕ) → (j ≡ i) ⊎ ((j < i) ⊎ (i < j))
        → max (bit (in_rows rows first i j v)) (bit (eqb j i) * bit (contains v (row_members rows (first + i)))) ≡ bit (in_rows rows first (i + 1) j v)
    step v j (inl e) =
        let f : ℕ → Bool = λ k. contains v (row_members rows (first + k)) in
        ap₂ (λ (a b : Bool). max (bit (a && f j)) (bit b * bit (f i))) (le-ltb j i (omega (arith, e))) (eq-eqb j i e)
        ∙ (let z : max 0 (1 * bit (f i)) ≡ bit (f i) = omega arith in z) ∙ ap (λ (k : ℕ). bit (f k)) (sym e)
        ∙ sym (ap (λ (b : Bool). bit (b && f j)) (lt-ltb j (i + 1) (omega (arith, e))))
    step v j (inr (inl h)) =
        let f : ℕ → Bool = λ k. contains v (row_members rows (first + k)) in
        ap₂ (λ (a b : Bool). max (bit (a && f j)) (bit b * bit (f i))) (lt-ltb j i h) (ne_eqb j i (λ e. omega (arith, e, h)))
        ∙ (let z : max (bit (f j)) (0 * bit (f i)) ≡ bit (f j) = omega arith in z)
        ∙ sym (ap (λ (b : Bool). bit (b && f j)) (lt-ltb j (i + 1) (omega (arith, h))))
    step v j (inr (inr h)) =
        let f : ℕ → Bool = λ k. contains v (row_members rows (first + k)) in
        ap₂ (λ (a b : Bool). max (bit (a && f j)) (bit b * bit (f i))) (le-ltb j i (omega (arith, h))) (ne_eqb j i (λ e. omega (arith, e, h)))
        ∙ (let z : max 0 (0 * bit (f i)) ≡ 0 = omega arith in z)
        ∙ sym (ap (λ (b : Bool). bit (b && f j)) (le-ltb j (i + 1) (omega (arith, h))))
