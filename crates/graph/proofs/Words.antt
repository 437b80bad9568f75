-- Words that hold a test, one bit a number, and sets of edges in such words. A bit is set with no regard to the others, so a word of the numbers below k that
-- pass a test becomes that of one more, and a set of words that with one more word.
--
--     word_none, word_put          an empty word, and a word with one bit more, as the code makes it; word_cong: equal tests have equal words
--     below, below_lt, _first, _rest       a word with one bit more below its own, as the code makes it
--     bit_of_past, first_word       a word has no bit from 64 on; the word whose first c bits are set, as the code makes it
--     others_word, word_own        of the numbers that a word holds, those that another does not, and those that pass a test
--     passing, failing, failing_lt a word of the edges that there are from one on: those that pass a test, and the others
--     ones_end                     a word with no set bits left
--     word_at, put_word, set_word  a word of a list, the list with one word put, and a word of a set
--     lt_or_le, one_true, bit_of_lem, bit_from     of two numbers; a bit and the test for it
--     Filtering, filtering_start, filtering_bit, filtering_on, filtering_end     the bits of a word that pass a test, gone through one after the other
--     partly, partly_start, partly_word, _other, _on, _end       a set whose words are filtered one after the other
--     filled_none, filled_more                                    a set whose words are filled one after the other
--     marked_none, marked_more     a set of handsets, filled one after the other
--     own_set, set_passes, passes_set       the edges of a set
use Prim.Native.Nat.{ℕ, zero, suc, ◌+◌, ◌*◌, ◌-◌, ◌/◌, ◌%◌, ◌^◌, ◌≤◌, ◌<◌, min}
use native.Mathlib.Omega.{arith}
use native.Mathlib.Nat.{le_refl, mod-lt, zero-lt-suc, zero-mul, div-eq_of_lt, div-div-eq-div-mul, pow-suc, pow-le-pow_right, lt_of_lt_of_le, div-le_self, lt_of_le_of_lt}
use native.Mathlib.Decide.{ℕ_discrete, dec_lt}
use mathlib.Core.Path.{◌≡◌, refl, sym, ap, ap₂, ◌∙◌, subst}
use mathlib.Core.Logic.{◌⊎◌, inl, inr, ⊎_elim}
use mathlib.Core.Bool.{Bool, true, false, ◌&&◌, ◌||◌, not, and-true}
use mathlib.Core.List.{List, []}
use lib.Dec.{T, leb, ltb, eqb, eqb→eq, leb→le, le→leb, ltb→lt, lt→ltb, T_not, not_T}
use lib.Arith.{digits_div}
use lib.Bits.{bit_or, bit_xor, differ, or_lt, xor_lt, or_zero_r}
use lib.ListN.{length, get_or, set, length-set, length-replicate}
use lib.Pow.{pow_pos, pow-add, shl_exact, ones_lt, ones_split}
use lib.Seq.{get_or-set_same, get_or-set_other}
use Rattle.std.specs.Int.{from_bool}
use Rattle.sets.specs.Below.{bit}
use Rattle.sets.specs.Bits.{bit_of, bit_at, ones_of}
use Rattle.sets.proofs.Tests.{passed_none, passed_new, passed_self, passed_other, and_right, decide, T-ext, T_true, T_false, eqb_of, and_make, and_left, or_right, or_cases}
use Rattle.sets.proofs.Counting.{bit_true, bit_false, bit_test}
use Rattle.sets.proofs.Selecting.{mem_select, mem_at}
use Rattle.sets.proofs.Ascending.{Step}
use Rattle.sets.proofs.Bits.{bit_of_lt, bit_of_none, bit_of_or, bit_of_first, bit_of_half, bit_of_set_same, bit_of_set_other, bit_of_xor, bit_at_lt, bit_at_past, bit_at_zeros, shl_one, word_bit, zeros}
use Rattle.sets.specs.Rows.{SetOf}
use Rattle.limits.specs.Limits.{edges_most}
use Rattle.graph.specs.Graph.{edge_words, EdgeSet}
use Rattle.graph.specs.ForProofs.{WordOf}

pub lt_or_le : (a b : ℕ) → (a < b) ⊎ (b ≤ a)
lt_or_le a b = pick (dec_lt a b)
  where
    pick : Dec (a < b) → (a < b) ⊎ (b ≤ a)
    pick (yes l) = inl l
    pick (no d) = inr (omega (arith, d))

pub one_true : (b : Bool) → 1 ≡ bit b → T b
one_true true e = tt
one_true false e = absurd (omega (arith, e))

-- ---- the set bits of a word
-- none is left
pub ones_end : (w : ℕ) → ones_of w ≡ [] → (i : ℕ) → i < 64 → bit_of w i ≡ 0
unfolding ones_of
ones_end w e i h = go (ℕ_discrete (bit_of w i) 1)
  where
    go : Dec (bit_of w i ≡ 1) → bit_of w i ≡ 0
    go (yes b) =
        let r = mem_at (ones_of w) 0 i (mem_select 64 (λ k. eqb (bit_of w k) 1) i h (eqb_of (bit_of w i) 1 b)) in
        absurd (omega (arith, r.1, ap length e))
    go (no d) = omega (arith, d, bit_of_lt w i)

-- ---- a word
pub word_none : (f : ℕ → Bool) → ((i : ℕ) → f i ≡ false) → WordOf 0 f
word_none f e = record { bits = λ i h. bit_of_none i ∙ sym (ap bit (e i)) }

-- bit k is put as the test g has it; no other bit differs
module _ (w k : ℕ) (f g : ℕ → Bool) (hk : k < 64) (new : T (not (f k)))
    (others : (i : ℕ) → i < 64 → (i ≡ k → ⊥) → g i ≡ f i) (t : WordOf w f) where
  on : T (g k) → (i : ℕ) → i < 64 → bit_of (bit_or w (1 * 2 ^ k % 2 ^ 64)) i ≡ bit (g i)
  on y i h = ap (λ (x : ℕ). bit_of (bit_or w x) i) (shl_one k hk) ∙ go (ℕ_discrete i k)
    where
      go : Dec (i ≡ k) → bit_of (bit_or w (2 ^ k)) i ≡ bit (g i)
      go (yes e) = ap (bit_of (bit_or w (2 ^ k))) e ∙ bit_of_set_same w k ∙ sym (ap (λ (j : ℕ). bit (g j)) e ∙ bit_true (g k) y)
      go (no d) = bit_of_set_other w k i d ∙ t.bits i h ∙ ap bit (sym (others i h d))

  off : T (not (g k)) → (i : ℕ) → i < 64 → bit_of (bit_or w (0 * 2 ^ k % 2 ^ 64)) i ≡ bit (g i)
  off n i h =
      ap (λ (x : ℕ). bit_of (bit_or w (x % 2 ^ 64)) i) (zero-mul (2 ^ k)) ∙ ap (λ (x : ℕ). bit_of x i) (or_zero_r w) ∙ t.bits i h ∙ go (ℕ_discrete i k)
    where
      go : Dec (i ≡ k) → bit (f i) ≡ bit (g i)
      go (yes e) = ap (λ (j : ℕ). bit (f j)) e ∙ bit_false (f k) new ∙ sym (ap (λ (j : ℕ). bit (g j)) e ∙ bit_false (g k) n)
      go (no d) = ap bit (sym (others i h d))

  pub word_put : (x : ℕ) → x ≡ bit (g k) → WordOf (bit_or w (x * 2 ^ k % 2 ^ 64)) g
  word_put x e = record {
    bits = λ i h.
        ⊎_elim
        (λ y. ap (λ (j : ℕ). bit_of (bit_or w (j * 2 ^ k % 2 ^ 64)) i) (e ∙ bit_true (g k) y) ∙ on y i h)
        (λ n. ap (λ (j : ℕ). bit_of (bit_or w (j * 2 ^ k % 2 ^ 64)) i) (e ∙ bit_false (g k) n) ∙ off n i h)
        (decide (g k));
  }

-- ---- a word with one bit more below its own, as the code makes it
module _ (n w b : ℕ) (h : w < 2 ^ n) (l : n < 64) (small : b < 2) where
  abbrev pub below : ℕ
  below = bit_or (w * 2 ^ 1 % 2 ^ 64) b

  doubled : w * 2 ^ 1 % 2 ^ 64 ≡ w * 2
  doubled = shl_exact {a = w} n 1 64 h (omega (arith, l))

  pub below_lt : below < 2 ^ suc n
  below_lt = rw doubled (or_lt (suc n) (w * 2) b (omega (arith, pow-suc 2 n, h)) (omega (arith, pow-suc 2 n, h, small)))

  pub below_first : bit_of below 0 ≡ b
  below_first = rw doubled (omega (arith, bit_of_or (w * 2) b 0, bit_of_first (w * 2), bit_of_first b, small))

  pub below_rest : (i : ℕ) → bit_of below (suc i) ≡ bit_of w i
  below_rest i =
      let e : w * 2 / 2 ≡ w = omega arith in
      let z : b / 2 ≡ 0 = omega (arith, small) in
      rw doubled
      (omega (arith, bit_of_or (w * 2) b (suc i), bit_of_half (w * 2) i, ap (λ (x : ℕ). bit_of x i) e, bit_of_half b i, ap (λ (x : ℕ). bit_of x i) z, bit_of_none i))

-- ---- the first bits of a word
pub bit_of_past : (w k : ℕ) → w < 2 ^ 64 → 64 ≤ k → bit_of w k ≡ 0
unfolding bit_of
bit_of_past w k h l = ap (λ (x : ℕ). x % 2) (div-eq_of_lt (lt_of_lt_of_le h (pow-le-pow_right {n = 2} (omega arith) l)))

-- bit i of the word with all bits set
all_set : (i d : ℕ) → suc d + i ≡ 64 → bit_of 18446744073709551615 i ≡ 1
unfolding bit_of
all_set i d e =
    let whole : 18446744073709551615 ≡ (2 ^ suc d - 1) * 2 ^ i + (2 ^ i - 1) = ap (λ (x : ℕ). 2 ^ x - 1) (sym e) ∙ ones_split (suc d) i in
    let half : 2 ^ suc d ≡ 2 ^ d * 2 = pow-suc 2 d in
    let some : 0 < 2 ^ d = pow_pos d in
    ap (λ (x : ℕ). x / 2 ^ i % 2) whole ∙ ap (λ (x : ℕ). x % 2) (digits_div (2 ^ suc d - 1) (ones_lt i)) ∙ omega (arith, half, some)

first_bits : (c k : ℕ) → c ≤ 64 → k < 64 → bit_of (18446744073709551615 / 2 ^ (64 - c)) k ≡ bit (ltb k c)
unfolding bit_of
first_bits c k h l =
    ap (λ (x : ℕ). x % 2) (div-div-eq-div-mul 18446744073709551615 (2 ^ (64 - c)) (2 ^ k) ∙ ap (λ (x : ℕ). 18446744073709551615 / x) (sym (pow-add 2 (64 - c) k)))
    ∙ ⊎_elim
    (λ q. all_set (64 - c + k) (63 - (64 - c + k)) (omega arith) ∙ sym (bit_true (ltb k c) (lt→ltb k c q)))
    (λ q.
    bit_of_past 18446744073709551615 (64 - c + k) (omega arith) (omega arith)
    ∙ sym (bit_false (ltb k c) (not_T (ltb k c) (λ t. omega (arith, ltb→lt k c t, q)))))
    (lt_or_le k c)

pub first_word : (c : ℕ) → c ≤ 64 → WordOf (18446744073709551615 / 2 ^ (64 - c)) (λ i. ltb i c)
first_word c h = record { bits = λ i l. first_bits c i h l }

-- of the numbers that a word holds, those that another does not
pub others_word : (w all : ℕ) (p f : ℕ → Bool) → WordOf all p → WordOf w (λ i. p i && f i) → WordOf (bit_xor w all) (λ i. p i && not (f i))
others_word w all p f a t = record { bits = λ i l. bit_of_xor w all i ∙ ap₂ differ (t.bits i l) (a.bits i l) ∙ go (p i) (f i) }
  where
    go : (a b : Bool) → differ (bit (a && b)) (bit a) ≡ bit (a && not b)
    go true true = refl
    go true false = refl
    go false b = refl

-- of the numbers that a word holds, those that pass f
pub word_own : {w x : ℕ} (p f : ℕ → Bool) → WordOf w p → WordOf x (λ i. eqb (bit_of w i) 1 && f i) → WordOf x (λ i. p i && f i)
word_own p f a t = record { bits = λ i h. t.bits i h ∙ ap (λ (b : Bool). bit (b && f i)) (ap (λ (x : ℕ). eqb x 1) (a.bits i h) ∙ bit_test (p i)) }

-- a word of n edges from b on, of the m that there are: those that pass f, and the others
module _ (b m n w : ℕ) (f : ℕ → Bool) (e : n ≡ min (m - b) 64) (t : WordOf w (λ i. ltb i n && f (b + i))) where
  there : (g : ℕ → Bool) {x : ℕ} → WordOf x (λ i. ltb i n && g (b + i)) → WordOf x (λ i. ltb (b + i) m && g (b + i))
  there g p = record {
    bits = λ i h.
        p.bits i h
        ∙ ap (λ (x : Bool). bit (x && g (b + i)))
        (T-ext (ltb i n) (ltb (b + i) m) (λ x. lt→ltb (b + i) m (omega (arith, ltb→lt i n x, e))) (λ x. lt→ltb i n (omega (arith, ltb→lt (b + i) m x, h, e))));
  }

  pub passing : WordOf w (λ i. ltb (b + i) m && f (b + i))
  passing = there f t

  abbrev pub others : ℕ
  others = bit_xor w (18446744073709551615 / 2 ^ (64 - n))

  pub failing : WordOf others (λ i. ltb (b + i) m && not (f (b + i)))
  failing = there (λ k. not (f k)) (others_word w (18446744073709551615 / 2 ^ (64 - n)) (λ i. ltb i n) (λ i. f (b + i)) (first_word n (omega (arith, e))) t)

  pub failing_lt : w < 2 ^ 64 → others < 2 ^ 64
  failing_lt h = xor_lt 64 w (18446744073709551615 / 2 ^ (64 - n)) h (lt_of_le_of_lt (div-le_self 18446744073709551615 (2 ^ (64 - n))) (omega arith))

-- ---- a list of words
pub word_at : (ws : List ℕ) (j : ℕ) (f : ℕ → Bool) → ((i : ℕ) → i < 64 → bit_at ws (j * 64 + i) ≡ bit (f (64 * j + i)))
    → WordOf (get_or ws j 0) (λ i. f (64 * j + i))
word_at ws j f e = record { bits = λ i h. sym (word_bit ws j i h) ∙ e i h }

pub put_word : (ws : List ℕ) (j w : ℕ) (f g : ℕ → Bool) → j < length ws → WordOf w (λ i. g (64 * j + i)) → ((k : ℕ) → (k / 64 ≡ j → ⊥) → g k ≡ f k)
    → (k : ℕ) → bit_at ws k ≡ bit (f k) → bit_at (set ws j w) k ≡ bit (g k)
unfolding bit_at
put_word ws j w f g h t others k e = go (ℕ_discrete (k / 64) j)
  where
    go : Dec (k / 64 ≡ j) → bit_at (set ws j w) k ≡ bit (g k)
    go (yes p) =
        let whole : 64 * j + k % 64 ≡ k = omega arith in
        ap (λ (x : ℕ). bit_of x (k % 64)) (ap (λ (x : ℕ). get_or (set ws j w) x 0) p ∙ get_or-set_same ws j w 0 h)
        ∙ t.bits (k % 64) (mod-lt k (zero-lt-suc 63)) ∙ ap (λ (x : ℕ). bit (g x)) whole
    go (no d) = ap (λ (x : ℕ). bit_of x (k % 64)) (get_or-set_other ws j (k / 64) w 0 d) ∙ e ∙ ap bit (sym (others k d))

-- the word of a set
pub set_word : {ws : List ℕ} (f : ℕ → Bool) (j : ℕ) → j < 64 → EdgeSet ws f → WordOf (get_or ws j 0) (λ i. f (64 * j + i))
set_word {ws} f j l t = word_at ws j f (λ i h. let p : j * 64 + i ≡ 64 * j + i = omega arith in ap (bit_at ws) p ∙ t.bits (64 * j + i) (omega arith))

-- ---- a bit by the test for it
pub bit_from : (b : Bool) → from_bool b ≡ bit b
bit_from true = refl
bit_from false = refl

pub bit_of_lem : (x : ℕ) → x < 2 → x ≡ bit (eqb x 1)
bit_of_lem zero h = refl
bit_of_lem (suc zero) h = refl
bit_of_lem (suc (suc x)) h = absurd (omega arith)

-- a list of words is the set of its bits
pub own_set : (ws : List ℕ) → length ws ≡ edge_words → EdgeSet ws (λ k. eqb (bit_at ws k) 1)
own_set ws e = record { size = e; bits = λ k l. bit_of_lem (bit_at ws k) (bit_at_lt ws k) }

-- ---- a word made of the set bits of another: w has those that are left, and `made` those gone through that pass f
pub record Filtering (word : ℕ) (f : ℕ → Bool) (w made : ℕ) : Type 0 where
  pub sub : (i : ℕ) → i < 64 → bit_of w i ≤ bit_of word i
  pub passed : WordOf made (λ i. (eqb (bit_of word i) 1 && not (eqb (bit_of w i) 1)) && f i)

-- a word of whose set bits one was taken has no more of them
pub step_sub : {w k v : ℕ} (word : ℕ) → Step w k v → ((i : ℕ) → i < 64 → bit_of w i ≤ bit_of word i) → (i : ℕ) → i < 64 → bit_of v i ≤ bit_of word i
step_sub {w} {k} {v} word s sub i h = go (ℕ_discrete i k)
  where
    go : Dec (i ≡ k) → bit_of v i ≤ bit_of word i
    go (yes e) = omega (arith, ap (bit_of v) e, s.gone)
    go (no d) = omega (arith, s.same i h d, sub i h)

module _ (word : ℕ) (f : ℕ → Bool) where
  -- bit i is gone through
  abbrev gone : ℕ → ℕ → Bool
  gone w i = eqb (bit_of word i) 1 && not (eqb (bit_of w i) 1)

  not_gone : (w i : ℕ) → bit_of w i ≡ 1 → gone w i ≡ false
  not_gone w i e = T_false (gone w i) (not_T (gone w i) (λ t. T_not (eqb (bit_of w i) 1) (and_right (eqb (bit_of word i) 1) (not (eqb (bit_of w i) 1)) t) (eqb_of (bit_of w i) 1 e)))

  is_gone : (w i : ℕ) → bit_of word i ≡ 1 → bit_of w i ≡ 0 → gone w i ≡ true
  is_gone w i e z = ap₂ (λ (x y : ℕ). eqb x 1 && not (eqb y 1)) e z

  pub filtering_start : {w : ℕ} → w ≡ word → Filtering word f w 0
  filtering_start e = rw e record {
    sub = λ i h. le_refl _;
    passed = word_none (λ i. gone word i && f i) (λ i. ap (λ (b : Bool). b && f i) (none (eqb (bit_of word i) 1)));
  }
    where
      none : (b : Bool) → (b && not b) ≡ false
      none true = refl
      none false = refl

  pub filtering_bit : {w k v made : ℕ} → Step w k v → Filtering word f w made → bit_of word k ≡ 1
  filtering_bit {w} {k} s r = omega (arith, r.sub k s.below, s.here, bit_of_lt word k)

  pub filtering_on : {w k v made : ℕ} (x : ℕ) → Step w k v → x ≡ bit (f k) → Filtering word f w made → Filtering word f v (bit_or made (x * 2 ^ k % 2 ^ 64))
  filtering_on {w} {k} {v} {made} x s told r = record {
    sub = step_sub word s r.sub;
    passed =
        word_put made k (λ i. gone w i && f i) (λ i. gone v i && f i) s.below
        (subst (λ (b : Bool). T (not (b && f k))) (sym (not_gone w k s.here)) tt)
        (λ i h d. ap (λ (y : ℕ). (eqb (bit_of word i) 1 && not (eqb y 1)) && f i) (s.same i h d))
        r.passed x
        (told ∙ sym (ap (λ (b : Bool). bit (b && f k)) (is_gone v k (filtering_bit s r) s.gone)));
  }

  pub filtering_end : {w made : ℕ} → ones_of w ≡ [] → Filtering word f w made → WordOf made (λ i. eqb (bit_of word i) 1 && f i)
  filtering_end {w} none r = record {
    bits = λ i h.
        r.passed.bits i h
        ∙ ap (λ (y : ℕ). bit ((eqb (bit_of word i) 1 && not (eqb y 1)) && f i)) (ones_end w none i h)
        ∙ ap (λ (b : Bool). bit (b && f i)) (and-true (eqb (bit_of word i) 1));
  }

-- ---- a set of edges whose words are made anew one after the other: the first j keep those that pass f
module _ (before : List ℕ) (f : ℕ → Bool) where
  abbrev pub partly : ℕ → ℕ → Bool
  partly j k = eqb (bit_at before k) 1 && (leb (64 * j) k || f k)

  pub partly_start : length before ≡ edge_words → EdgeSet before (partly 0)
  partly_start h = record {
    size = h;
    bits = λ k l.
        bit_of_lem (bit_at before k) (bit_at_lt before k)
        ∙ ap bit (sym (ap (λ (b : Bool). eqb (bit_at before k) 1 && (b || f k)) (T_true (leb (64 * 0) k) (le→leb (64 * 0) k (omega arith))) ∙ and-true (eqb (bit_at before k) 1)));
  }

  -- from word j on the set is as before
  pub partly_at : {ws : List ℕ} (j k : ℕ) → EdgeSet ws (partly j) → k < edges_most → 64 * j ≤ k → bit_at ws k ≡ bit_at before k
  partly_at j k t h l =
      t.bits k h
      ∙ ap bit (ap (λ (b : Bool). eqb (bit_at before k) 1 && (b || f k)) (T_true (leb (64 * j) k) (le→leb (64 * j) k l)) ∙ and-true (eqb (bit_at before k) 1))
      ∙ sym (bit_of_lem (bit_at before k) (bit_at_lt before k))

  pub partly_on : {ws : List ℕ} (j w : ℕ) → j < 64 → EdgeSet ws (partly j) → WordOf w (λ i. eqb (bit_of (get_or ws j 0) i) 1 && f (64 * j + i))
      → EdgeSet (set ws j w) (partly (j + 1))
  partly_on {ws} j w h t made = record {
    size = length-set ws j w ∙ t.size;
    bits = λ k l. put_word ws j w (partly j) (partly (j + 1)) (omega (arith, t.size)) word others k (t.bits k l);
  }
    where
      word : WordOf w (λ i. partly (j + 1) (64 * j + i))
      word = record {
        bits = λ i l.
            let p : j * 64 + i ≡ 64 * j + i = omega arith in
            made.bits i l
            ∙ ap₂ (λ (x : ℕ) (b : Bool). bit (eqb x 1 && (b || f (64 * j + i))))
            (sym (word_bit ws j i l) ∙ ap (bit_at ws) p ∙ partly_at j (64 * j + i) t (omega arith) (omega arith))
            (sym (T_false (leb (64 * (j + 1)) (64 * j + i)) (not_T (leb (64 * (j + 1)) (64 * j + i)) (λ y. omega (arith, leb→le (64 * (j + 1)) (64 * j + i) y)))));
      }

      others : (k : ℕ) → (k / 64 ≡ j → ⊥) → partly (j + 1) k ≡ partly j k
      others k d =
          ap (λ (b : Bool). eqb (bit_at before k) 1 && (b || f k))
          (T-ext (leb (64 * (j + 1)) k) (leb (64 * j) k)
          (λ y. le→leb (64 * j) k (omega (arith, leb→le (64 * (j + 1)) k y)))
          (λ y. le→leb (64 * (j + 1)) k (omega (arith, leb→le (64 * j) k y, d))))

  -- the word that is next is that of the set before
  pub partly_word : {ws : List ℕ} (j : ℕ) → j < 64 → EdgeSet ws (partly j) → WordOf (get_or ws j 0) (λ i. eqb (bit_at before (64 * j + i)) 1)
  partly_word {ws} j l t = record {
    bits = λ i h.
        let p : j * 64 + i ≡ 64 * j + i = omega arith in
        sym (word_bit ws j i h) ∙ ap (bit_at ws) p ∙ partly_at j (64 * j + i) t (omega arith) (omega arith) ∙ bit_of_lem _ (bit_at_lt before (64 * j + i));
  }

  -- those of them that do not pass
  pub partly_other : {ws : List ℕ} {w : ℕ} (j : ℕ) → j < 64 → EdgeSet ws (partly j) → WordOf w (λ i. eqb (bit_of (get_or ws j 0) i) 1 && f (64 * j + i))
      → WordOf (bit_xor w (get_or ws j 0)) (λ i. eqb (bit_at before (64 * j + i)) 1 && not (f (64 * j + i)))
  partly_other {ws} {w} j l t p =
      let own = partly_word j l t in
      others_word w (get_or ws j 0) (λ i. eqb (bit_at before (64 * j + i)) 1) (λ i. f (64 * j + i)) own
      (word_own (λ i. eqb (bit_at before (64 * j + i)) 1) (λ i. f (64 * j + i)) own p)

  pub partly_end : {ws : List ℕ} (m j : ℕ) → m ≤ 64 * j → ((k : ℕ) → bit_at before k ≡ 1 → k < m) → EdgeSet ws (partly j)
      → EdgeSet ws (λ k. eqb (bit_at before k) 1 && f k)
  partly_end m j h below t = record {
    size = t.size;
    bits = λ k l.
        t.bits k l
        ∙ ap bit (T-ext (partly j k) (eqb (bit_at before k) 1 && f k)
        (λ x.
        let y = and_left (eqb (bit_at before k) 1) (leb (64 * j) k || f k) x in
        and_make (eqb (bit_at before k) 1) (f k) y
        (⊎_elim
        (λ z. absurd (omega (arith, leb→le (64 * j) k z, below k (eqb→eq (bit_at before k) 1 y))))
        (λ z. z)
        (or_cases (leb (64 * j) k) (f k) (and_right (eqb (bit_at before k) 1) (leb (64 * j) k || f k) x))))
        (λ x.
        and_make (eqb (bit_at before k) 1) (leb (64 * j) k || f k) (and_left (eqb (bit_at before k) 1) (f k) x)
        (or_right (leb (64 * j) k) (f k) (and_right (eqb (bit_at before k) 1) (f k) x))));
  }

-- ---- a set of edges whose words are filled one after the other
pub filled_none : (f : ℕ → Bool) → EdgeSet (zeros edge_words) (λ k. ltb k (64 * 0) && f k)
filled_none f = record { size = length-replicate {A = ℕ} edge_words 0; bits = λ k h. bit_at_zeros edge_words k ∙ ap bit (sym (passed_none k (f k))) }

pub filled_more : (ws : List ℕ) (w : ℕ) (f : ℕ → Bool) (j : ℕ) → j < 64 → WordOf w (λ i. f (64 * j + i)) → EdgeSet ws (λ k. ltb k (64 * j) && f k)
    → EdgeSet (set ws j w) (λ k. ltb k (64 * (j + 1)) && f k)
filled_more ws w f j h made t = record {
  size = length-set ws j w ∙ t.size;
  bits = λ k l. put_word ws j w (λ x. ltb x (64 * j) && f x) (λ x. ltb x (64 * (j + 1)) && f x) (omega (arith, t.size)) word others k (t.bits k l);
}
  where
    word : WordOf w (λ i. ltb (64 * j + i) (64 * (j + 1)) && f (64 * j + i))
    word = record {
      bits = λ i l.
          made.bits i l
          ∙ ap (λ (b : Bool). bit (b && f (64 * j + i))) (sym (T_true (ltb (64 * j + i) (64 * (j + 1))) (lt→ltb (64 * j + i) (64 * (j + 1)) (omega arith))));
    }

    others : (k : ℕ) → (k / 64 ≡ j → ⊥) → (ltb k (64 * (j + 1)) && f k) ≡ (ltb k (64 * j) && f k)
    others k d =
        ap (λ (b : Bool). b && f k)
        (T-ext (ltb k (64 * (j + 1))) (ltb k (64 * j))
        (λ y. lt→ltb k (64 * j) (omega (arith, ltb→lt k (64 * (j + 1)) y, d)))
        (λ y. lt→ltb k (64 * (j + 1)) (omega (arith, ltb→lt k (64 * j) y))))

-- ---- a set of handsets, filled one after the other: those below u that pass g
pub marked_none : (g : ℕ → Bool) → SetOf (zeros 8) (λ v. ltb v 0 && g v)
marked_none g = record { size = length-replicate {A = ℕ} 8 0; bits = λ v h. bit_at_zeros 8 v ∙ sym (ap bit (passed_none v (g v))) }

module _ (ws : List ℕ) (u x : ℕ) (g : ℕ → Bool) (low : u < 512) (told : x ≡ bit (g u)) (t : SetOf ws (λ v. ltb v u && g v)) where
  abbrev put : ℕ
  put = bit_or (get_or ws (u / 64) 0) (x * 2 ^ (u % 64) % 2 ^ 64)

  pub marked_more : SetOf (set ws (u / 64) put) (λ v. ltb v (u + 1) && g v)
  marked_more = record {
    size = length-set ws (u / 64) put ∙ t.size;
    bits = λ v h.
        put_word ws (u / 64) put (λ v. ltb v u && g v) (λ v. ltb v (u + 1) && g v) (omega (arith, t.size)) word
        (λ y d. passed_other u y (g y) (λ e. d (ap (λ (z : ℕ). z / 64) e))) v (t.bits v h);
  }
    where
      whole : 64 * (u / 64) + u % 64 ≡ u
      whole = omega arith

      word : WordOf put (λ i. ltb (64 * (u / 64) + i) (u + 1) && g (64 * (u / 64) + i))
      word =
          word_put (get_or ws (u / 64) 0) (u % 64) (λ i. ltb (64 * (u / 64) + i) u && g (64 * (u / 64) + i))
          (λ i. ltb (64 * (u / 64) + i) (u + 1) && g (64 * (u / 64) + i)) (mod-lt u (zero-lt-suc 63))
          (rw whole (passed_new u (g u)))
          (λ i h d. passed_other u (64 * (u / 64) + i) (g (64 * (u / 64) + i)) (λ e. d (omega arith)))
          (word_at ws (u / 64) (λ v. ltb v u && g v)
          (λ i h. let p : u / 64 * 64 + i ≡ 64 * (u / 64) + i = omega arith in ap (bit_at ws) p ∙ t.bits (64 * (u / 64) + i) (omega arith)))
          x (told ∙ sym (ap (λ (v : ℕ). bit (ltb v (u + 1) && g v)) whole ∙ ap bit (passed_self u (g u))))

-- ---- what a word and a set hold
pub word_cong : {w : ℕ} (f g : ℕ → Bool) → ((i : ℕ) → i < 64 → f i ≡ g i) → WordOf w f → WordOf w g
word_cong f g e t = record { bits = λ i h. t.bits i h ∙ ap bit (e i h) }

pub set_passes : {ws : List ℕ} {f : ℕ → Bool} → EdgeSet ws f → (k : ℕ) → bit_at ws k ≡ 1 → (k < edges_most) × T (f k)
set_passes {ws} {f} t k e = (low, one_true (f k) (sym e ∙ t.bits k low))
  where
    low : k < edges_most
    low = ⊎_elim (λ y. y) (λ y. absurd (omega (arith, e, bit_at_past ws k (omega (arith, t.size, y))))) (lt_or_le k edges_most)

pub passes_set : {ws : List ℕ} {f : ℕ → Bool} → EdgeSet ws f → (k : ℕ) → k < edges_most → T (f k) → T (eqb (bit_at ws k) 1)
passes_set {ws} {f} t k h y = eqb_of (bit_at ws k) 1 (t.bits k h ∙ bit_true (f k) y)
