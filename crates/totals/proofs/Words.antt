-- The roles a word of handsets at a time: which bits the four words of a turn have, and what their ones sum up to.
--
--     all_below, some_below                the word of the handsets below a bound: all 64, or fewer
--     test ..                              the test of a role, for the handsets below n
--     WordOf ..                            a word has the handsets of 64 that pass a test
--     word_core, word_border, word_outlier, word_multiple     the four words of a turn
--     SumsTo ..                            the totals of the words passed
--     sums_none, sums_turn, sums_small     of no words; of one word more; none is above 512
--     sums_all                             of all eight
--     marked_more                          the set of outliers, one word more
--     counted_rows                         by the handsets in one row or more and in two or more, the roles are those by the rows
use Prim.Native.Nat.{ℕ, zero, suc, ◌+◌, ◌-◌, ◌*◌, ◌/◌, ◌%◌, ◌^◌, ◌≤◌, ◌<◌, min}
use native.Mathlib.Omega.{arith}
use native.Mathlib.Decide.{ℕ_discrete, dec_lt}
use native.Mathlib.Nat.{pow-suc}
use mathlib.Core.Path.{◌≡◌, refl, sym, ap, ap₂, ◌∙◌}
use mathlib.Core.Bool.{Bool, true, false, ◌&&◌, not}
use mathlib.Core.List.{List}
use lib.Bits.{bit_and, bit_xor, differ, and_le_l, xor_lt}
use lib.Count.{ones}
use lib.Dec.{eqb, leb, ltb, not_T, ltb→lt}
use lib.ListN.{length, get_or, set}
use lib.Pow.{pow_pos}
use lib.Seq.{get_or-set_same, get_or-set_other}
use borrow.Author.Tests.{lt-ltb, le-ltb, le-leb}
use Rattle.sets.specs.Below.{bit, count, sum}
use Rattle.sets.specs.Bits.{bit_of, bit_at}
use Rattle.sets.proofs.Tests.{and_left}
use Rattle.sets.proofs.Counting.{count_cong, count_sum, count_wide, count_at, sum_le, sum_const, bit_le, bit_test, test_bit}
use Rattle.sets.proofs.Bits.{bit_of_lt, bit_of_first, bit_of_half, bit_of_none, bit_of_and, bit_of_xor, word_bit, sum_word}
use Rattle.community.specs.Network.{border_of, membership_count, role_among}
use Rattle.community.specs.declared.Role.{Role}
use Rattle.rows.specs.Rows.{rows_of, MembersFound}
use Rattle.tables.specs.Plan.{role_for}
use Rattle.totals.specs.declared.Totals.{Totals}
use Rattle.totals.specs.Totals.{is_core_role, is_border, is_outlier, is_multiple, totals_of, RolesCounted}
use Rattle.totals.specs.ForProofs.{BitsBelow, with_words, TotalsAtMost, role_of, set_role, WordsCounted}
use Rattle.totals.proofs.Adding.{SameTests, totals_same}

-- ---- the word of the handsets below a bound
mask_bit : (s k : ℕ) → bit_of (2 ^ s - 1) k ≡ bit (ltb k s)
mask_bit zero k = bit_of_none k ∙ sym (ap bit (le-ltb k 0 (omega arith)))
mask_bit (suc s) zero =
    bit_of_first (2 ^ suc s - 1) ∙ (let e : (2 ^ suc s - 1) % 2 ≡ 1 = omega (arith, pow-suc 2 s, pow_pos s) in e) ∙ sym (ap bit (lt-ltb 0 (suc s) (omega arith)))
mask_bit (suc s) (suc k) =
    bit_of_half (2 ^ suc s - 1) k
    ∙ ap (λ (x : ℕ). bit_of x k) (let e : (2 ^ suc s - 1) / 2 ≡ 2 ^ s - 1 = omega (arith, pow-suc 2 s, pow_pos s) in e)
    ∙ mask_bit s k ∙ ap bit (same (dec_lt k s))
  where
    same : Dec (k < s) → ltb k s ≡ ltb (suc k) (suc s)
    same (yes h) = lt-ltb k s h ∙ sym (lt-ltb (suc k) (suc s) (omega arith))
    same (no h) = le-ltb k s (omega arith) ∙ sym (le-ltb (suc k) (suc s) (omega arith))

pub all_below : (n j : ℕ) → j * 64 + 64 ≤ n → BitsBelow n j 18446744073709551615
all_below n j h = record { bits = λ k l. mask_bit 64 k ∙ ap bit (lt-ltb k 64 l) ∙ sym (ap bit (lt-ltb (j * 64 + k) n (omega arith))) }

pub some_below : (n j w : ℕ) → w ≡ 2 ^ (n - j * 64) - 1 → BitsBelow n j w
some_below n j w e = record { bits = λ k l. ap (λ (x : ℕ). bit_of x k) e ∙ mask_bit (n - j * 64) k ∙ ap bit (same k (dec_lt k (n - j * 64))) }
  where
    same : (k : ℕ) → Dec (k < n - j * 64) → ltb k (n - j * 64) ≡ ltb (j * 64 + k) n
    same k (yes h) = lt-ltb k (n - j * 64) h ∙ sym (lt-ltb (j * 64 + k) n (omega arith))
    same k (no h) = le-ltb k (n - j * 64) (omega arith) ∙ sym (le-ltb (j * 64 + k) n (omega arith))

-- ---- the four words of a turn
and_bits : (a b : Bool) → min (bit a) (bit b) ≡ bit (a && b)
and_bits true true = refl
and_bits true false = refl
and_bits false true = refl
and_bits false false = refl

without_bits : (a b : Bool) → differ (bit a) (bit (a && b)) ≡ bit (a && not b)
without_bits true true = refl
without_bits true false = refl
without_bits false true = refl
without_bits false false = refl

abbrev pub test : (Role → Bool) → (ℕ → Role) → ℕ → ℕ → Bool
test f r n v = ltb v n && f (r v)

-- the bits of a word are those of a test from 64 j on
pub record WordOf (j : ℕ) (f : ℕ → Bool) (w : ℕ) : Type 0 where
  pub fits : w < 2 ^ 64
  pub bits : (k : ℕ) → k < 64 → bit_of w k ≡ bit (f (j * 64 + k))

word_and : (j : ℕ) (f g : ℕ → Bool) (w x : ℕ) → WordOf j f w → ((k : ℕ) → k < 64 → bit_of x k ≡ bit (g (j * 64 + k))) → WordOf j (λ v. f v && g v) (bit_and w x)
word_and j f g w x p q = record {
  fits = omega (arith, p.fits, and_le_l w x);
  bits = λ k h. bit_of_and w x k ∙ ap₂ min (p.bits k h) (q k h) ∙ and_bits (f (j * 64 + k)) (g (j * 64 + k));
}

word_without : (j : ℕ) (f g : ℕ → Bool) (w x : ℕ) → WordOf j f w → WordOf j (λ v. f v && g v) x → WordOf j (λ v. f v && not (g v)) (bit_xor w x)
word_without j f g w x p q = record {
  fits = xor_lt 64 w x p.fits q.fits;
  bits = λ k h. bit_of_xor w x k ∙ ap₂ differ (p.bits k h) (q.bits k h) ∙ without_bits (f (j * 64 + k)) (g (j * 64 + k));
}

-- a word of a set
word_set : (j : ℕ) (ws : List ℕ) (k : ℕ) → k < 64 → bit_of (get_or ws j 0) k ≡ bit (eqb (bit_at ws (j * 64 + k)) 1)
word_set j ws k h =
    sym (test_bit (bit_of (get_or ws j 0) k) (bit_of_lt (get_or ws j 0) k)) ∙ ap (λ (x : ℕ). bit (eqb x 1)) (sym (word_bit ws j k h))

word_cong : (j : ℕ) (f g : ℕ → Bool) (w : ℕ) → ((v : ℕ) → f v ≡ g v) → WordOf j f w → WordOf j g w
word_cong j f g w e p = record { fits = p.fits; bits = λ k h. p.bits k h ∙ ap bit (e (j * 64 + k)) }

role_core : (a p q r : Bool) → (a && p) ≡ (a && is_core_role (role_of p q r))
role_core a true q r = refl
role_core a false true r = refl
role_core a false false r = refl

role_border : (a p q r : Bool) → ((a && not p) && q) ≡ (a && is_border (role_of p q r))
role_border true true q r = refl
role_border true false true r = refl
role_border true false false r = refl
role_border false p q r = refl

role_outlier : (a p q r : Bool) → ((a && not p) && not q) ≡ (a && is_outlier (role_of p q r))
role_outlier true true q r = refl
role_outlier true false true r = refl
role_outlier true false false r = refl
role_outlier false p q r = refl

role_multiple : (a p q r : Bool) → (((a && not p) && q) && r) ≡ (a && is_multiple (role_of p q r))
role_multiple true true q r = refl
role_multiple true false true true = refl
role_multiple true false true false = refl
role_multiple true false false r = refl
role_multiple false p q r = refl

-- of the words of the handsets below n, of the cores, of those in one group or more and in two or more
module _ (once twice cores : List ℕ) (n j a : ℕ) (below : BitsBelow n j a) (fits : a < 2 ^ 64) where
  abbrev pub core : ℕ
  core = bit_and a (get_or cores j 0)

  abbrev pub other : ℕ
  other = bit_xor a core

  abbrev pub border : ℕ
  border = bit_and other (get_or once j 0)

  abbrev roles : ℕ → Role
  roles = set_role once twice cores

  abbrev is_in : List ℕ → ℕ → Bool
  is_in ws v = eqb (bit_at ws v) 1

  all : WordOf j (λ v. ltb v n) a
  all = record { fits = fits; bits = below.bits }

  cores_of : WordOf j (λ v. ltb v n && is_in cores v) core
  cores_of = word_and j (λ v. ltb v n) (is_in cores) a (get_or cores j 0) all (word_set j cores)

  others_of : WordOf j (λ v. ltb v n && not (is_in cores v)) other
  others_of = word_without j (λ v. ltb v n) (is_in cores) a core all cores_of

  borders_of : WordOf j (λ v. (ltb v n && not (is_in cores v)) && is_in once v) border
  borders_of = word_and j (λ v. ltb v n && not (is_in cores v)) (is_in once) other (get_or once j 0) others_of (word_set j once)

  word_core : WordOf j (test is_core_role roles n) core
  word_core = word_cong j _ (test is_core_role roles n) core (λ v. role_core (ltb v n) (is_in cores v) (is_in once v) (is_in twice v)) cores_of

  word_border : WordOf j (test is_border roles n) border
  word_border = word_cong j _ (test is_border roles n) _ (λ v. role_border (ltb v n) (is_in cores v) (is_in once v) (is_in twice v)) borders_of

  pub word_outlier : WordOf j (test is_outlier roles n) (bit_xor other border)
  word_outlier =
      word_cong j _ (test is_outlier roles n) _ (λ v. role_outlier (ltb v n) (is_in cores v) (is_in once v) (is_in twice v))
      (word_without j (λ v. ltb v n && not (is_in cores v)) (is_in once) other _ others_of borders_of)

  word_multiple : WordOf j (test is_multiple roles n) (bit_and border (get_or twice j 0))
  word_multiple =
      word_cong j _ (test is_multiple roles n) _ (λ v. role_multiple (ltb v n) (is_in cores v) (is_in once v) (is_in twice v))
      (word_and j (λ v. (ltb v n && not (is_in cores v)) && is_in once v) (is_in twice) border (get_or twice j 0) borders_of (word_set j twice))

-- ---- the totals of the words passed
abbrev passed : (ℕ → Bool) → ℕ → ℕ
passed f j = sum (j * 64) (λ v. bit (f v))

passed_small : (f : ℕ → Bool) (j : ℕ) → passed f j ≤ j * 64
passed_small f j = omega (arith, sum_le (j * 64) (λ v. bit (f v)) (λ v. 1) (λ v h. bit_le (f v)), sum_const (j * 64) 1)

passed_more : (f : ℕ → Bool) (j w : ℕ) → WordOf j f w → passed f (j + 1) ≡ passed f j + ones w
passed_more f j w p = sum_word (λ v. bit (f v)) j w p.fits (λ k h. sym (p.bits k h))

-- those below n, of all eight words
passed_all : (f : ℕ → Bool) (n : ℕ) → sum 512 (λ v. bit (ltb v n && f v)) ≡ count (min n 512) f
passed_all f n = sym (count_sum 512 (λ v. ltb v n && f v)) ∙ pick (dec_lt n 512) ∙ count_cong (min n 512) (λ v. ltb v n && f v) f (λ v h. ap (λ (b : Bool). b && f v) (lt-ltb v n (omega arith)))
  where
    pick : Dec (n < 512) → count 512 (λ v. ltb v n && f v) ≡ count (min n 512) (λ v. ltb v n && f v)
    pick (yes h) =
        count_at 512 (512 - n + n) _ (omega arith)
        ∙ count_wide n (512 - n) (λ v. ltb v n && f v)
        (λ v l. not_T (ltb v n && f v) (λ t. absurd (omega (arith, ltb→lt v n (and_left (ltb v n) (f v) t)))))
        ∙ count_at n (min n 512) _ (omega arith)
    pick (no h) = count_at 512 (min n 512) _ (omega arith)

abbrev pub SumsTo : (ℕ → Role) → ℕ → ℕ → Totals
SumsTo r n j = record {
  cores = passed (test is_core_role r n) j;
  borders = passed (test is_border r n) j;
  outliers = passed (test is_outlier r n) j;
  multiple = passed (test is_multiple r n) j;
}

pub sums_none : (r : ℕ → Role) (n : ℕ) (t : Totals) → (t.cores ≡ 0) × ((t.borders ≡ 0) × ((t.outliers ≡ 0) × (t.multiple ≡ 0))) → t ≡ SumsTo r n 0
unfolding sum
sums_none r n t e = λ i. record { cores = e.0 i; borders = e.1.0 i; outliers = e.1.1.0 i; multiple = e.1.1.1 i }

pub sums_small : (r : ℕ → Role) (n j : ℕ) → j ≤ 8 → TotalsAtMost (SumsTo r n j) 512
sums_small r n j h = record {
  cores = omega (arith, passed_small (test is_core_role r n) j);
  borders = omega (arith, passed_small (test is_border r n) j);
  outliers = omega (arith, passed_small (test is_outlier r n) j);
  multiple = omega (arith, passed_small (test is_multiple r n) j);
}

sums_more : (r : ℕ → Role) (n j a b c d : ℕ) → WordOf j (test is_core_role r n) a → WordOf j (test is_border r n) b → WordOf j (test is_outlier r n) c
    → WordOf j (test is_multiple r n) d → with_words (SumsTo r n j) a b c d ≡ SumsTo r n (j + 1)
sums_more r n j a b c d p q s t = λ i. record {
  cores = sym (passed_more (test is_core_role r n) j a p) i;
  borders = sym (passed_more (test is_border r n) j b q) i;
  outliers = sym (passed_more (test is_outlier r n) j c s) i;
  multiple = sym (passed_more (test is_multiple r n) j d t) i;
}

-- one turn: the four words' ones added
pub sums_turn : (once twice cores : List ℕ) (n j a : ℕ) (below : BitsBelow n j a) (fits : a < 2 ^ 64) (t : Totals) → t ≡ SumsTo (set_role once twice cores) n j
    → with_words t (core once twice cores n j a below fits) (border once twice cores n j a below fits)
    (bit_xor (other once twice cores n j a below fits) (border once twice cores n j a below fits))
    (bit_and (border once twice cores n j a below fits) (get_or twice j 0))
    ≡ SumsTo (set_role once twice cores) n (j + 1)
sums_turn once twice cores n j a below fits t e =
    rw e
    (sums_more (set_role once twice cores) n j _ _ _ _ (word_core once twice cores n j a below fits) (word_border once twice cores n j a below fits)
    (word_outlier once twice cores n j a below fits) (word_multiple once twice cores n j a below fits))

pub sums_all : (r : ℕ → Role) (n : ℕ) → SumsTo r n 8 ≡ totals_of (min n 512) r
unfolding totals_of
sums_all r n = λ i. record {
  cores = passed_all (λ v. is_core_role (r v)) n i;
  borders = passed_all (λ v. is_border (r v)) n i;
  outliers = passed_all (λ v. is_outlier (r v)) n i;
  multiple = passed_all (λ v. is_multiple (r v)) n i;
}

-- ---- the set of outliers, one word more
pub marked_more : (f : ℕ → Bool) (ws : List ℕ) (j w : ℕ) → j < length ws → WordOf j f w → ((v : ℕ) → v < j * 64 → bit_at ws v ≡ bit (f v))
    → (v : ℕ) → v < (j + 1) * 64 → bit_at (set ws j w) v ≡ bit (f v)
unfolding bit_at
marked_more f ws j w h p held v l = pick (ℕ_discrete (v / 64) j)
  where
    pick : Dec (v / 64 ≡ j) → bit_of (get_or (set ws j w) (v / 64) 0) (v % 64) ≡ bit (f v)
    pick (yes e) =
        ap (λ (i : ℕ). bit_of (get_or (set ws j w) i 0) (v % 64)) e ∙ ap (λ (x : ℕ). bit_of x (v % 64)) (get_or-set_same ws j w 0 h)
        ∙ p.bits (v % 64) (omega arith) ∙ ap (λ (i : ℕ). bit (f i)) (let q : j * 64 + v % 64 ≡ v = omega (arith, e) in q)
    pick (no d) = ap (λ (x : ℕ). bit_of x (v % 64)) (get_or-set_other ws j (v / 64) w 0 d) ∙ held v (omega (arith, d))

-- ---- the roles by the rows
same_border : (c : ℕ) → SameTests (role_of false (leb 1 c) (leb 2 c)) (border_of c)
same_border zero = record { core = refl; border = refl; outlier = refl; multiple = refl }
same_border (suc zero) = record { core = refl; border = refl; outlier = refl; multiple = refl }
same_border (suc (suc c)) =
    rw (le-leb 1 (suc (suc c)) (omega arith), le-leb 2 (suc (suc c)) (omega arith))
    (record { core = refl; border = refl; outlier = refl; multiple = sym (le-leb 2 (suc (suc c)) (omega arith)) })

same_roles : (core : Bool) (gs : List (List ℕ)) (v : ℕ) → SameTests (role_of core (leb 1 (membership_count v gs)) (leb 2 (membership_count v gs))) (role_among gs core v)
same_roles true gs v = record { core = refl; border = refl; outlier = refl; multiple = refl }
same_roles false gs v = same_border (membership_count v gs)

module _ (rows cores once twice : List ℕ) (k : ℕ) (found : MembersFound (rows_of rows k) once twice) where
  role_same : (v : ℕ) → v < 512 → SameTests (set_role once twice cores v) (role_for cores rows k v)
  unfolding role_for
  role_same v h =
      let one : eqb (bit_at once v) 1 ≡ leb 1 (membership_count v (rows_of rows k)) = ap (λ (b : ℕ). eqb b 1) (found.in_one.bits v h) ∙ bit_test _ in
      let two : eqb (bit_at twice v) 1 ≡ leb 2 (membership_count v (rows_of rows k)) = ap (λ (b : ℕ). eqb b 1) (found.in_two.bits v h) ∙ bit_test _ in
      rw (one, two) (same_roles (eqb (bit_at cores v) 1) (rows_of rows k) v)

  pub counted_rows : (n : ℕ) (t : Totals) (outliers : List ℕ) → WordsCounted once twice cores n t outliers → RolesCounted cores rows k n t outliers
  counted_rows n t outliers s = record {
    numbers = s.numbers ∙ totals_same (min n 512) (set_role once twice cores) (role_for cores rows k) (λ v h. role_same v (omega arith));
    marked = record { size = s.marked.size; bits = λ v h. s.marked.bits v h ∙ ap (λ (b : Bool). bit (ltb v n && b)) (role_same v h).outlier };
  }
