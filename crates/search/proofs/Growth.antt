-- How a row is added to a set or stored in a table, a word at a time, and how the closure of a number grows, a word of cores at a time.
--
--     NoneCommon            the loop of first_common: no number of the words before j is in both sets
--     Joining               the loop of join_row: the words before j are done
--     Storing               the loop of store_row: the words of the row before j are the set's
--     Adding                the loop of join_all: the rows of the bits that are not in w are added
--     shared, without       the numbers of word j that are in both the set and left; left without them
--     Growing               the loop of collect: the set has the rows of the numbers taken out of left
use Prim.Native.Nat.{ℕ, zero, suc, ◌+◌, ◌*◌, ◌-◌, ◌/◌, ◌%◌, ◌≤◌, ◌<◌, min, max}
use native.Mathlib.Omega.{arith}
use native.Mathlib.Nat.{le_refl, mod-lt, zero-lt-suc}
use native.Mathlib.Decide.{ℕ_discrete}
use mathlib.Core.Path.{◌≡◌, refl, sym, ap, ap₂, ◌∙◌, subst}
use mathlib.Core.Logic.{◌⊎◌, inl, inr, ⊎_elim}
use mathlib.Core.Bool.{Bool}
use mathlib.Core.List.{List, [], ◌∷◌}
use mathlib.Core.List.Memᴰ
use lib.Bits.{bit_and, bit_or, bit_xor, differ}
use lib.Dec.{T, eqb}
use lib.ListN.{length, get_or, set, length-set}
use lib.Seq.{get_or-set_same, get_or-set_other}
use Rattle.sets.specs.Below.{sum}
use Rattle.sets.specs.Bits.{bit_of, bit_at, cell, without_bit, ones_of}
use Rattle.sets.proofs.Tests.{below, eqb_of}
use Rattle.sets.proofs.Counting.{sum_le}
use Rattle.sets.proofs.Bits.{bit_of_lt, bit_at_lt, bit_of_and, bit_of_or, bit_of_xor, differ_self, differ_none, word_bit, cell_word, zeros, bit_at_zeros, bit_at_clear_same, bit_at_clear_other}
use Rattle.sets.proofs.Ascending.{Step, ones_step}
use Rattle.sets.proofs.Selecting.{mem_select}
use Rattle.search.specs.ForProofs.{FirstAt, Joined, JoinedAll, Stored, Collected}

-- ---- the first word that two sets share a bit of

-- a word with no set bits
no_bit : (w : ℕ) → ones_of w ≡ [] → (k : ℕ) → k < 64 → bit_of w k ≡ 0
unfolding ones_of
no_bit w e k h = pick (ℕ_discrete (bit_of w k) 1)
  where
    pick : Dec (bit_of w k ≡ 1) → bit_of w k ≡ 0
    pick (yes q) =
        let m = mem_select 64 (λ j. eqb (bit_of w j) 1) k h (eqb_of (bit_of w k) 1 q) in
        absurd (Memᴰ.not-nil (rw e at m))
    pick (no d) = omega (arith, d, bit_of_lt w k)

-- a bit of both sets is one of the `and` of their words
both_bit : (a b : List ℕ) (j k : ℕ) → k < 64 → min (bit_at a (j * 64 + k)) (bit_at b (j * 64 + k)) ≡ bit_of (bit_and (get_or a j 0) (get_or b j 0)) k
both_bit a b j k h = omega (arith, word_bit a j k h, word_bit b j k h, bit_of_and (get_or a j 0) (get_or b j 0) k)

-- the same, at a number by its word
both_at : (a b : List ℕ) (i : ℕ) → min (bit_at a i) (bit_at b i) ≡ bit_of (bit_and (get_or a (i / 64) 0) (get_or b (i / 64) 0)) (i % 64)
both_at a b i =
    let e : i / 64 * 64 + i % 64 ≡ i = omega arith in
    ap (λ (x : ℕ). min (bit_at a x) (bit_at b x)) (sym e) ∙ both_bit a b (i / 64) (i % 64) (mod-lt i (zero-lt-suc 63))

-- no number of the words before j is in both
abbrev pub NoneCommon : List ℕ → List ℕ → ℕ → Type 0
NoneCommon a b j = (k : ℕ) → k < j * 64 → min (bit_at a k) (bit_at b k) ≡ 0

module _ (a b : List ℕ) (j : ℕ) (none : NoneCommon a b j) where
  pub none_more : ones_of (bit_and (get_or a j 0) (get_or b j 0)) ≡ [] → NoneCommon a b (j + 1)
  none_more e k h = pick (ℕ_discrete (k / 64) j)
    where
      pick : Dec (k / 64 ≡ j) → min (bit_at a k) (bit_at b k) ≡ 0
      pick (yes q) =
          both_at a b k ∙ ap (λ (x : ℕ). bit_of (bit_and (get_or a x 0) (get_or b x 0)) (k % 64)) q
          ∙ no_bit (bit_and (get_or a j 0) (get_or b j 0)) e (k % 64) (omega arith)
      pick (no n) = none k (omega arith)

  pub common_found : j < 8 → (z w : ℕ) → ones_of (bit_and (get_or a j 0) (get_or b j 0)) ≡ z ∷ ones_of w → FirstAt a b (j * 64 + z)
  common_found h z w e = record {
    within = omega (arith, one.below);
    before = λ k q. pick k q (ℕ_discrete (k / 64) j);
    found = both_bit a b j z one.below ∙ one.here;
  }
    where
      one : Step (bit_and (get_or a j 0) (get_or b j 0)) z w
      one = ones_step _ z w e

      pick : (k : ℕ) → k < j * 64 + z → Dec (k / 64 ≡ j) → min (bit_at a k) (bit_at b k) ≡ 0
      pick k q (yes d) =
          both_at a b k ∙ ap (λ (x : ℕ). bit_of (bit_and (get_or a x 0) (get_or b x 0)) (k % 64)) d ∙ one.lower (k % 64) (omega (arith, one.below))
      pick k q (no n) = none k (omega (arith, one.below))

-- ---- a row is added to a set

-- a number's word and its place there make the number
number_split : (v : ℕ) → v / 64 * 64 + v % 64 ≡ v
number_split v = omega arith

-- the bit of a table by its word
pub cell_at : (ws : List ℕ) (u v : ℕ) → v < 512 → cell ws u v ≡ bit_of (get_or ws (u * 8 + v / 64) 0) (v % 64)
cell_at ws u v h = ap (cell ws u) (sym (number_split v)) ∙ cell_word ws u (v / 64) (v % 64) (mod-lt v (zero-lt-suc 63))

pub record Joining (table : List ℕ) (u : ℕ) (s₀ s : List ℕ) (j : ℕ) : Type 0 where
  pub size : length s ≡ 8
  pub done : (k : ℕ) → k < j → get_or s k 0 ≡ bit_or (get_or s₀ k 0) (get_or table (u * 8 + k) 0)
  pub others : (k : ℕ) → j ≤ k → get_or s k 0 ≡ get_or s₀ k 0

module _ (table : List ℕ) (u : ℕ) (s₀ : List ℕ) where
  pub joining_start : length s₀ ≡ 8 → Joining table u s₀ s₀ 0
  joining_start l = record { size = l; done = λ k h. absurd (omega arith); others = λ k h. refl }

  module _ (s : List ℕ) (j : ℕ) (now : Joining table u s₀ s j) where
    pub joining_on : j < 8 → Joining table u s₀ (set s j (bit_or (get_or s j 0) (get_or table (u * 8 + j) 0))) (j + 1)
    joining_on h = record {
      size = length-set s j w ∙ now.size;
      done = λ k q. pick k q (ℕ_discrete k j);
      others = λ k q. get_or-set_other s j k w 0 (λ e. omega arith) ∙ now.others k (omega arith);
    }
      where
        w : ℕ
        w = bit_or (get_or s j 0) (get_or table (u * 8 + j) 0)

        pick : (k : ℕ) → k < j + 1 → Dec (k ≡ j) → get_or (set s j w) k 0 ≡ bit_or (get_or s₀ k 0) (get_or table (u * 8 + k) 0)
        pick k q (yes e) =
            ap (λ (x : ℕ). get_or (set s j w) x 0) e
            ∙ get_or-set_same s j w 0 (omega (arith, now.size))
            ∙ ap (λ (x : ℕ). bit_or x (get_or table (u * 8 + j) 0)) (now.others j (le_refl j))
            ∙ ap (λ (x : ℕ). bit_or (get_or s₀ x 0) (get_or table (u * 8 + x) 0)) (sym e)
        pick k q (no n) = get_or-set_other s j k w 0 n ∙ now.done k (omega arith)

    pub joining_end : 8 ≤ j → Joined table u s₀ s
    unfolding bit_at
    joining_end h = record {
      size = now.size;
      bits = λ v l.
          ap (λ (x : ℕ). bit_of x (v % 64)) (now.done (v / 64) (omega arith))
          ∙ bit_of_or (get_or s₀ (v / 64) 0) (get_or table (u * 8 + v / 64) 0) (v % 64)
          ∙ ap (max (bit_of (get_or s₀ (v / 64) 0) (v % 64))) (sym (cell_at table u v l));
    }

-- ---- a set is stored as a row

pub record Storing (rows₀ : List ℕ) (k : ℕ) (s rows : List ℕ) (j : ℕ) : Type 0 where
  pub within : j ≤ 8
  pub size : length rows ≡ length rows₀
  pub done : (i : ℕ) → i < j → get_or rows (k * 8 + i) 0 ≡ get_or s i 0
  pub others : (i : ℕ) → (i / 8 ≡ k → ⊥) → get_or rows i 0 ≡ get_or rows₀ i 0

module _ (rows₀ : List ℕ) (k : ℕ) (s : List ℕ) where
  pub storing_start : Storing rows₀ k s rows₀ 0
  storing_start = record { within = omega arith; size = refl; done = λ i h. absurd (omega arith); others = λ i n. refl }

  module _ (rows : List ℕ) (j : ℕ) (now : Storing rows₀ k s rows j) where
    pub storing_on : j < 8 → k * 8 + 8 ≤ length rows₀ → Storing rows₀ k s (set rows (k * 8 + j) (get_or s j 0)) (j + 1)
    storing_on h l = record {
      within = omega arith;
      size = length-set rows (k * 8 + j) w ∙ now.size;
      done = λ i q. pick i q (ℕ_discrete i j);
      others = λ i n. get_or-set_other rows (k * 8 + j) i w 0 (λ e. n (omega arith)) ∙ now.others i n;
    }
      where
        w : ℕ
        w = get_or s j 0

        pick : (i : ℕ) → i < j + 1 → Dec (i ≡ j) → get_or (set rows (k * 8 + j) w) (k * 8 + i) 0 ≡ get_or s i 0
        pick i q (yes e) =
            ap (λ (x : ℕ). get_or (set rows (k * 8 + j) w) (k * 8 + x) 0) e
            ∙ get_or-set_same rows (k * 8 + j) w 0 (omega (arith, now.size))
            ∙ ap (λ (x : ℕ). get_or s x 0) (sym e)
        pick i q (no n) = get_or-set_other rows (k * 8 + j) (k * 8 + i) w 0 (λ e. n (omega arith)) ∙ now.done i (omega arith)

    pub storing_end : 8 ≤ j → Stored rows₀ k s rows
    unfolding bit_at
    storing_end h = record {
      size = now.size;
      row = λ v l. cell_at rows k v l ∙ ap (λ (x : ℕ). bit_of x (v % 64)) (now.done (v / 64) (omega arith));
      others = now.others;
    }

-- ---- the rows of a word's bits are added

pub record Adding (table : List ℕ) (word base : ℕ) (s₀ : List ℕ) (w : ℕ) (s : List ℕ) : Type 0 where
  pub size : length s ≡ 8
  pub part : (k : ℕ) → k < 64 → bit_of w k ≤ bit_of word k
  pub keeps : (v : ℕ) → v < 512 → bit_at s₀ v ≡ 1 → bit_at s v ≡ 1
  pub rows : (k v : ℕ) → k < 64 → v < 512 → bit_of word k ≡ 1 → bit_of w k ≡ 0 → cell table (base + k) v ≡ 1 → bit_at s v ≡ 1
  pub least : (f : ℕ → Bool) → ((v : ℕ) → v < 512 → bit_at s₀ v ≡ 1 → T (f v))
      → ((k v : ℕ) → k < 64 → v < 512 → bit_of word k ≡ 1 → cell table (base + k) v ≡ 1 → T (f v))
      → (v : ℕ) → v < 512 → bit_at s v ≡ 1 → T (f v)

module _ (table : List ℕ) (word base : ℕ) (s₀ : List ℕ) where
  pub adding_start : length s₀ ≡ 8 → Adding table word base s₀ word s₀
  adding_start l = record {
    size = l;
    part = λ k h. le_refl (bit_of word k);
    keeps = λ v l e. e;
    rows = λ k v a b p q r. absurd (omega arith);
    least = λ f given step. given;
  }

  module _ (w : ℕ) (s : List ℕ) (now : Adding table word base s₀ w s) where
    pub adding_on : {t w' : ℕ} {s' : List ℕ} → ones_of w ≡ t ∷ ones_of w' → Joined table (base + t) s s' → Adding table word base s₀ w' s'
    adding_on {t} {w'} {s'} e j = record {
      size = j.size;
      part = λ k a. fewer k a (ℕ_discrete k t);
      keeps = λ v l p. kept v l (now.keeps v l p);
      rows = λ k v a b p q r. pick k v a b p q r (ℕ_discrete k t);
      least = λ f given step v l p. only f given step v l p (ℕ_discrete (bit_at s v) 1);
    }
      where
        one : Step w t w'
        one = ones_step w t w' e

        fewer : (k : ℕ) → k < 64 → Dec (k ≡ t) → bit_of w' k ≤ bit_of word k
        fewer k a (yes d) = rw d (omega (arith, one.gone))
        fewer k a (no d) = omega (arith, one.same k a d, now.part k a)

        kept : (v : ℕ) → v < 512 → bit_at s v ≡ 1 → bit_at s' v ≡ 1
        kept v l p = omega (arith, j.bits v l, bit_at_lt s' v)

        pick : (k v : ℕ) → k < 64 → v < 512 → bit_of word k ≡ 1 → bit_of w' k ≡ 0 → cell table (base + k) v ≡ 1 → Dec (k ≡ t) → bit_at s' v ≡ 1
        pick k v a b p q r (yes d) =
            let c : cell table (base + t) v ≡ 1 = ap (λ (x : ℕ). cell table (base + x) v) (sym d) ∙ r in
            omega (arith, j.bits v b, c, bit_at_lt s v)
        pick k v a b p q r (no d) = kept v b (now.rows k v a b p (sym (one.same k a d) ∙ q) r)

        only : (f : ℕ → Bool) → ((v : ℕ) → v < 512 → bit_at s₀ v ≡ 1 → T (f v))
            → ((k v : ℕ) → k < 64 → v < 512 → bit_of word k ≡ 1 → cell table (base + k) v ≡ 1 → T (f v))
            → (v : ℕ) → v < 512 → bit_at s' v ≡ 1 → Dec (bit_at s v ≡ 1) → T (f v)
        only f given step v l p (yes q) = now.least f given step v l q
        only f given step v l p (no d) =
            let c : cell table (base + t) v ≡ 1 = omega (arith, j.bits v l, p, d, bit_at_lt s v) in
            step t v one.below l (omega (arith, now.part t one.below, one.here, bit_of_lt word t)) c

    pub adding_end : ones_of w ≡ [] → JoinedAll table word base s₀ s
    adding_end e = record {
      size = now.size;
      keeps = now.keeps;
      rows = λ k v a b p r. now.rows k v a b p (no_bit w e k a) r;
      least = now.least;
    }

-- ---- the numbers of one word that are in both the set and left are taken out of left

abbrev pub shared : List ℕ → List ℕ → ℕ → ℕ
shared s left j = bit_and (get_or s j 0) (get_or left j 0)

abbrev pub without : List ℕ → List ℕ → ℕ → List ℕ
without s left j = set left j (bit_xor (get_or left j 0) (shared s left j))

module _ (s left : List ℕ) (j : ℕ) (h : j < length left) where
  -- a bit of both words
  shared_bit : (k : ℕ) → k < 64 → bit_of (shared s left j) k ≡ 1 → (bit_at s (j * 64 + k) ≡ 1) × (bit_at left (j * 64 + k) ≡ 1)
  shared_bit k l e =
      let m = both_bit s left j k l ∙ e in
      (omega (arith, m, bit_at_lt s (j * 64 + k), bit_at_lt left (j * 64 + k)), omega (arith, m, bit_at_lt s (j * 64 + k), bit_at_lt left (j * 64 + k)))

  -- what is left in another word
  elsewhere : (x : ℕ) → (x / 64 ≡ j → ⊥) → bit_at (without s left j) x ≡ bit_at left x
  unfolding bit_at
  elsewhere x d = ap (λ (w : ℕ). bit_of w (x % 64)) (get_or-set_other left j (x / 64) (bit_xor (get_or left j 0) (shared s left j)) 0 d)

  -- and in this one
  left_bit : (k : ℕ) → k < 64 → bit_at (without s left j) (j * 64 + k) ≡ differ (bit_at left (j * 64 + k)) (min (bit_at s (j * 64 + k)) (bit_at left (j * 64 + k)))
  left_bit k l =
      word_bit (without s left j) j k l
      ∙ ap (λ (w : ℕ). bit_of w k) (get_or-set_same left j (bit_xor (get_or left j 0) (shared s left j)) 0 h)
      ∙ bit_of_xor (get_or left j 0) (shared s left j) k
      ∙ ap₂ differ (sym (word_bit left j k l)) (sym (both_bit s left j k l))

  here : (x : ℕ) → x / 64 ≡ j → bit_at (without s left j) x ≡ differ (bit_at left x) (min (bit_at s x) (bit_at left x))
  here x e =
      let p : j * 64 + x % 64 ≡ x = omega arith in
      subst (λ (i : ℕ). bit_at (without s left j) i ≡ differ (bit_at left i) (min (bit_at s i) (bit_at left i))) p (left_bit (x % 64) (mod-lt x (zero-lt-suc 63)))

  -- taken out if in the set, and else left
  here_in : (x : ℕ) → x / 64 ≡ j → bit_at s x ≡ 1 → bit_at (without s left j) x ≡ 0
  here_in x e p =
      let q : min (bit_at s x) (bit_at left x) ≡ bit_at left x = omega (arith, bit_at_lt left x) in
      here x e ∙ ap (differ (bit_at left x)) q ∙ differ_self (bit_at left x) (bit_at_lt left x)

  here_out : (x : ℕ) → x / 64 ≡ j → bit_at s x ≡ 0 → bit_at (without s left j) x ≡ bit_at left x
  here_out x e p =
      let q : min (bit_at s x) (bit_at left x) ≡ 0 = omega arith in
      here x e ∙ ap (differ (bit_at left x)) q ∙ differ_none (bit_at left x)

  without_le : (x : ℕ) → bit_at (without s left j) x ≤ bit_at left x
  without_le x = pick (ℕ_discrete (x / 64) j) (ℕ_discrete (bit_at s x) 1)
    where
      pick : Dec (x / 64 ≡ j) → Dec (bit_at s x ≡ 1) → bit_at (without s left j) x ≤ bit_at left x
      pick (yes e) (yes p) = omega (arith, here_in x e p)
      pick (yes e) (no p) = omega (arith, here_out x e (omega (arith, bit_at_lt s x)))
      pick (no d) p = omega (arith, elsewhere x d)

  -- a number that is out was out before, or is one of both words
  was_out : (x : ℕ) → bit_at (without s left j) x ≡ 0 → (bit_at left x ≡ 0) ⊎ ((x / 64 ≡ j) × (bit_at s x ≡ 1) × (bit_at left x ≡ 1))
  was_out x q = pick (ℕ_discrete (bit_at left x) 0) (ℕ_discrete (x / 64) j) (ℕ_discrete (bit_at s x) 1)
    where
      pick : Dec (bit_at left x ≡ 0) → Dec (x / 64 ≡ j) → Dec (bit_at s x ≡ 1) → (bit_at left x ≡ 0) ⊎ ((x / 64 ≡ j) × (bit_at s x ≡ 1) × (bit_at left x ≡ 1))
      pick (yes z) e o = inl z
      pick (no z) (yes e) (yes o) = inr (e, o, omega (arith, bit_at_lt left x))
      pick (no z) (yes e) (no o) = inl (sym (here_out x e (omega (arith, bit_at_lt s x))) ∙ q)
      pick (no z) (no d) o = inl (sym (elsewhere x d) ∙ q)

-- ---- a set grows by the rows of its numbers in left

pub sum_less : (n : ℕ) (f g : ℕ → ℕ) (i : ℕ) → i < n → ((v : ℕ) → v < n → g v ≤ f v) → g i < f i → sum n g < sum n f
unfolding sum
sum_less zero f g i h le l = absurd (omega arith)
sum_less (suc n) f g i h le l =
    ⊎_elim
    (λ e. omega (arith, sum_le n g f (λ v q. le v (omega arith)), ap f e, ap g e))
    (λ q. omega (arith, sum_less n f g i q (λ v r. le v (omega arith)) l, le n (omega arith)))
    (below h)

pub record Growing (table left₀ : List ℕ) (u : ℕ) (s left : List ℕ) : Type 0 where
  pub left_size : length left ≡ 8
  pub size : length s ≡ 8
  pub start : (v : ℕ) → v < 512 → cell table u v ≡ 1 → bit_at s v ≡ 1
  pub sub : (x : ℕ) → bit_at left x ≤ bit_at left₀ x
  pub out : (x : ℕ) → x < 512 → bit_at left₀ x ≡ 1 → bit_at left x ≡ 0 → bit_at s x ≡ 1
  pub done : (x v : ℕ) → x < 512 → v < 512 → bit_at left₀ x ≡ 1 → bit_at left x ≡ 0 → cell table x v ≡ 1 → bit_at s v ≡ 1
  pub least : (f : ℕ → Bool) → ((v : ℕ) → v < 512 → cell table u v ≡ 1 → T (f v))
      → ((x v : ℕ) → x < 512 → v < 512 → T (f x) → bit_at left₀ x ≡ 1 → cell table x v ≡ 1 → T (f v))
      → (v : ℕ) → v < 512 → bit_at s v ≡ 1 → T (f v)

-- at the start it has row u
pub growing_start : (table left : List ℕ) (u : ℕ) (s : List ℕ) → length left ≡ 8 → Joined table u (zeros 8) s → Growing table left u s left
growing_start table left u s l row = record {
  left_size = l;
  size = row.size;
  start = λ v q c. row_bit v q ∙ c;
  sub = λ x. le_refl (bit_at left x);
  out = λ x q p z. absurd (omega arith);
  done = λ x v q m p z c. absurd (omega arith);
  least = λ f given step v q p. given v q (sym (row_bit v q) ∙ p);
}
  where
    row_bit : (v : ℕ) → v < 512 → bit_at s v ≡ cell table u v
    row_bit v q = omega (arith, row.bits v q, bit_at_zeros 8 v)

-- a turn takes out the numbers of w's word that are in the set, w at least, and adds their rows
module _ (table left₀ : List ℕ) (u : ℕ) (s left : List ℕ) (now : Growing table left₀ u s left) (w : ℕ) (first : FirstAt s left w) where
  low : w / 64 < length left
  low = omega (arith, now.left_size, first.within)

  pub growing_falls : sum 512 (bit_at (without s left (w / 64))) < sum 512 (bit_at left)
  growing_falls =
      sum_less 512 (bit_at left) (bit_at (without s left (w / 64))) w first.within (λ v l. without_le s left (w / 64) low v)
      (omega (arith, first.found, bit_at_lt left w, here_in s left (w / 64) low w refl (omega (arith, first.found, bit_at_lt s w))))

  module _ (s' : List ℕ) (all : JoinedAll table (shared s left (w / 64)) (w / 64 * 64) s s') where
    pub growing_on : Growing table left₀ u s' (without s left (w / 64))
    growing_on = record {
      left_size = length-set left j (bit_xor (get_or left j 0) (shared s left j)) ∙ now.left_size;
      size = all.size;
      start = λ v l c. all.keeps v l (now.start v l c);
      sub = λ x. omega (arith, without_le s left j low x, now.sub x);
      out = λ x l p q. ⊎_elim (λ z. all.keeps x l (now.out x l p z)) (λ o. all.keeps x l o.1) (was_out s left j low x q);
      done = λ x v l m p q r. ⊎_elim (λ z. all.keeps v m (now.done x v l m p z r)) (λ o. added x v m o.0 o.1 o.2 r) (was_out s left j low x q);
      least = λ f t step.
          all.least f (now.least f t step)
          (λ k v a b e c.
          let o = shared_bit s left j low k a e in
          let x : ℕ = j * 64 + k in
          let i : x < 512 = omega (arith, first.within, a) in
          step x v i b (now.least f t step x i o.0) (omega (arith, o.1, now.sub x, bit_at_lt left₀ x)) c);
    }
      where
        j : ℕ
        j = w / 64

        left' : List ℕ
        left' = without s left j

        added : (x v : ℕ) → v < 512 → x / 64 ≡ j → bit_at s x ≡ 1 → bit_at left x ≡ 1 → cell table x v ≡ 1 → bit_at s' v ≡ 1
        added x v m e o t r =
            let i : j * 64 + x % 64 ≡ x = omega arith in
            let k : x % 64 < 64 = mod-lt x (zero-lt-suc 63) in
            all.rows (x % 64) v k m
            (sym (both_bit s left j (x % 64) k) ∙ ap (λ (y : ℕ). min (bit_at s y) (bit_at left y)) i ∙ omega (arith, o, t))
            (ap (λ (y : ℕ). cell table y v) i ∙ r)

-- no number of the set is left, out of the numbers of left₀ but u
module _ (table left₀ : List ℕ) (u : ℕ) (s left : List ℕ) (now : Growing table (without_bit left₀ u) u s left)
    (none : (k : ℕ) → k < 512 → min (bit_at s k) (bit_at left k) ≡ 0) (l₀ : length left₀ ≡ 8) (l : u < 512) where
  abbrev but : ℕ → ℕ
  but = bit_at (without_bit left₀ u)

  but_other : (v : ℕ) → (v ≡ u → ⊥) → but v ≡ bit_at left₀ v
  but_other v d = bit_at_clear_other left₀ u v d

  but_u : but u ≡ 0
  but_u = bit_at_clear_same left₀ u (let q : u / 64 < length left₀ = omega arith in q)

  rest' : (v : ℕ) → v < 512 → (v ≡ u → ⊥) → bit_at left v ≡ min (bit_at left₀ v) (1 - bit_at s v)
  rest' v q d = pick (ℕ_discrete (bit_at left v) 0) (ℕ_discrete (but v) 1)
    where
      pick : Dec (bit_at left v ≡ 0) → Dec (but v ≡ 1) → bit_at left v ≡ min (bit_at left₀ v) (1 - bit_at s v)
      pick (yes z) (yes o) = omega (arith, now.out v q o z)
      pick (yes z) (no o) = omega (arith, bit_at_lt left₀ v, but_other v d)
      pick (no z) e = omega (arith, but_other v d, bit_at_lt left₀ v, bit_at_lt left v, now.sub v, none v q)

  pub growing_end : Collected table left₀ u left s
  growing_end = record {
    size = now.size;
    start = now.start;
    closed = λ x v q m p o c. closed_at x v q m p o c (ℕ_discrete x u);
    least = λ f given step. now.least f given (λ x v q m t o c. step x v q m t (was x o (ℕ_discrete x u)) c);
    gone = omega (arith, now.sub u, but_u);
    rest = rest';
  }
    where
      closed_at : (x v : ℕ) → x < 512 → v < 512 → bit_at s x ≡ 1 → bit_at left₀ x ≡ 1 → cell table x v ≡ 1 → Dec (x ≡ u) → bit_at s v ≡ 1
      closed_at x v q m p o c (yes e) = now.start v m (ap (λ (y : ℕ). cell table y v) (sym e) ∙ c)
      closed_at x v q m p o c (no d) = now.done x v q m (but_other x d ∙ o) (omega (arith, none x q, bit_at_lt left x)) c

      was : (x : ℕ) → but x ≡ 1 → Dec (x ≡ u) → bit_at left₀ x ≡ 1
      was x o (yes e) = absurd (omega (arith, o, but_u, ap but e))
      was x o (no d) = sym (but_other x d) ∙ o
