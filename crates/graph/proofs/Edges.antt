-- Tables without some edges, as the loops of graph make them. An edge clears the two cells of its ends and no other, so a table without some edges becomes
-- that without one more.
--
--     in_word_lem, word_in, word_in_at     the edges of a word, by their bits
--     dropped_none, dropped_one        a table without no edge, and without one; dropped_then: without some edges and then others; dropped_cong: by equal tests
--     Dropping, dropping_bit, dropping_on, dropping_end                the edges of a word, dropped one after the other
--     word_passes, passes_word         the edges of a word of a set
--     dropped_start, dropped_word      the edges of a set, dropped a word at a time
use Prim.Native.Nat.{ℕ, ◌+◌, ◌*◌, ◌-◌, ◌≤◌, ◌<◌, ◌^◌}
use native.Mathlib.Omega.{arith}
use native.Mathlib.Nat.{le_refl}
use native.Mathlib.Decide.{ℕ_discrete}
use mathlib.Core.Path.{◌≡◌, refl, sym, ap, ap₂, ◌∙◌, subst}
use mathlib.Core.Logic.{◌⊎◌, inl, inr, ⊎_elim}
use mathlib.Core.Bool.{Bool, ◌&&◌, not}
use mathlib.Core.List.{List, []}
use lib.Dec.{T, leb, ltb, eqb, leb→le, le→leb, ltb→lt, lt→ltb, eqb→eq, T_not, not_T}
use lib.ListN.{length}
use Rattle.sets.specs.Below.{bit}
use Rattle.sets.specs.Bits.{bit_of, bit_at, cell, without_bit, ones_of}
use Rattle.sets.specs.Rows.{table_words}
use Rattle.sets.proofs.Tests.{and_make, and_left, and_right, decide, eqb_of}
use Rattle.sets.proofs.Bits.{bit_of_lt, bit_at_clear_same, bit_at_clear_other, length_without_bit}
use Rattle.sets.proofs.Counting.{bit_true}
use Rattle.sets.proofs.Ascending.{Step}
use Rattle.image.specs.Image.{end_a, end_b, joins}
use Rattle.image.proofs.Edges.{joins_cases, joins_one, joins_other}
use Rattle.graph.specs.ForProofs.{WordOf, in_word, Dropped}
use Rattle.graph.proofs.Words.{lt_or_le, one_true, bit_of_past, step_sub, ones_end}

-- ---- the edges of a word
pub in_word_lem : (word base k : ℕ) → T (in_word word base k) → (base ≤ k) × (bit_of word (k - base) ≡ 1)
unfolding in_word
in_word_lem word base k t =
    (leb→le base k (and_left (leb base k) (eqb (bit_of word (k - base)) 1) t), eqb→eq (bit_of word (k - base)) 1 (and_right (leb base k) (eqb (bit_of word (k - base)) 1) t))

pub word_in : (word base k : ℕ) → base ≤ k → bit_of word (k - base) ≡ 1 → T (in_word word base k)
unfolding in_word
word_in word base k h e = and_make (leb base k) (eqb (bit_of word (k - base)) 1) (le→leb base k h) (eqb_of (bit_of word (k - base)) 1 e)

-- edge base + t by its bit
pub word_in_at : (word base t : ℕ) → bit_of word t ≡ 1 → T (in_word word base (base + t))
word_in_at word base t e =
    let p : base + t - base ≡ t = omega arith in
    word_in word base (base + t) (omega arith) (ap (bit_of word) p ∙ e)

-- ---- one edge
module _ (records : List ℕ) (k u v : ℕ) (ha : end_a records k < 512) (hb : end_b records k < 512) (hu : u < 512) (hv : v < 512) (ws : List ℕ) (long : length ws ≡ table_words) where
  abbrev first : ℕ
  first = end_a records k * 512 + end_b records k

  abbrev second : ℕ
  second = end_b records k * 512 + end_a records k

  at_second : cell (without_bit (without_bit ws first) second) (end_b records k) (end_a records k) ≡ 0
  at_second = bit_at_clear_same (without_bit ws first) second (omega (arith, length_without_bit ws first, long, ha, hb))

  at_first : cell (without_bit (without_bit ws first) second) (end_a records k) (end_b records k) ≡ 0
  at_first = go (ℕ_discrete first second)
    where
      go : Dec (first ≡ second) → bit_at (without_bit (without_bit ws first) second) first ≡ 0
      go (yes e) = ap (bit_at (without_bit (without_bit ws first) second)) e ∙ at_second
      go (no d) = bit_at_clear_other (without_bit ws first) second first d ∙ bit_at_clear_same ws first (omega (arith, long, ha, hb))

  cell_joined : T (joins records u v k) → cell (without_bit (without_bit ws first) second) u v ≡ 0
  cell_joined t =
      ⊎_elim
      (λ w. ap₂ (cell (without_bit (without_bit ws first) second)) (sym w.0) (sym w.1) ∙ at_first)
      (λ w. ap₂ (cell (without_bit (without_bit ws first) second)) (sym w.1) (sym w.0) ∙ at_second)
      (joins_cases records u v k t)

  cell_other : (T (joins records u v k) → ⊥) → cell (without_bit (without_bit ws first) second) u v ≡ cell ws u v
  cell_other n =
      bit_at_clear_other (without_bit ws first) second (u * 512 + v) (λ e. n (joins_other records u v k (omega (arith, e, ha, hb, hu, hv)) (omega (arith, e, ha, hb, hu, hv))))
      ∙ bit_at_clear_other ws first (u * 512 + v) (λ e. n (joins_one records u v k (omega (arith, e, ha, hb, hu, hv)) (omega (arith, e, ha, hb, hu, hv))))

  cell_most : cell (without_bit (without_bit ws first) second) u v ≤ cell ws u v
  cell_most =
      ⊎_elim
      (λ t. omega (arith, cell_joined t))
      (λ n. omega (arith, cell_other (λ t. T_not (joins records u v k) n t)))
      (decide (joins records u v k))

-- ---- a table without some edges
pub dropped_none : (edges ws : List ℕ) (f : ℕ → Bool) → ((k : ℕ) → T (f k) → ⊥) → Dropped edges f ws ws
dropped_none edges ws f n = record { size = refl; most = λ u v hu hv. le_refl _; out = λ u v k hu hv t j. absurd (n k t); kept = λ u v hu hv d. refl }

pub dropped_one : (edges ws : List ℕ) (k : ℕ) → end_a edges k < 512 → end_b edges k < 512 → length ws ≡ table_words
    → Dropped edges (eqb k) ws (without_bit (without_bit ws (end_a edges k * 512 + end_b edges k)) (end_b edges k * 512 + end_a edges k))
dropped_one edges ws k ha hb long = record {
  size = length_without_bit (without_bit ws (end_a edges k * 512 + end_b edges k)) (end_b edges k * 512 + end_a edges k) ∙ length_without_bit ws (end_a edges k * 512 + end_b edges k);
  most = λ u v hu hv. cell_most edges k u v ha hb hu hv ws long;
  out = λ u v i hu hv t j. cell_joined edges k u v ha hb hu hv ws long (subst (λ (x : ℕ). T (joins edges u v x)) (sym (eqb→eq k i t)) j);
  kept = λ u v hu hv n. cell_other edges k u v ha hb hu hv ws long (n k (eqb_of k k refl));
}

pub dropped_then : {edges a b c : List ℕ} (f g h : ℕ → Bool) → Dropped edges f a b → Dropped edges g b c
    → ((k : ℕ) → T (h k) → T (f k) ⊎ T (g k)) → ((k : ℕ) → T (f k) → T (h k)) → ((k : ℕ) → T (g k) → T (h k)) → Dropped edges h a c
dropped_then f g h d e split left right = record {
  size = e.size ∙ d.size;
  most = λ u v hu hv. omega (arith, d.most u v hu hv, e.most u v hu hv);
  out = λ u v k hu hv t j. ⊎_elim (λ x. omega (arith, d.out u v k hu hv x j, e.most u v hu hv)) (λ x. e.out u v k hu hv x j) (split k t);
  kept = λ u v hu hv n. e.kept u v hu hv (λ k t. n k (right k t)) ∙ d.kept u v hu hv (λ k t. n k (left k t));
}

pub dropped_cong : {edges a b : List ℕ} (f g : ℕ → Bool) → ((k : ℕ) → T (f k) → T (g k)) → ((k : ℕ) → T (g k) → T (f k)) → Dropped edges f a b
    → Dropped edges g a b
dropped_cong f g to from d = record {
  size = d.size;
  most = d.most;
  out = λ u v k hu hv t j. d.out u v k hu hv (from k t) j;
  kept = λ u v hu hv n. d.kept u v hu hv (λ k t. n k (to k t));
}

-- ---- the edges of a word, one after the other: w has those that are left
pub record Dropping (edges : List ℕ) (word base : ℕ) (before : List ℕ) (w : ℕ) (after : List ℕ) : Type 0 where
  pub sub : (i : ℕ) → i < 64 → bit_of w i ≤ bit_of word i
  pub dropped : Dropped edges (λ k. in_word word base k && not (in_word w base k)) before after

module _ (edges : List ℕ) (word base : ℕ) (before : List ℕ) where
  -- the edge of the bit taken is one of the word
  pub dropping_bit : {w t v : ℕ} {after : List ℕ} → Step w t v → Dropping edges word base before w after → T (in_word word base (base + t))
  dropping_bit {w} {t} s d = word_in_at word base t (omega (arith, d.sub t s.below, s.here, bit_of_lt word t))

  module _ (fits : word < 2 ^ 64) where
    low_in : (k : ℕ) → T (in_word word base k) → k - base < 64
    low_in k t = ⊎_elim (λ y. y) (λ y. absurd (omega (arith, (in_word_lem word base k t).1, bit_of_past word (k - base) fits y))) (lt_or_le (k - base) 64)

    pub dropping_on : {w t v : ℕ} {after : List ℕ} → Step w t v → end_a edges (base + t) < 512 → end_b edges (base + t) < 512 → length after ≡ table_words
        → Dropping edges word base before w after
        → Dropping edges word base before v
        (without_bit (without_bit after (end_a edges (base + t) * 512 + end_b edges (base + t))) (end_b edges (base + t) * 512 + end_a edges (base + t)))
    dropping_on {w} {t} {v} {after} s ha hb long d = record {
      sub = step_sub word s d.sub;
      dropped =
          dropped_then (λ k. in_word word base k && not (in_word w base k)) (eqb (base + t)) (λ k. in_word word base k && not (in_word v base k))
          d.dropped (dropped_one edges after (base + t) ha hb long)
          (λ k x.
          split k (and_left (in_word word base k) (not (in_word v base k)) x) (and_right (in_word word base k) (not (in_word v base k)) x) (ℕ_discrete (k - base) t))
          (λ k x.
          let y = and_left (in_word word base k) (not (in_word w base k)) x in
          let n = and_right (in_word word base k) (not (in_word w base k)) x in
          and_make (in_word word base k) (not (in_word v base k)) y
          (not_T (in_word v base k) (λ z. T_not (in_word w base k) n (less k y z (ℕ_discrete (k - base) t)))))
          (λ k x.
          let p : base + t ≡ k = eqb→eq (base + t) k x in
          subst (λ (i : ℕ). T (in_word word base i && not (in_word v base i))) p
          (and_make (in_word word base (base + t)) (not (in_word v base (base + t))) (dropping_bit s d)
          (not_T (in_word v base (base + t)) (λ z. none (in_word_lem v base (base + t) z).1))));
    }
      where
        less : (k : ℕ) → T (in_word word base k) → T (in_word v base k) → Dec (k - base ≡ t) → T (in_word w base k)
        less k y z (yes e) = absurd (omega (arith, (in_word_lem v base k z).1, ap (bit_of v) e, s.gone))
        less k y z (no n) = let p = in_word_lem v base k z in word_in w base k p.0 (sym (s.same (k - base) (low_in k y) n) ∙ p.1)

        none : bit_of v (base + t - base) ≡ 1 → ⊥
        none z = let p : base + t - base ≡ t = omega arith in omega (arith, z, ap (bit_of v) p, s.gone)

        split : (k : ℕ) → T (in_word word base k) → T (not (in_word v base k)) → Dec (k - base ≡ t)
            → T (in_word word base k && not (in_word w base k)) ⊎ T (eqb (base + t) k)
        split k y n (yes e) = inr (eqb_of (base + t) k (omega (arith, e, (in_word_lem word base k y).0)))
        split k y n (no e) =
            inl (and_make (in_word word base k) (not (in_word w base k)) y (not_T (in_word w base k) (λ z.
            let p = in_word_lem w base k z in T_not (in_word v base k) n (word_in v base k p.0 (s.same (k - base) (low_in k y) e ∙ p.1)))))

    pub dropping_end : {w : ℕ} {after : List ℕ} → ones_of w ≡ [] → Dropping edges word base before w after → Dropped edges (in_word word base) before after
    dropping_end {w} none d =
        dropped_cong (λ k. in_word word base k && not (in_word w base k)) (in_word word base)
        (λ k t. and_left (in_word word base k) (not (in_word w base k)) t)
        (λ k t. and_make (in_word word base k) (not (in_word w base k)) t (not_T (in_word w base k) (λ y.
        absurd (omega (arith, (in_word_lem w base k y).1, ones_end w none (k - base) (low_in k t))))))
        d.dropped

-- ---- the edges of the words of a set
module _ (w j : ℕ) (f : ℕ → Bool) (h : w < 2 ^ 64) (t : WordOf w (λ i. f (64 * j + i))) where
  pub word_passes : (k : ℕ) → T (in_word w (64 * j) k) → (64 * j ≤ k) × (k < 64 * (j + 1)) × T (f k)
  word_passes k x = (p.0, omega (arith, low, p.0), one_true (f k) (sym p.1 ∙ t.bits (k - 64 * j) low ∙ ap (λ (i : ℕ). bit (f i)) at))
    where
      p : (64 * j ≤ k) × (bit_of w (k - 64 * j) ≡ 1)
      p = in_word_lem w (64 * j) k x

      low : k - 64 * j < 64
      low = ⊎_elim (λ y. y) (λ y. absurd (omega (arith, p.1, bit_of_past w (k - 64 * j) h y))) (lt_or_le (k - 64 * j) 64)

      at : 64 * j + (k - 64 * j) ≡ k
      at = omega (arith, p.0)

  pub passes_word : (k : ℕ) → 64 * j ≤ k → k < 64 * (j + 1) → T (f k) → T (in_word w (64 * j) k)
  passes_word k l q y =
      let at : 64 * j + (k - 64 * j) ≡ k = omega arith in
      word_in w (64 * j) k l (t.bits (k - 64 * j) (omega arith) ∙ ap (λ (i : ℕ). bit (f i)) at ∙ bit_true (f k) y)

  -- a table without the edges of the first j words, and without those of one more
  pub dropped_word : {edges a b c : List ℕ} → Dropped edges (λ k. ltb k (64 * j) && f k) a b → Dropped edges (in_word w (64 * j)) b c
      → Dropped edges (λ k. ltb k (64 * (j + 1)) && f k) a c
  dropped_word d e =
      dropped_then (λ k. ltb k (64 * j) && f k) (in_word w (64 * j)) (λ k. ltb k (64 * (j + 1)) && f k) d e
      (λ k x.
      let q = ltb→lt k (64 * (j + 1)) (and_left (ltb k (64 * (j + 1))) (f k) x) in
      let y = and_right (ltb k (64 * (j + 1))) (f k) x in
      ⊎_elim (λ l. inl (and_make (ltb k (64 * j)) (f k) (lt→ltb k (64 * j) l) y)) (λ l. inr (passes_word k l q y)) (lt_or_le k (64 * j)))
      (λ k x.
      and_make (ltb k (64 * (j + 1))) (f k)
      (lt→ltb k (64 * (j + 1)) (omega (arith, ltb→lt k (64 * j) (and_left (ltb k (64 * j)) (f k) x)))) (and_right (ltb k (64 * j)) (f k) x))
      (λ k x. let p = word_passes k x in and_make (ltb k (64 * (j + 1))) (f k) (lt→ltb k (64 * (j + 1)) p.1) p.2)

pub dropped_start : (edges ws : List ℕ) (f : ℕ → Bool) → Dropped edges (λ k. ltb k (64 * 0) && f k) ws ws
dropped_start edges ws f = dropped_none edges ws (λ k. ltb k (64 * 0) && f k) (λ k t. absurd (omega (arith, ltb→lt k (64 * 0) (and_left (ltb k (64 * 0)) (f k) t))))
