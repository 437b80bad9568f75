-- The handsets at the least distance so far, one handset more, one word more, all words.
--
--     closest_none                         before the first handset
--     closest_same, closest_nearer         one handset more, which is as near as the nearest so far, or nearer; the check finds by itself that of one farther
--     word_more, word_end                  the handsets of a word, one more at a time
--     closest_word                         one word of a set more
use Prim.Native.Nat.{ℕ, ◌+◌, ◌-◌, ◌*◌, ◌≤◌, ◌<◌}
use native.Mathlib.Omega.{arith}
use native.Mathlib.Decide.{ℕ_discrete, dec_lt}
use mathlib.Core.Path.{◌≡◌, refl, sym, ap, ap₂, ◌∙◌, subst}
use mathlib.Core.Logic.{⊎_elim}
use mathlib.Core.Bool.{Bool, true, false, ◌&&◌, ◌||◌, and-false}
use mathlib.Core.List.{List, []}
use lib.Dec.{T, eqb, leb, ltb, eqb→eq}
use lib.ListN.{get_or}
use borrow.Author.Tests.{lt-ltb, le-ltb, le-leb, lt-leb, ne_eqb}
use Rattle.sets.specs.Below.{bit}
use Rattle.std.specs.Prelude.{Option, Some, None}
use Rattle.sets.specs.Bits.{bit_of, bit_at, with_bit, ones_of}
use Rattle.sets.proofs.Tests.{T_true, or_cases, or_right, eqb_of}
use Rattle.sets.proofs.Bits.{zeros, bit_at_zeros, bit_at_set_same, bit_at_set_other, length_with_bit, bit_of_none, word_bit}
use Rattle.sets.proofs.Ascending.{Step, ones_end}
use Rattle.nearest.specs.ForProofs.{IsLeast, is_away, Closest, also, Takes, in_word, TakesWord}

module _ (far : ℕ → ℕ) where
  least_cong : (seen other : ℕ → Bool) (least : Option ℕ) → ((v : ℕ) → v < 512 → seen v ≡ other v) → IsLeast far seen least → IsLeast far other least
  least_cong seen other None e none = λ v h. sym (e v h) ∙ none v h
  least_cong seen other (Some d) e l = record {
    attained = (l.attained.0, l.attained.1, subst T (e l.attained.0 l.attained.1) l.attained.2, l.attained.3);
    none_nearer = λ v h t. l.none_nearer v h (subst T (sym (e v h)) t);
  }

  closest_cong : (seen other : ℕ → Bool) (least : Option ℕ) (ws : List ℕ) → ((v : ℕ) → v < 512 → seen v ≡ other v) → Closest far seen least ws → Closest far other least ws
  closest_cong seen other least ws e c = record {
    size = c.size;
    bits = λ v h. c.bits v h ∙ ap (λ (b : Bool). bit (b && is_away least (far v))) (e v h);
    standing = least_cong seen other least e c.standing;
  }

  pub closest_none : (seen : ℕ → Bool) → ((v : ℕ) → v < 512 → seen v ≡ false) → Closest far seen None (zeros 8)
  closest_none seen none = record {
    size = refl;
    bits = λ v h. bit_at_zeros 8 v ∙ sym (ap (λ (b : Bool). bit (b && false)) (none v h));
    standing = none;
  }

  or_false : (b : Bool) → (b || false) ≡ b
  or_false true = refl
  or_false false = refl

  or_assoc : (a b c : Bool) → ((a || b) || c) ≡ (a || (b || c))
  or_assoc true b c = refl
  or_assoc false b c = refl

  module _ (seen : ℕ → Bool) (v : ℕ) (below : v < 512) where
    also_self : also seen v v ≡ true
    also_self = T_true (also seen v v) (or_right (seen v) (eqb v v) (eqb_of v v refl))

    also_other : (u : ℕ) → (u ≡ v → ⊥) → also seen v u ≡ seen u
    also_other u d = ap (λ (b : Bool). seen u || b) (ne_eqb u v d) ∙ or_false (seen u)

    kept : (u : ℕ) → T (also seen v u) → (x : ℕ) → (T (seen u) → x ≤ far u) → x ≤ far v → x ≤ far u
    kept u t x k h = ⊎_elim k (λ e. omega (arith, h, ap far (eqb→eq u v e))) (or_cases (seen u) (eqb u v) t)

    pub closest_same : (d : ℕ) (ws : List ℕ) → far v ≡ d → Closest far seen (Some d) ws → Closest far (also seen v) (Some d) (with_bit ws v)
    closest_same d ws e c = record {
      size = length_with_bit ws v ∙ c.size;
      bits = λ u l. pick u l (ℕ_discrete u v);
      standing = record {
        attained = (v, below, subst T (sym also_self) tt, e);
        none_nearer = λ u l t. kept u t d (c.standing.none_nearer u l) (omega (arith, e));
      };
    }
      where
        pick : (u : ℕ) → u < 512 → Dec (u ≡ v) → bit_at (with_bit ws v) u ≡ bit (also seen v u && eqb (far u) d)
        pick u l (yes q) = rw (q, also_self, T_true (eqb (far v) d) (eqb_of (far v) d e)) (bit_at_set_same ws v (omega (arith, c.size)))
        pick u l (no n) = bit_at_set_other ws v u n ∙ c.bits u l ∙ ap (λ (b : Bool). bit (b && eqb (far u) d)) (sym (also_other u n))

    -- nearer than the nearest so far, or the first
    beyond : (least : Option ℕ) → ((d : ℕ) → least ≡ Some d → far v < d) → IsLeast far seen least → (u : ℕ) → u < 512 → T (seen u) → far v < far u
    beyond None h none u l t = absurd (subst T (none u l) t)
    beyond (Some d) h s u l t = omega (arith, h d refl, s.none_nearer u l t)

    pub closest_nearer : (least : Option ℕ) (ws : List ℕ) → ((d : ℕ) → least ≡ Some d → far v < d) → Closest far seen least ws
        → Closest far (also seen v) (Some (far v)) (with_bit (zeros 8) v)
    closest_nearer least ws h c = record {
      size = length_with_bit (zeros 8) v;
      bits = λ u l. pick u l (ℕ_discrete u v);
      standing = record {
        attained = (v, below, subst T (sym also_self) tt, refl);
        none_nearer = λ u l t. kept u t (far v) (λ s. omega (arith, beyond least h c.standing u l s)) (omega arith);
      };
    }
      where
        none : (u : ℕ) → u < 512 → (b : Bool) → seen u ≡ b → (b && eqb (far u) (far v)) ≡ false
        none u l true e = ne_eqb (far u) (far v) (λ q. omega (arith, q, beyond least h c.standing u l (subst T (sym e) tt)))
        none u l false e = refl

        pick : (u : ℕ) → u < 512 → Dec (u ≡ v) → bit_at (with_bit (zeros 8) v) u ≡ bit (also seen v u && eqb (far u) (far v))
        pick u l (yes q) = rw (q, also_self, T_true (eqb (far v) (far v)) (eqb_of (far v) (far v) refl)) (bit_at_set_same (zeros 8) v (omega arith))
        pick u l (no d) =
            bit_at_set_other (zeros 8) v u d ∙ bit_at_zeros 8 u
            ∙ sym (ap bit (ap (λ (b : Bool). b && eqb (far u) (far v)) (also_other u d) ∙ none u l (seen u) refl))

  -- ---- the handsets of a word
  in_word_lem : (base w k : ℕ) → k < 64 → in_word base w (base + k) ≡ eqb (bit_of w k) 1
  unfolding in_word
  in_word_lem base w k h =
      let e : base + k - base ≡ k = omega arith in
      ap₂ (λ (b : Bool) (i : ℕ). b && eqb (bit_of w i) 1) (ap₂ ◌&&◌ (le-leb base (base + k) (omega arith)) (lt-ltb (base + k) (base + 64) (omega arith))) e

  word_same : (base w x v : ℕ) → ((k : ℕ) → k < 64 → (base + k ≡ v) → bit_of w k ≡ bit_of x k) → in_word base w v ≡ in_word base x v
  unfolding in_word
  word_same base w x v same = pick (dec_lt v base) (dec_lt v (base + 64))
    where
      pick : Dec (v < base) → Dec (v < base + 64) → in_word base w v ≡ in_word base x v
      pick (yes h) l = rw (lt-leb base v h) refl
      pick (no h) (yes l) = ap (λ (b : ℕ). (leb base v && ltb v (base + 64)) && eqb b 1) (same (v - base) (omega arith) (omega arith))
      pick (no h) (no l) = rw (le-leb base v (omega arith), le-ltb v (base + 64) (omega arith)) refl

  -- the first set bit of a word, and the rest
  word_first : (base : ℕ) {w k r : ℕ} → Step w k r → (v : ℕ) → (eqb v (base + k) || in_word base r v) ≡ in_word base w v
  word_first base {w} {k} {r} s v = pick (ℕ_discrete v (base + k))
    where
      pick : Dec (v ≡ base + k) → (eqb v (base + k) || in_word base r v) ≡ in_word base w v
      pick (yes e) =
          let on : in_word base w (base + k) ≡ true = in_word_lem base w k s.below ∙ T_true (eqb (bit_of w k) 1) (eqb_of (bit_of w k) 1 s.here) in
          rw (e, on) (ap (λ (b : Bool). b || in_word base r (base + k)) (T_true (eqb (base + k) (base + k)) (eqb_of (base + k) (base + k) refl)))
      pick (no n) = rw (ne_eqb v (base + k) n) (word_same base r w v (λ j l e. s.same j l (λ q. n (omega arith))))

  pub word_more : (base : ℕ) {w k r : ℕ} {least middle last : Option ℕ} {ws ws₁ ws' : List ℕ} → Step w k r → Takes far (base + k) least ws middle ws₁
      → TakesWord far r base middle ws₁ last ws' → TakesWord far w base least ws last ws'
  word_more base {w} {k} {r} s one others = record {
    each = λ seen c.
        closest_cong (λ v. also seen (base + k) v || in_word base r v) (λ v. seen v || in_word base w v) _ _
        (λ v h. or_assoc (seen v) (eqb v (base + k)) (in_word base r v) ∙ ap (λ (b : Bool). seen v || b) (word_first base s v))
        (others.each (also seen (base + k)) (one.each seen c));
  }

  zero_word : (base v : ℕ) → in_word base 0 v ≡ false
  unfolding in_word
  zero_word base v =
      ap (λ (x : Bool). (leb base v && ltb v (base + 64)) && x) (ne_eqb (bit_of 0 (v - base)) 1 (λ q. omega (arith, q, bit_of_none (v - base)))) ∙ and-false (leb base v && ltb v (base + 64))

  pub word_end : (base w : ℕ) (least : Option ℕ) (ws : List ℕ) → ones_of w ≡ [] → TakesWord far w base least ws least ws
  word_end base w least ws e = record {
    each = λ seen c. closest_cong seen (λ v. seen v || in_word base w v) least ws (λ v h. sym (ap (λ (b : Bool). seen v || b) (nothing v) ∙ or_false (seen v))) c;
  }
    where
      nothing : (v : ℕ) → in_word base w v ≡ false
      nothing v = word_same base w 0 v (λ k l q. ones_end w e k l ∙ sym (bit_of_none k)) ∙ zero_word base v

  -- ---- the words of a set
  module _ (set : List ℕ) where
    abbrev pub passed : ℕ → ℕ → Bool
    passed j v = ltb v (j * 64) && eqb (bit_at set v) 1

    pub passed_none : (v : ℕ) → v < 512 → passed 0 v ≡ false
    passed_none v h = ap (λ (b : Bool). b && eqb (bit_at set v) 1) (le-ltb v (0 * 64) (omega arith))

    word_passed : (j v : ℕ) → (passed j v || in_word (j * 64) (get_or set j 0) v) ≡ passed (j + 1) v
    unfolding in_word
    word_passed j v = pick (dec_lt v (j * 64)) (dec_lt v ((j + 1) * 64))
      where
        pick : Dec (v < j * 64) → Dec (v < (j + 1) * 64) → (passed j v || in_word (j * 64) (get_or set j 0) v) ≡ passed (j + 1) v
        pick (yes h) (yes l) =
            rw (lt-ltb v (j * 64) h, lt-leb (j * 64) v h, lt-ltb v ((j + 1) * 64) l) (or_false (eqb (bit_at set v) 1))
        pick (yes h) (no l) = absurd (omega arith)
        pick (no h) (yes l) =
            let k : ℕ = v - j * 64 in
            let e : j * 64 + k ≡ v = omega arith in
            let b : bit_of (get_or set j 0) k ≡ bit_at set v = sym (word_bit set j k (omega arith)) ∙ ap (bit_at set) e in
            rw (le-ltb v (j * 64) (omega arith), le-leb (j * 64) v (omega arith), lt-ltb v (j * 64 + 64) (omega arith), lt-ltb v ((j + 1) * 64) l)
            (ap (λ (x : ℕ). eqb x 1) b)
        pick (no h) (no l) =
            rw (le-ltb v (j * 64) (omega arith), le-ltb v (j * 64 + 64) (omega arith), le-ltb v ((j + 1) * 64) (omega arith), le-leb (j * 64) v (omega arith)) refl

    pub closest_word : (j : ℕ) (least : Option ℕ) (ws : List ℕ) (least' : Option ℕ) (ws' : List ℕ) → Closest far (passed j) least ws → TakesWord far (get_or set j 0) (j * 64) least ws least' ws'
        → Closest far (passed (j + 1)) least' ws'
    closest_word j least ws least' ws' c taken =
        closest_cong (λ v. passed j v || in_word (j * 64) (get_or set j 0) v) (passed (j + 1)) least' ws' (λ v h. word_passed j v) (taken.each (passed j) c)
