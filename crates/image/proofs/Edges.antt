-- Tables of edges as the reader makes them. An edge sets the two cells of its ends and no other, so a table of the first k edges becomes that of one more.
--
--     joins_cases, joins_one, joins_other     the ends of an edge, either way round
--     selves_none, selves_more     each handset with itself: none, and one more; selves_new: it is not there before
--     linked_none, linked_more     the table of no edge, and of one edge more
--     second_new                   where the first cell of an edge is not set, the second is not either
--     fault_a, fault_b, fault_cell  what an edge's fault is: an end that is no handset, or a first cell that is set
--     added_no, added_yes          what adding the edges tells, where an edge is at fault and where none is
use Prim.Native.Nat.{ℕ, ◌+◌, ◌*◌, ◌<◌, ◌≤◌}
use native.Mathlib.Omega.{arith}
use native.Mathlib.Numerals.{add-one}
use native.Mathlib.Decide.{ℕ_discrete}
use mathlib.Core.Path.{◌≡◌, refl, sym, ap, ap₂, ◌∙◌, subst}
use mathlib.Core.Logic.{◌⊎◌, inl, inr, ⊎_elim}
use mathlib.Core.Bool.{Bool, true, false, ◌&&◌, ◌||◌, not, or-false}
use Rattle.std.proofs.Math.Bool.{and-false}
use mathlib.Core.List.{List}
use lib.Dec.{T, ltb, eqb, ltb→lt, lt→ltb, eqb→eq, eqb_refl, T_not, not_T}
use lib.ListN.{length}
use Rattle.std.specs.Prelude.{Some, None}
use Rattle.sets.specs.Below.{any, bit}
use Rattle.sets.specs.Bits.{bit_at, cell, with_bit}
use Rattle.sets.proofs.Tests.{and_make, and_left, and_right, or_left, or_right, or_cases, or_comm, T_true, T_false, T-ext, any_cong, eqb_of, eqb_not, passed_none, passed_other}
use Rattle.sets.proofs.Counting.{bit_true, bit_false}
use Rattle.sets.proofs.Bits.{bit_at_set_same, bit_at_set_other, length_with_bit}
use Rattle.image.specs.Image.{end_a, end_b, joins}
use Rattle.image.specs.Questions.{bad_end, is_loop, repeats_earlier}
use Rattle.sets.specs.Rows.{Table, Counted}
use Rattle.image.specs.Rows.{Cleared}
use Rattle.image.specs.ForProofs.{linked, faulty, Added}
use Rattle.image.proofs.Rows.{cleared_bit, table_cong, table_has}
use Rattle.image.proofs.Scanning.{first_found, first_ended}

-- ---- the ends of an edge, either way round
pub joins_cases : (records : List ℕ) (u v k : ℕ) → T (joins records u v k)
    → ((end_a records k ≡ u) × (end_b records k ≡ v)) ⊎ ((end_a records k ≡ v) × (end_b records k ≡ u))
unfolding joins
joins_cases records u v k t =
    ⊎_elim
    (λ x. inl (eqb→eq (end_a records k) u (and_left (eqb (end_a records k) u) (eqb (end_b records k) v) x), eqb→eq (end_b records k) v (and_right (eqb (end_a records k) u) (eqb (end_b records k) v) x)))
    (λ x. inr (eqb→eq (end_a records k) v (and_left (eqb (end_a records k) v) (eqb (end_b records k) u) x), eqb→eq (end_b records k) u (and_right (eqb (end_a records k) v) (eqb (end_b records k) u) x)))
    (or_cases (eqb (end_a records k) u && eqb (end_b records k) v) (eqb (end_a records k) v && eqb (end_b records k) u) t)

pub joins_one : (records : List ℕ) (u v k : ℕ) → end_a records k ≡ u → end_b records k ≡ v → T (joins records u v k)
unfolding joins
joins_one records u v k p q =
    or_left (eqb (end_a records k) u && eqb (end_b records k) v) (eqb (end_a records k) v && eqb (end_b records k) u)
    (and_make (eqb (end_a records k) u) (eqb (end_b records k) v) (eqb_of (end_a records k) u p) (eqb_of (end_b records k) v q))

pub joins_other : (records : List ℕ) (u v k : ℕ) → end_a records k ≡ v → end_b records k ≡ u → T (joins records u v k)
unfolding joins
joins_other records u v k p q =
    or_right (eqb (end_a records k) u && eqb (end_b records k) v) (eqb (end_a records k) v && eqb (end_b records k) u)
    (and_make (eqb (end_a records k) v) (eqb (end_b records k) u) (eqb_of (end_a records k) v p) (eqb_of (end_b records k) u q))

pub joins_comm : (records : List ℕ) (u v k : ℕ) → joins records u v k ≡ joins records v u k
unfolding joins
joins_comm records u v k = or_comm (eqb (end_a records k) u && eqb (end_b records k) v) (eqb (end_a records k) v && eqb (end_b records k) u)

-- ---- both cells of an edge
module _ (records : List ℕ) (k u v : ℕ) (ha : end_a records k < 512) (hb : end_b records k < 512) (hu : u < 512) (hv : v < 512) where
  abbrev first : ℕ
  first = end_a records k * 512 + end_b records k

  abbrev second : ℕ
  second = end_b records k * 512 + end_a records k

  at_first : u * 512 + v ≡ first → T (joins records u v k)
  at_first e = joins_one records u v k (omega (arith, e)) (omega (arith, e))

  at_second : u * 512 + v ≡ second → T (joins records u v k)
  at_second e = joins_other records u v k (omega (arith, e)) (omega (arith, e))

  elsewhere : (u * 512 + v ≡ first → ⊥) → (u * 512 + v ≡ second → ⊥) → joins records u v k ≡ false
  elsewhere d p =
      T_false (joins records u v k) (not_T (joins records u v k) (λ t.
      ⊎_elim
      (λ w. d (ap₂ (λ (i j : ℕ). i * 512 + j) (sym w.0) (sym w.1)))
      (λ w. p (ap₂ (λ (i j : ℕ). i * 512 + j) (sym w.1) (sym w.0)))
      (joins_cases records u v k t)))

  cell_both : (rows : List ℕ) (x : Bool) → length rows ≡ 4096 → cell rows u v ≡ bit x → cell (with_bit (with_bit rows first) second) u v ≡ bit (joins records u v k || x)
  cell_both rows x long e = pick (ℕ_discrete (u * 512 + v) second) (ℕ_discrete (u * 512 + v) first)
    where
      on : T (joins records u v k) → 1 ≡ bit (joins records u v k || x)
      on t = sym (bit_true (joins records u v k || x) (or_left (joins records u v k) x t))

      pick : Dec (u * 512 + v ≡ second) → Dec (u * 512 + v ≡ first) → cell (with_bit (with_bit rows first) second) u v ≡ bit (joins records u v k || x)
      pick (yes p) d =
          ap (bit_at (with_bit (with_bit rows first) second)) p
          ∙ bit_at_set_same (with_bit rows first) second (omega (arith, length_with_bit rows first))
          ∙ on (at_second p)
      pick (no p) (yes d) =
          bit_at_set_other (with_bit rows first) second (u * 512 + v) p
          ∙ ap (bit_at (with_bit rows first)) d
          ∙ bit_at_set_same rows first (omega arith)
          ∙ on (at_first d)
      pick (no p) (no d) =
          bit_at_set_other (with_bit rows first) second (u * 512 + v) p
          ∙ bit_at_set_other rows first (u * 512 + v) d
          ∙ e
          ∙ ap (λ (y : Bool). bit (y || x)) (sym (elsewhere d p))

-- ---- each handset with itself
pub selves_none : {rows sizes : List ℕ} → Cleared rows sizes → Table rows (λ u v. ltb u 0 && eqb u v)
selves_none e = record { bits = λ u v h l. cleared_bit e (u * 512 + v) ∙ ap bit (sym (passed_none u (eqb u v))) }

pub selves_more : (rows : List ℕ) (k : ℕ) → k < 512 → length rows ≡ 4096 → Table rows (λ u v. ltb u k && eqb u v) → Table (with_bit rows (k * 512 + k)) (λ u v. ltb u (k + 1) && eqb u v)
selves_more rows k hk long t = record { bits = λ u v h l. go u v h l (ℕ_discrete (u * 512 + v) (k * 512 + k)) }
  where
    kept : (u v : ℕ) → v < 512 → (u * 512 + v ≡ (k * 512 + k) → ⊥) → Dec (u ≡ k) → (ltb u k && eqb u v) ≡ (ltb u (k + 1) && eqb u v)
    kept u v l d (no e) = sym (passed_other k u (eqb u v) e)
    kept u v l d (yes e) =
        let n : T (not (eqb u v)) = eqb_not u v (λ q. d (omega arith)) in
        T-ext (ltb u k && eqb u v) (ltb u (k + 1) && eqb u v)
        (λ x. absurd (T_not (eqb u v) n (and_right (ltb u k) (eqb u v) x)))
        (λ x. absurd (T_not (eqb u v) n (and_right (ltb u (k + 1)) (eqb u v) x)))

    go : (u v : ℕ) → u < 512 → v < 512 → Dec (u * 512 + v ≡ (k * 512 + k)) → cell (with_bit rows (k * 512 + k)) u v ≡ bit (ltb u (k + 1) && eqb u v)
    go u v h l (yes e) =
        let p : u < k + 1 = omega arith in
        let q : u ≡ v = omega arith in
        ap (bit_at (with_bit rows (k * 512 + k))) e ∙ bit_at_set_same rows (k * 512 + k) (omega arith)
        ∙ sym (bit_true (ltb u (k + 1) && eqb u v) (and_make (ltb u (k + 1)) (eqb u v) (lt→ltb u (k + 1) p) (eqb_of u v q)))
    go u v h l (no d) = bit_at_set_other rows (k * 512 + k) (u * 512 + v) d ∙ t.bits u v h l ∙ ap bit (kept u v l d (ℕ_discrete u k))

pub selves_new : (rows : List ℕ) (k : ℕ) → k < 512 → Table rows (λ u v. ltb u k && eqb u v) → cell rows k k ≡ 0
selves_new rows k h t =
    t.bits k k h h ∙ bit_false (ltb k k && eqb k k) (not_T (ltb k k && eqb k k) (λ x. omega (arith, ltb→lt k k (and_left (ltb k k) (eqb k k) x))))

-- ---- the table of the first k edges
pub linked_none : (n : ℕ) (edges : List ℕ) {rows : List ℕ} → Table rows (λ u v. ltb u n && eqb u v) → Table rows (linked n edges 0)
unfolding linked any
linked_none n edges t = table_cong (λ u v. ltb u n && eqb u v) (linked n edges 0) (λ u v h l. sym (or-false (ltb u n && eqb u v))) t

or_swap : (a b c : Bool) → (a || (b || c)) ≡ (b || (a || c))
or_swap true true c = refl
or_swap true false c = refl
or_swap false b c = refl

module _ (n : ℕ) (edges : List ℕ) (k : ℕ) where
  pub linked_more : {rows : List ℕ} → end_a edges k < 512 → end_b edges k < 512 → length rows ≡ 4096 → Table rows (linked n edges k)
      → Table (with_bit (with_bit rows (end_a edges k * 512 + end_b edges k)) (end_b edges k * 512 + end_a edges k)) (linked n edges (k + 1))
  unfolding linked any
  linked_more {rows} ha hb long t = record {
    bits = λ u v hu hv.
        cell_both edges k u v ha hb hu hv rows (linked n edges k u v) long (t.bits u v hu hv)
        ∙ ap bit (or_swap (joins edges u v k) (ltb u n && eqb u v) (any k (joins edges u v)) ∙ sym (ap (λ (j : ℕ). linked n edges j u v) (add-one k)));
  }

  -- the ends of an edge are linked before it just where it is a loop or a repeat
  linked_fault : end_a edges k < n → linked n edges k (end_a edges k) (end_b edges k) ≡ (is_loop edges k || repeats_earlier edges k)
  unfolding linked is_loop repeats_earlier
  linked_fault h = ap (λ (b : Bool). (b && eqb (end_a edges k) (end_b edges k)) || any k (joins edges (end_a edges k) (end_b edges k))) (T_true (ltb (end_a edges k) n) (lt→ltb (end_a edges k) n h))

  linked_comm : (u v : ℕ) → linked n edges k u v ≡ linked n edges k v u
  unfolding linked
  linked_comm u v = ap₂ ◌||◌ (T-ext (ltb u n && eqb u v) (ltb v n && eqb v u) (turn u v) (turn v u)) (any_swap k)
    where
      turn : (a b : ℕ) → T (ltb a n && eqb a b) → T (ltb b n && eqb b a)
      turn a b t =
          let e : a ≡ b = eqb→eq a b (and_right (ltb a n) (eqb a b) t) in
          and_make (ltb b n) (eqb b a) (subst (λ (x : ℕ). T (ltb x n)) e (and_left (ltb a n) (eqb a b) t)) (eqb_of b a (sym e))

      any_swap : (i : ℕ) → any i (joins edges u v) ≡ any i (joins edges v u)
      any_swap i = any_cong i (joins edges u v) (joins edges v u) (λ j h. joins_comm edges u v j)

  linked_self : (u : ℕ) → u < n → T (linked n edges k u u)
  unfolding linked
  linked_self u h = or_left (ltb u n && eqb u u) (any k (joins edges u u)) (and_make (ltb u n) (eqb u u) (lt→ltb u n h) (eqb_refl u))

  -- where u and v are not linked, v and u are not either, also once the first cell is marked
  pub second_new : {rows : List ℕ} → Table rows (linked n edges k) → (u v : ℕ) → u < n → u < 512 → v < 512 → cell rows u v ≡ 0
      → cell (with_bit rows (u * 512 + v)) v u ≡ 0
  second_new {rows} t u v h hu hv z =
      let other : u ≡ v → ⊥ =
      λ e. let one = t.bits u u hu hu ∙ bit_true (linked n edges k u u) (linked_self u h) in
      let same : cell rows u u ≡ cell rows u v = ap (cell rows u) e in omega (arith, one, same, z) in
      bit_at_set_other rows (u * 512 + v) (v * 512 + u) (λ e. other (omega arith))
      ∙ t.bits v u hv hu ∙ ap bit (linked_comm v u) ∙ sym (t.bits u v hu hv) ∙ z

  -- what an edge's fault is where its ends are handsets
  fault_linked : bad_end edges n k ≡ false → end_a edges k < n → faulty edges n k ≡ linked n edges k (end_a edges k) (end_b edges k)
  unfolding faulty
  fault_linked e h = ap (λ (b : Bool). b || (is_loop edges k || repeats_earlier edges k)) e ∙ sym (linked_fault h)

-- ---- an edge with the ends u and v, after k edges
module _ (n : ℕ) (edges : List ℕ) (k : ℕ) {rows : List ℕ} (t : Table rows (linked n edges k)) (u v : ℕ) (eu : u ≡ end_a edges k) (ev : v ≡ end_b edges k) where
  -- an end that is no handset is a fault
  pub fault_a : n ≤ u → faulty edges n k ≡ true
  unfolding faulty bad_end
  fault_a h = rw (← eu, T_false (ltb u n) (not_T (ltb u n) (λ x. omega (arith, ltb→lt u n x))))

  pub fault_b : n ≤ v → faulty edges n k ≡ true
  unfolding faulty bad_end
  fault_b h = rw (← ev, T_false (ltb v n) (not_T (ltb v n) (λ x. omega (arith, ltb→lt v n x))), and-false)

  module _ (n_limit : n ≤ 512) (hu : u < n) (hv : v < n) where
    no_bad_end : bad_end edges n k ≡ false
    unfolding bad_end
    no_bad_end = rw (← eu, ← ev, T_true (ltb u n) (lt→ltb u n hu), T_true (ltb v n) (lt→ltb v n hv))

    -- and else the edge is at fault where its first cell is set
    pub fault_cell : faulty edges n k ≡ eqb (cell rows u v) 1
    fault_cell =
        fault_linked n edges k no_bad_end (omega (arith, eu, hu))
        ∙ sym (table_has (linked n edges k) t u v (omega arith) (omega arith) ∙ ap₂ (linked n edges k) eu ev)

    -- the rows with both its cells set
    pub table_more : length rows ≡ 4096 → Table (with_bit (with_bit rows (u * 512 + v)) (v * 512 + u)) (linked n edges (k + 1))
    table_more long = rw (eu, ev) (linked_more n edges k (omega arith) (omega arith) long t)

-- ---- what adding the edges tells
module _ (edges : List ℕ) (n m k : ℕ) (none : T (not (any k (faulty edges n)))) where
  pub added_no : (rows sizes : List ℕ) → k < m → faulty edges n k ≡ true → Added edges n m (Some k) rows sizes
  added_no rows sizes h e = record {
    first = first_found m (faulty edges n) k h none e;
    table = λ l. absurd cc;
    counted = λ l. absurd cc;
  }

  pub added_yes : {rows sizes : List ℕ} → k ≡ m → Table rows (linked n edges k) → Counted rows sizes → Added edges n m None rows sizes
  added_yes {rows} {sizes} e t c = record {
    first = first_ended m (faulty edges n) k e none;
    table = λ l. subst (λ (j : ℕ). Table rows (linked n edges j)) e t;
    counted = λ l. c;
  }
