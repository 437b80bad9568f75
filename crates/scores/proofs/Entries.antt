-- Laws of the entries counted into a table: a table of multiplicities makes the tally.
--
--     listed              the entries of a list that question 13 passes, for at most 512 handsets
--     counted             such entries counted: the table of multiplicities
--     entries_no, entries_yes     question 13, by the first bad entry
--     entries_good        a list of at most 512 entries, all below n, passes question 13
--     table_le            no place holds more than 512
--     ties_of, leaves      what one edge adds to t, and whether it adds to o, by a table; ties_le: at most 512 * 512
--     joined_none, leaving_none, joined_more, leaving_more     no edge, and one more; joined_le, leaving_le: how much the first edges make
--     table_tally         the counts by a table of multiplicities are the tally over the edges
use Rattle.std.specs.Prelude.{Err, Ok, Some, None}
use Prim.Native.Nat.{ℕ, zero, suc, ◌+◌, ◌*◌, ◌≤◌, ◌<◌}
use native.Mathlib.Omega.{arith}
use native.Mathlib.Numerals.{add-one}
use native.Mathlib.Decide.{dec_lt}
use native.Mathlib.Nat.{mul-le-mul}
use mathlib.Core.Path.{◌≡◌, refl, sym, ap, ap₂, ◌∙◌}
use mathlib.Core.Logic.{◌⊎◌, inl, inr, ⊎_elim}
use mathlib.Core.Bool.{Bool, true, false, ◌&&◌, not, cond}
use mathlib.Core.List.{List}
use lib.Dec.{T, leb, eqb, not_T, le→leb, leb→le}
use lib.ListN.{length, get_or, get_or-eq_default}
use lib.Seq.{take_all}
use Rattle.sets.specs.Below.{any, count, sum, bit, first}
use Rattle.sets.proofs.Tests.{or_left, or_right, or_cases, not_any, none_any, eqb_not, T_true, T_false}
use Rattle.sets.proofs.Counting.{count_cong, count_le, count_more, sum_cong}
use Rattle.sets.specs.Entries.{multiplicity, EntriesCounted}
use Rattle.sets.proofs.Entries.{multiplicity_le, multiplicity_none}
use Rattle.image.specs.Image.{end_a, end_b}
use Rattle.image.proofs.Scanning.{first_some, first_nothing}
use Rattle.community.specs.Network.{contains}
use Rattle.community.specs.Scores.{pairs, just_one}
use Rattle.community.proofs.Multiplicities.{multiplicity_contains}
use Rattle.scores.specs.Scored.{bad_entry, ask_entries}
use Rattle.scores.specs.ForProofs.{tally_at, GoodEntries, Multiplicities, joined_sum, leaving_sum}
use Rattle.scores.specs.declared.Tally.{Tally}

some_bad : (n : ℕ) (l : List ℕ) (i : ℕ) → (n ≤ get_or l i 0) ⊎ (512 ≤ i) → T (bad_entry n l i)
unfolding bad_entry
some_bad n l i w =
    ⊎_elim (λ h. or_left (leb n (get_or l i 0)) (leb 512 i) (le→leb n (get_or l i 0) h)) (λ h. or_right (leb n (get_or l i 0)) (leb 512 i) (le→leb 512 i h)) w

module _ (n : ℕ) (l : List ℕ) (few : n ≤ 512) (t : T (not (any (length l) (bad_entry n l)))) where
  not_bad : (i : ℕ) → i < length l → (n ≤ get_or l i 0) ⊎ (512 ≤ i) → ⊥
  not_bad i h w = not_any (length l) (bad_entry n l) i t h (some_bad n l i w)

  is_short : Dec (512 < length l) → length l ≤ 512
  is_short (yes h) = absurd (not_bad 512 h (inr (omega arith)))
  is_short (no h) = omega arith

  is_low : (i : ℕ) → i < length l → Dec (get_or l i 0 < 512) → get_or l i 0 < 512
  is_low i h (yes k) = k
  is_low i h (no k) = absurd (not_bad i h (inl (omega arith)))

  pub listed : GoodEntries l
  listed = record { short = is_short (dec_lt 512 (length l)); low = λ i h. is_low i h (dec_lt (get_or l i 0) 512) }

pub counted : (l table : List ℕ) → GoodEntries l → EntriesCounted l table → Multiplicities table l
counted l table a c = record { held = λ v. pick v (dec_lt v 512) }
  where
    none : (v i : ℕ) → 512 ≤ v → i < length l → T (not (eqb v (get_or l i 0)))
    none v i h k = eqb_not v (get_or l i 0) (λ e. omega (arith, a.low i k))

    pick : (v : ℕ) → Dec (v < 512) → get_or table v 0 ≡ multiplicity l v
    pick v (yes h) = c.counts v h ∙ ap (λ (k : List ℕ). multiplicity k v) (take_all 65535 l (omega (arith, a.short)))
    pick v (no h) = get_or-eq_default table 0 (omega (arith, c.size)) ∙ sym (multiplicity_none l v (λ i k. none v i (omega arith) k))

pub table_le : (l table : List ℕ) → GoodEntries l → Multiplicities table l → (v : ℕ) → get_or table v 0 ≤ 512
table_le l table a m v = omega (arith, m.held v, multiplicity_le l v, a.short)

-- ---- question 13, by the first bad entry

module _ (n : ℕ) (l : List ℕ) (t : Tally) where
  pub entries_no : (r : ℕ) → Some r ≡ first (length l) (bad_entry n l) → Err (record { number = 13; place = r }) ≡ ask_entries n l t
  unfolding ask_entries
  entries_no r e = let f = first_some (length l) (bad_entry n l) r (sym e) in rw (T_true (any (length l) (bad_entry n l)) f.0, f.1)

  pub entries_yes : None ≡ first (length l) (bad_entry n l) → Ok t ≡ ask_entries n l t
  unfolding ask_entries
  entries_yes e = rw (T_false (any (length l) (bad_entry n l)) (first_nothing (length l) (bad_entry n l) (sym e)))

-- a list of at most 512 entries, all below n, gets a yes
good_entry : (n : ℕ) (l : List ℕ) (i : ℕ) → i < 512 → get_or l i 0 < n → T (bad_entry n l i) → ⊥
unfolding bad_entry
good_entry n l i a b t =
    ⊎_elim (λ x. omega (arith, leb→le n (get_or l i 0) x)) (λ x. omega (arith, leb→le 512 i x)) (or_cases (leb n (get_or l i 0)) (leb 512 i) t)

pub entries_good : (n : ℕ) (l : List ℕ) (t : Tally) → length l ≤ 512 → ((i : ℕ) → i < length l → get_or l i 0 < n) → ask_entries n l t ≡ Ok t
unfolding ask_entries
entries_good n l t a b =
    rw (T_false (any (length l) (bad_entry n l)) (none_any (length l) (bad_entry n l) (λ i h. not_T (bad_entry n l i) (good_entry n l i (omega arith) (b i h)))))

-- ---- the edges, by a table

module _ (table records : List ℕ) (test : ℕ → Bool) where
  -- what edge k adds to t, and whether it adds to o, by a table
  abbrev pub ties_of : ℕ → ℕ
  ties_of k = cond (test k) (get_or table (end_a records k) 0 * get_or table (end_b records k) 0) 0

  abbrev pub leaves : ℕ → Bool
  leaves k = test k && just_one (leb 1 (get_or table (end_a records k) 0)) (leb 1 (get_or table (end_b records k) 0))

  pub joined_none : joined_sum table records test 0 ≡ 0
  unfolding joined_sum sum
  joined_none = refl

  pub leaving_none : leaving_sum table records test 0 ≡ 0
  unfolding leaving_sum count
  leaving_none = refl

  pub joined_more : (k : ℕ) → joined_sum table records test (k + 1) ≡ joined_sum table records test k + ties_of k
  unfolding joined_sum sum
  joined_more k = rw (add-one k) (omega arith)

  pub leaving_more : (k : ℕ) → leaving_sum table records test (k + 1) ≡ leaving_sum table records test k + bit (leaves k)
  unfolding leaving_sum
  leaving_more k = count_more k leaves

  pub leaving_le : (k : ℕ) → leaving_sum table records test k ≤ k
  unfolding leaving_sum
  leaving_le k = count_le k _

  module _ (h : (v : ℕ) → get_or table v 0 ≤ 512) where
    pub ties_le : (k : ℕ) → ties_of k ≤ 262144
    ties_le k = pick (test k)
      where
        pick : (b : Bool) → cond b (get_or table (end_a records k) 0 * get_or table (end_b records k) 0) 0 ≤ 262144
        pick true = mul-le-mul {n₂ = 512} {m₂ = 512} (h (end_a records k)) (h (end_b records k))
        pick false = omega arith

    pub joined_le : (k : ℕ) → joined_sum table records test k ≤ 262144 * k
    unfolding joined_sum sum
    joined_le zero = omega arith
    joined_le (suc k) = omega (arith, joined_le k, ties_le k)

pub table_tally : (records : List ℕ) (m : ℕ) (test : ℕ → Bool) (l table : List ℕ) → Multiplicities table l
    → record { pairs = pairs l; joined = joined_sum table records test m; leaving = leaving_sum table records test m } ≡ tally_at records m test l
unfolding tally_at joined_sum leaving_sum
table_tally records m test l table h =
    let named : (v : ℕ) → leb 1 (get_or table v 0) ≡ contains v l = λ v. ap (leb 1) (h.held v) ∙ multiplicity_contains l v in
    ap₂ (λ (x y : ℕ). record { pairs = pairs l; joined = x; leaving = y })
    (sum_cong m _ _ (λ k d. ap₂ (λ (x y : ℕ). cond (test k) (x * y) 0) (h.held (end_a records k)) (h.held (end_b records k))))
    (count_cong m _ _ (λ k d. ap₂ (λ (x y : Bool). test k && just_one x y) (named (end_a records k)) (named (end_b records k))))
