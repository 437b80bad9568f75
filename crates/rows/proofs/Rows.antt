-- What is read off the rows: row k as a slice of the words, what a row contains, the handsets in one row or more and in two or more, and the first row that
-- meets a set. Each goes by a word or by a row at a time, as the code does.
--
--     row_in_lem, row_in_past            row k of the 512; none from 512 on; row_listed: of rows that are listed
--     row_words_most, words_most, row_ones    a row has at most eight words; their bits are its members
--     row_words_in                   the words of row k of the 512 have its members
--     row_words_lem, row_slice           the words of row k have its members; the slice that the code cuts has them
--     contains_row, contains_past    a row contains v where its bit is set; it contains nothing from 512 on
--     times_none, times_more         counting the rows that contain v
--     found_none, found_more         the handsets in one row or more and in two or more: of no rows, and of one row more
--     overlaps_row                   the words of a row overlap those of a set where the row meets it
--     none_before, none_next         no row so far meets a set: at first, and of one row more
--     first_found, first_unmet       the first row that meets a set; none does
--     met_some, met_none             what was found is the first list that meets a set; where nothing was found none does; met_or: as a number
use Prim.Native.Nat.{ℕ, zero, suc, ◌+◌, ◌-◌, ◌*◌, ◌/◌, ◌%◌, ◌^◌, ◌≤◌, ◌<◌, min, max}
use native.Mathlib.Omega.{arith}
use native.Mathlib.Numerals.{add-one}
use native.Mathlib.Nat.{add-zero, add-suc}
use native.Mathlib.Decide.{dec_lt}
use mathlib.Core.Path.{◌≡◌, refl, sym, ap, ap₂, ◌∙◌, subst}
use mathlib.Core.Logic.{⊎_elim}
use mathlib.Core.Bool.{Bool, true, false, ◌&&◌, ◌||◌, not, cond}
use mathlib.Core.List.{List, [], ◌∷◌, ◌++◌}
use lib.Bits.{bit_and, and_lt}
use lib.Dec.{T, eqb, leb, eqb→eq, not_T}
use lib.ListN.{length, get_or, take, drop, length-take, length-drop, drop_of_length-le, get_or-eq_default}
use lib.Seq.{get_or-take, get_or-drop}
use borrow.Author.Tests.{le-leb, ne_eqb}
use Rattle.sets.specs.Below.{any, bit, sum, find, first}
use Rattle.sets.specs.Bits.{bit_of, bit_at, Words, cell}
use Rattle.sets.specs.Rows.{table_words}
use Rattle.sets.proofs.Tests.{T-ext, T_true, T_false, decide, any_take, any_none, any_cong, eqb_of, eqb_not, or_comm, find_none, first_is, first_none}
use Rattle.sets.proofs.Counting.{test_bit, sum_cong}
use Rattle.sets.proofs.Selecting.{select_cong, mem_select, select_mem}
use Rattle.sets.proofs.Bits.{zeros, bit_at_zeros, bit_at_past, bit_at_lt, bit_of_lt, bit_of_none, bit_of_and, bit_of_or, cell_word}
use Rattle.sets.proofs.Words.{word_one}
use Rattle.community.specs.Network.{contains, membership_count}
use Rattle.community.proofs.Roles.{contains_mem, mem_contains}
use Rattle.rows.specs.Rows.{row_members, rows_of, row_in, row_words, MembersFound, meets, first_meeting, first_met}
use Rattle.rows.specs.ForProofs.{RowAdded, overlaps}
use Rattle.rows.proofs.Listing.{in_row, row_length, rows_next, rows_at, rows_length}
use Rattle.std.specs.Prelude.{Some, None}
use Rattle.std.specs.Option.{unwrap_or}
use Rattle.sets.proofs.Ascending.{select_none}
use Rattle.sets.proofs.Front.{bit_first, bit_later}

-- ---- row k
pub row_in_lem : (rows : List ℕ) (k : ℕ) → k < 512 → row_in rows k ≡ row_members rows k
unfolding row_in
row_in_lem rows k h = rows_at rows 512 k h

pub row_in_past : (rows : List ℕ) (k : ℕ) → 512 ≤ k → row_in rows k ≡ []
unfolding row_in
row_in_past rows k h = get_or-eq_default (rows_of rows 512) [] {n = k} (omega (arith, rows_length rows 512))

pub row_listed : (rows : List ℕ) (g : ℕ) (gs : List (List ℕ)) (k : ℕ) → g ≤ 512 → rows_of rows g ≡ gs → k < g → row_in rows k ≡ get_or gs k []
row_listed rows g gs k few listed h = row_in_lem rows k (omega arith) ∙ sym (rows_at rows g k h) ∙ ap (λ (l : List (List ℕ)). get_or l k []) listed

-- a cell by the word that it stands in
cell_at : (rows : List ℕ) (k v : ℕ) → cell rows k v ≡ bit_of (get_or rows (k * 8 + v / 64) 0) (v % 64)
cell_at rows k v =
    let e : v ≡ v / 64 * 64 + v % 64 = omega arith in
    ap (cell rows k) e ∙ cell_word rows k (v / 64) (v % 64) (omega arith)

-- the words of row k
row_word : (rows : List ℕ) (k i : ℕ) → i < 8 → get_or (row_words rows k) i 0 ≡ get_or rows (k * 8 + i) 0
unfolding row_words
row_word rows k i h =
    let d : 8 * k + i ≡ k * 8 + i = omega arith in
    get_or-take 8 (drop (8 * k) rows) i 0 h ∙ get_or-drop (8 * k) rows i 0 ∙ ap (λ (j : ℕ). get_or rows j 0) d

row_bit : (rows : List ℕ) (k v : ℕ) → v < 512 → bit_at (row_words rows k) v ≡ cell rows k v
unfolding bit_at
row_bit rows k v h = ap (λ (w : ℕ). bit_of w (v % 64)) (row_word rows k (v / 64) (omega arith)) ∙ sym (cell_at rows k v)

pub row_words_most : (rows : List ℕ) (k : ℕ) → length (row_words rows k) ≤ 8
unfolding row_words
row_words_most rows k = omega (arith, length-take 8 (drop (8 * k) rows))

-- the same of words that are a row's, whichever it is
pub words_most : (rows : List ℕ) (k : ℕ) (words : List ℕ) → words ≡ row_words rows k → length words ≤ 8
words_most rows k words e = omega (arith, ap length e, row_words_most rows k)

-- from 512 on there are none
row_words_past : (rows : List ℕ) (k : ℕ) → length rows ≡ table_words → 512 ≤ k → row_words rows k ≡ []
unfolding row_words
row_words_past rows k e h = ap (take 8) (drop_of_length-le rows {i = 8 * k} (omega arith))

row_words_long : (rows : List ℕ) (k : ℕ) → length rows ≡ table_words → k < 512 → length (row_words rows k) ≡ 8
unfolding row_words
row_words_long rows k e h = omega (arith, length-take 8 (drop (8 * k) rows), length-drop (8 * k) rows)

sum_empty : (f : ℕ → ℕ) → sum 0 f ≡ 0
unfolding sum
sum_empty f = refl

pub row_words_in : (rows : List ℕ) (k : ℕ) → k < 512 → row_members (row_words rows k) 0 ≡ row_in rows k
unfolding row_members
row_words_in rows k h =
    select_cong 512 (in_row (row_words rows k) 0) (in_row rows k)
    (λ v l. ap (λ (b : ℕ). eqb b 1) (ap (bit_at (row_words rows k)) (let z : 0 * 512 + v ≡ v = omega arith in z) ∙ row_bit rows k v l))
    ∙ sym (row_in_lem rows k h)

pub row_words_lem : (rows : List ℕ) (k : ℕ) → length rows ≡ table_words → row_members (row_words rows k) 0 ≡ row_in rows k
unfolding row_members
row_words_lem rows k e = pick (dec_lt k 512)
  where
    pick : Dec (k < 512) → row_members (row_words rows k) 0 ≡ row_in rows k
    pick (yes h) = row_words_in rows k h
    pick (no h) =
        select_none 512 (in_row (row_words rows k) 0)
        (λ v l. eqb_not (cell (row_words rows k) 0 v) 1
        (λ q. omega (arith, q, bit_at_past (row_words rows k) (0 * 512 + v) (omega (arith, ap length (row_words_past rows k e (omega arith)))))))
        ∙ sym (row_in_past rows k (omega arith))

-- as the code cuts them
pub row_slice : (rows : List ℕ) (k f p : ℕ) → length rows ≡ table_words → f ≡ min k 512 * 8 → p ≡ min k 511 * 8 + 8
    → take (p - f) (drop f rows) ≡ row_words rows k
unfolding row_words
row_slice rows k f p e start past = pick (dec_lt k 512)
  where
    pick : Dec (k < 512) → take (p - f) (drop f rows) ≡ row_words rows k
    pick (yes h) =
        let few : p - f ≡ 8 = omega arith in
        let first : f ≡ 8 * k = omega arith in
        ap₂ (λ (i j : ℕ). take i (drop j rows)) few first
    pick (no h) =
        let none : p - f ≡ 0 = omega arith in
        ap (λ (i : ℕ). take i (drop f rows)) none ∙ sym (row_words_past rows k e (omega arith))

-- the bits of the row's words are its members
pub row_ones : (rows : List ℕ) (k : ℕ) → length rows ≡ table_words → sum (length (row_words rows k) * 64) (bit_at (row_words rows k)) ≡ length (row_in rows k)
row_ones rows k e = pick (dec_lt k 512)
  where
    pick : Dec (k < 512) → sum (length (row_words rows k) * 64) (bit_at (row_words rows k)) ≡ length (row_in rows k)
    pick (yes h) =
        ap (λ (n : ℕ). sum (n * 64) (bit_at (row_words rows k))) (row_words_long rows k e h)
        ∙ sum_cong 512 (bit_at (row_words rows k)) (cell (row_words rows k) 0) (λ v l. ap (bit_at (row_words rows k)) (let z : v ≡ 0 * 512 + v = omega arith in z))
        ∙ sym (row_length (row_words rows k) 0) ∙ ap length (row_words_in rows k h)
    pick (no h) =
        rw (row_words_past rows k e (omega arith), row_in_past rows k (omega arith)) (sum_empty (bit_at []))

-- ---- what a row contains
pub contains_row : (rows : List ℕ) (k v : ℕ) → v < 512 → contains v (row_members rows k) ≡ in_row rows k v
unfolding row_members
contains_row rows k v h =
    T-ext (contains v (row_members rows k)) (in_row rows k v)
    (λ t. (select_mem 512 (in_row rows k) v (contains_mem v (row_members rows k) t)).1)
    (λ t. mem_contains v (row_members rows k) (mem_select 512 (in_row rows k) v h t))

pub contains_past : (rows : List ℕ) (k v : ℕ) → 512 ≤ v → contains v (row_members rows k) ≡ false
unfolding row_members
contains_past rows k v h =
    T_false (contains v (row_members rows k))
    (not_T (contains v (row_members rows k)) (λ t. omega (arith, (select_mem 512 (in_row rows k) v (contains_mem v (row_members rows k) t)).0)))

-- ---- how many rows contain v
times_snoc : (v : ℕ) (gs : List (List ℕ)) (x : List ℕ) → membership_count v (gs ++ (x ∷ [])) ≡ membership_count v gs + bit (contains v x)
unfolding membership_count
times_snoc v [] x = omega arith
times_snoc v (y ∷ gs) x = omega (arith, times_snoc v gs x)

pub times_none : (rows : List ℕ) (v : ℕ) → membership_count v (rows_of rows 0) ≡ 0
unfolding membership_count rows_of
times_none rows v = refl

pub times_more : (rows : List ℕ) (k v : ℕ)
    → membership_count v (rows_of rows (k + 1)) ≡ membership_count v (rows_of rows k) + bit (contains v (row_members rows k))
times_more rows k v = ap (membership_count v) (rows_next rows k) ∙ times_snoc v (rows_of rows k) (row_members rows k)

-- ---- in one row or more, in two or more
once_step : (c x : ℕ) → x < 2 → max (bit (leb 1 c)) x ≡ bit (leb 1 (c + x))
once_step zero zero h = refl
once_step zero (suc zero) h = refl
once_step zero (suc (suc x)) h = absurd (omega arith)
once_step (suc c) x h = rw (le-leb 1 (suc c) (omega arith), le-leb 1 (suc c + x) (omega arith)) (let e : max 1 x ≡ 1 = omega arith in e)

twice_step : (c x : ℕ) → x < 2 → max (bit (leb 2 c)) (min (bit (leb 1 c)) x) ≡ bit (leb 2 (c + x))
twice_step zero zero h = refl
twice_step zero (suc zero) h = refl
twice_step zero (suc (suc x)) h = absurd (omega arith)
twice_step (suc zero) zero h = refl
twice_step (suc zero) (suc zero) h = refl
twice_step (suc zero) (suc (suc x)) h = absurd (omega arith)
twice_step (suc (suc c)) x h =
    rw (le-leb 2 (suc (suc c)) (omega arith), le-leb 1 (suc (suc c)) (omega arith), le-leb 2 (suc (suc c) + x) (omega arith)) (let e : max 1 (min 1 x) ≡ 1 = omega arith in e)

pub found_none : (rows : List ℕ) → MembersFound (rows_of rows 0) (zeros 8) (zeros 8)
found_none rows = record {
  in_one = record { size = refl; bits = λ v h. bit_at_zeros 8 v ∙ sym (ap (λ (n : ℕ). bit (leb 1 n)) (times_none rows v)) };
  in_two = record { size = refl; bits = λ v h. bit_at_zeros 8 v ∙ sym (ap (λ (n : ℕ). bit (leb 2 n)) (times_none rows v)) };
}

module _ (rows : List ℕ) (k : ℕ) (once twice once' twice' : List ℕ) (found : MembersFound (rows_of rows k) once twice) (added : RowAdded rows k once twice once' twice') where
  times : (v : ℕ) → v < 512 → membership_count v (rows_of rows (k + 1)) ≡ membership_count v (rows_of rows k) + cell rows k v
  times v h =
      times_more rows k v
      ∙ ap (λ (x : ℕ). membership_count v (rows_of rows k) + x) (ap bit (contains_row rows k v h) ∙ test_bit (cell rows k v) (bit_at_lt rows (k * 512 + v)))

  once_bit : (v : ℕ) → v < 512 → bit_at once' v ≡ max (bit_at once v) (cell rows k v)
  unfolding bit_at
  once_bit v h =
      ap (λ (w : ℕ). bit_of w (v % 64)) (added.once_words (v / 64) (omega arith))
      ∙ bit_of_or (get_or once (v / 64) 0) (get_or rows (k * 8 + v / 64) 0) (v % 64)
      ∙ ap (max (bit_of (get_or once (v / 64) 0) (v % 64))) (sym (cell_at rows k v))

  twice_bit : (v : ℕ) → v < 512 → bit_at twice' v ≡ max (bit_at twice v) (min (bit_at once v) (cell rows k v))
  unfolding bit_at
  twice_bit v h =
      ap (λ (w : ℕ). bit_of w (v % 64)) (added.twice_words (v / 64) (omega arith))
      ∙ bit_of_or (get_or twice (v / 64) 0) (bit_and (get_or once (v / 64) 0) (get_or rows (k * 8 + v / 64) 0)) (v % 64)
      ∙ ap (max (bit_of (get_or twice (v / 64) 0) (v % 64)))
      (bit_of_and (get_or once (v / 64) 0) (get_or rows (k * 8 + v / 64) 0) (v % 64) ∙ ap (min (bit_of (get_or once (v / 64) 0) (v % 64))) (sym (cell_at rows k v)))

  pub found_more : MembersFound (rows_of rows (k + 1)) once' twice'
  found_more = record {
    in_one = record {
      size = added.once_size;
      bits = λ v h.
          once_bit v h ∙ ap (λ (x : ℕ). max x (cell rows k v)) (found.in_one.bits v h)
          ∙ once_step (membership_count v (rows_of rows k)) (cell rows k v) (bit_at_lt rows (k * 512 + v)) ∙ ap (λ (n : ℕ). bit (leb 1 n)) (sym (times v h));
    };
    in_two = record {
      size = added.twice_size;
      bits = λ v h.
          twice_bit v h ∙ ap₂ (λ (x y : ℕ). max x (min y (cell rows k v))) (found.in_two.bits v h) (found.in_one.bits v h)
          ∙ twice_step (membership_count v (rows_of rows k)) (cell rows k v) (bit_at_lt rows (k * 512 + v)) ∙ ap (λ (n : ℕ). bit (leb 2 n)) (sym (times v h));
    };
  }

-- ---- the members of a row in a set
-- a word is 0 where it has no bit set
word_none : (w : ℕ) → w < 2 ^ 64 → eqb w 0 ≡ not (any 64 (λ (k : ℕ). eqb (bit_of w k) 1))
word_none w h =
    ⊎_elim
    (λ t.
    let r = any_take 64 (λ (k : ℕ). eqb (bit_of w k) 1) t in
    ne_eqb w 0 (λ e. omega (arith, eqb→eq (bit_of w r.0) 1 r.2, bit_of_none r.0, ap (λ (x : ℕ). bit_of x r.0) e))
    ∙ sym (ap not (T_true (any 64 (λ (k : ℕ). eqb (bit_of w k) 1)) t)))
    (λ t.
    let none : (k : ℕ) → k < 64 → bit_of w k ≡ bit_of 0 k =
    λ k l. omega (arith, bit_of_lt w k, bit_of_none k, zero_bit k l t) in
    let e : w ≡ 0 = word_one 64 w 0 h (omega arith) none in
    T_true (eqb w 0) (eqb_of w 0 e) ∙ sym (ap not (T_false (any 64 (λ (k : ℕ). eqb (bit_of w k) 1)) t)))
    (decide (any 64 (λ (k : ℕ). eqb (bit_of w k) 1)))
  where
    zero_bit : (k : ℕ) → k < 64 → T (not (any 64 (λ (k : ℕ). eqb (bit_of w k) 1))) → bit_of w k < 1
    zero_bit k l t = pick (dec_lt (bit_of w k) 1)
      where
        pick : Dec (bit_of w k < 1) → bit_of w k < 1
        pick (yes q) = q
        pick (no q) = absurd (lib.Dec.T_not (eqb (bit_of w k) 1) (any_none 64 (λ (k : ℕ). eqb (bit_of w k) 1) t k l) (eqb_of (bit_of w k) 1 (omega (arith, bit_of_lt w k))))

min_both : (a b : ℕ) → a < 2 → b < 2 → eqb (min a b) 1 ≡ (eqb b 1 && eqb a 1)
min_both zero zero h l = refl
min_both zero (suc zero) h l = refl
min_both (suc zero) zero h l = refl
min_both (suc zero) (suc zero) h l = refl
min_both (suc (suc a)) b h l = absurd (omega arith)
min_both zero (suc (suc b)) h l = absurd (omega arith)
min_both (suc zero) (suc (suc b)) h l = absurd (omega arith)

or_assoc : (a b c : Bool) → (a || (b || c)) ≡ ((a || b) || c)
or_assoc true b c = refl
or_assoc false b c = refl

any_split : (a b : ℕ) (f : ℕ → Bool) → any (a + b) f ≡ (any b (λ (k : ℕ). f (a + k)) || any a f)
unfolding any
any_split a zero f = ap (λ (n : ℕ). any n f) (add-zero a)
any_split a (suc b) f =
    ap (λ (n : ℕ). any n f) (add-suc a b) ∙ ap (λ (x : Bool). f (a + b) || x) (any_split a b f)
    ∙ or_assoc (f (a + b)) (any b (λ (k : ℕ). f (a + k))) (any a f)

any_none_at : (f : ℕ → Bool) → false ≡ any 0 f
unfolding any
any_none_at f = refl

not_not : (b : Bool) → not (not b) ≡ b
not_not true = refl
not_not false = refl

in_both : List ℕ → List ℕ → ℕ → Bool
in_both a b v = eqb (bit_at b v) 1 && eqb (bit_at a v) 1

-- two words have a bit in common
words_share : (x y : ℕ) (a b : List ℕ) → x < 2 ^ 64 → y < 2 ^ 64 → not (eqb (bit_and x y) 0) ≡ any 64 (in_both (x ∷ a) (y ∷ b))
unfolding in_both
words_share x y a b h l =
    ap not (word_none (bit_and x y) (and_lt 64 x y h l)) ∙ not_not (any 64 (λ (k : ℕ). eqb (bit_of (bit_and x y) k) 1))
    ∙ any_cong 64 _ (in_both (x ∷ a) (y ∷ b))
    (λ k q.
    ap (λ (n : ℕ). eqb n 1) (bit_of_and x y k) ∙ min_both (bit_of x k) (bit_of y k) (bit_of_lt x k) (bit_of_lt y k)
    ∙ ap₂ (λ (m n : ℕ). eqb m 1 && eqb n 1) (sym (bit_first y b k q)) (sym (bit_first x a k q)))

overlaps_any : (n : ℕ) (a b : List ℕ) → length a ≡ n → length b ≡ n → Words a → Words b → overlaps a b ≡ any (n * 64) (in_both a b)
unfolding in_both
overlaps_any zero [] b h l s t = any_none_at (in_both [] b)
overlaps_any zero (x ∷ a) b h l s t = absurd (omega arith)
overlaps_any (suc n) [] b h l s t = absurd (omega arith)
overlaps_any (suc n) (x ∷ a) [] h l s t = absurd (omega arith)
overlaps_any (suc n) (x ∷ a) (y ∷ b) h l s t =
    let f : ℕ → Bool = in_both (x ∷ a) (y ∷ b) in
    let e : 64 + n * 64 ≡ suc n * 64 = omega arith in
    ap₂ ◌||◌ (words_share x y a b (s 0) (t 0))
    (overlaps_any n a b (omega arith) (omega arith) (λ i. s (suc i)) (λ i. t (suc i))
    ∙ any_cong (n * 64) (in_both a b) (λ (k : ℕ). f (64 + k)) (λ k q. ap₂ (λ (m n : ℕ). eqb m 1 && eqb n 1) (sym (bit_later y b k)) (sym (bit_later x a k))))
    ∙ or_comm (any 64 f) (any (n * 64) (λ (k : ℕ). f (64 + k)))
    ∙ sym (any_split 64 (n * 64) f) ∙ ap (λ (m : ℕ). any m f) e

-- so do a set and the words of a row
abbrev pub meets_at : List ℕ → List ℕ → ℕ → Bool
meets_at set rows k = meets set (row_members rows k)

pub overlaps_row : (set rows row : List ℕ) (k : ℕ) → k < 512 → length set ≡ 8 → length rows ≡ table_words → Words set → Words row → row ≡ row_words rows k
    → overlaps row set ≡ meets_at set rows k
unfolding meets in_both
overlaps_row set rows row k h l e s t is =
    overlaps_any 8 row set (ap length is ∙ row_words_long rows k e h) l t s
    ∙ ap (λ (ws : List ℕ). any 512 (in_both ws set)) is
    ∙ any_cong 512 (in_both (row_words rows k) set) (λ v. eqb (bit_at set v) 1 && contains v (row_members rows k))
    (λ v q. ap (λ (b : Bool). eqb (bit_at set v) 1 && b) (ap (λ (n : ℕ). eqb n 1) (row_bit rows k v q) ∙ sym (contains_row rows k v q)))

-- ---- the first row that meets a set
pub none_before : (f : ℕ → Bool) → T (not (any 0 f))
unfolding any
none_before f = tt

pub none_next : (f : ℕ → Bool) (k : ℕ) → T (not (any k f)) → f k ≡ false → T (not (any (k + 1) f))
unfolding any
none_next f k n e = subst T (sym (ap not (ap (λ (m : ℕ). any m f) (add-one k) ∙ ap (λ (b : Bool). b || any k f) e))) n

module _ (set rows : List ℕ) (g : ℕ) where
  listed : (k : ℕ) → k < g → meets_at set rows k ≡ meets set (get_or (rows_of rows g) k [])
  listed k h = ap (meets set) (sym (rows_at rows g k h))

  pub first_found : (k : ℕ) → k < g → meets_at set rows k ≡ true → T (not (any k (meets_at set rows))) → first_met set (rows_of rows g) ≡ Some k
  unfolding first_met
  first_found k h t n =
      first_is (length (rows_of rows g)) (λ i. meets set (get_or (rows_of rows g) i [])) k (omega (arith, rows_length rows g))
      (subst T (sym t ∙ listed k h) tt)
      (subst T (ap not (any_cong k (meets_at set rows) (λ i. meets set (get_or (rows_of rows g) i [])) (λ i l. listed i (omega arith)))) n)

  pub first_unmet : T (not (any g (meets_at set rows))) → first_met set (rows_of rows g) ≡ None
  unfolding first_met
  first_unmet n =
      first_none (length (rows_of rows g)) (λ i. meets set (get_or (rows_of rows g) i []))
      (subst T
      (ap not (any_cong g (meets_at set rows) (λ i. meets set (get_or (rows_of rows g) i [])) listed ∙ ap (λ (m : ℕ). any m (λ i. meets set (get_or (rows_of rows g) i []))) (sym (rows_length rows g))))
      n)

-- the row that was found is the first that meets the set, and where none was found none does
pub met_some : (set : List ℕ) (gs : List (List ℕ)) (k : ℕ) → Some k ≡ first_met set gs → (k ≡ first_meeting set gs) × (0 < length gs)
unfolding first_met first_meeting first
met_some set gs k e = pick (any (length gs) at) refl e
  where
    at : ℕ → Bool
    at i = meets set (get_or gs i [])

    pick : (b : Bool) → any (length gs) at ≡ b → Some k ≡ cond b (Some (find (length gs) at)) None → (k ≡ find (length gs) at) × (0 < length gs)
    pick true q p = (cc, let r = any_take (length gs) at (subst T (sym q) tt) in omega (arith, r.1))
    pick false q p = absurd (let z : ⊥ = cc in z)

pub met_none : (set : List ℕ) (gs : List (List ℕ)) → None ≡ first_met set gs → T (not (any (length gs) (λ i. meets set (get_or gs i []))))
unfolding first_met first
met_none set gs e = pick (any (length gs) at) e
  where
    at : ℕ → Bool
    at i = meets set (get_or gs i [])

    pick : (b : Bool) → None ≡ cond b (Some (find (length gs) at)) None → T (not b)
    pick true p = absurd (let z : ⊥ = cc in z)
    pick false p = tt

-- where nothing was found, the count of the rows is the number
pub met_or : (set rows : List ℕ) (n : ℕ) → unwrap_or (first_met set (rows_of rows n)) n ≡ first_meeting set (rows_of rows n)
unfolding first_met first_meeting first
met_or set rows n = pick (any (length (rows_of rows n)) at) refl
  where
    at : ℕ → Bool
    at i = meets set (get_or (rows_of rows n) i [])

    found : ℕ
    found = find (length (rows_of rows n)) at

    pick : (b : Bool) → any (length (rows_of rows n)) at ≡ b → unwrap_or (cond b (Some found) None) n ≡ found
    pick true q = refl
    pick false q = sym (find_none (length (rows_of rows n)) at (subst T (ap not (sym q)) tt) ∙ rows_length rows n)
