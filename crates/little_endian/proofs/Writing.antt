-- Laws of numbers that are written in bytes, each over the width.
--
--     append_below, take-, drop_below    a bound of every number of two lists is one of both together, and of every number of a list one of a part's
--     length_le_bytes, le_bytes_below    w bytes, each less than 256
--     le_bytes_more                      one byte more; write_none, write_more: the loop that writes a number, at its start and after one more
--     le_written                         a number at the front of a list is read back
--     number_at                          the same at a place, where what stands from there on begins with the number's bytes
--     number_below                       a number of w bytes is less than 256 ^ w
--     le_read                            the bytes of a number that was read are those that stand there
--     stored_there, stored_none          what a write leaves, by whether the bytes are there; length_stored: as many bytes as before
--     read_back                          the theorem of specs/Bytes
--     length_table_bytes, table_bytes_below    a table in bytes has w bytes a number, each less than 256
--     number_table_bytes                 number k of a table in bytes is the table's
--     table_none, _more, _all            the loop that writes a table: at its start, after one number more, at its end
--     table_bytes_is                     bytes that hold a table's numbers are the table in bytes
use Prim.Native.Nat.{ℕ, zero, suc, ◌+◌, ◌*◌, ◌/◌, ◌%◌, ◌^◌, ◌≤◌, ◌<◌}
use native.Mathlib.Omega.{arith}
use native.Mathlib.Nat.{zero-add, mul-zero, mul-suc, mul_comm, mul-le-mul_left, pow-succ', div-div-eq-div-mul}
use native.Mathlib.Numerals.{add-one}
use mathlib.Core.Path.{◌≡◌, refl, sym, ap, ap₂, ◌∙◌}
use mathlib.Core.Bool.{Bool, true, false, cond}
use mathlib.Core.List.{List, [], ◌∷◌, ◌++◌, append_assoc, append-nil}
use lib.Dec.{leb}
use borrow.Author.Tests.{le-leb, lt-leb, leb-true}
use borrow.Rule.Slice.PartMut.{put_mid}
use lib.ListN.{length, get_or, set, take, drop, drop_of_length-le, length-append, take-append-drop, length-drop}
use lib.Seq.{sets, sets-eq, length-sets, take-suc, take_all, drop_at, drop-cons, drop-drop, get_or-drop, length-take-le}
use Rattle.sets.proofs.Writing.{sets_append, sets_one}
use Rattle.little_endian.specs.Bytes.{le, number, le_bytes, stored, table_bytes, Below, ReadBack}
use Rattle.little_endian.proofs.Bytes.{le_cong, number_le}

-- ---- every number of a list

pub append_below : (b : ℕ) (x y : List ℕ) → Below b x → Below b y → Below b (x ++ y)
append_below b [] y f g i = g i
append_below b (a ∷ x) y f g zero = f 0
append_below b (a ∷ x) y f g (suc i) = append_below b x y (λ j. f (suc j)) g i

pub take_below : (b n : ℕ) (l : List ℕ) → Below b l → Below b (take n l)
take_below b zero l f i = omega (arith, f 0)
take_below b (suc n) [] f i = f i
take_below b (suc n) (x ∷ l) f zero = f 0
take_below b (suc n) (x ∷ l) f (suc i) = take_below b n l (λ j. f (suc j)) i

pub drop_below : (b n : ℕ) (l : List ℕ) → Below b l → Below b (drop n l)
drop_below b n l f i = omega (arith, get_or-drop n l i 0, f (n + i))

-- ---- the bytes of a number

length_le_bytes : (w v : ℕ) → length (le_bytes w v) ≡ w
unfolding le_bytes
length_le_bytes zero v = refl
length_le_bytes (suc w) v = ap suc (length_le_bytes w (v / 256))

pub le_bytes_below : (w v : ℕ) → Below 256 (le_bytes w v)
unfolding le_bytes
le_bytes_below zero v i = omega arith
le_bytes_below (suc w) v zero = omega arith
le_bytes_below (suc w) v (suc i) = le_bytes_below w (v / 256) i

-- what is left of a number after one byte more
rest_more : (v i : ℕ) → v / 256 ^ i / 256 ≡ v / 256 ^ suc i
rest_more v i = div-div-eq-div-mul v (256 ^ i) 256 ∙ ap (λ (x : ℕ). v / x) (mul_comm (256 ^ i) 256 ∙ sym (pow-succ' 256 i))

le_bytes_more : (w v : ℕ) → le_bytes (suc w) v ≡ le_bytes w v ++ (v / 256 ^ w % 256 ∷ [])
unfolding le_bytes
le_bytes_more zero v = ap (λ (x : ℕ). x % 256 ∷ []) whole
  where
    whole : v ≡ v / 256 ^ 0
    whole = omega arith
le_bytes_more (suc w) v =
    ap (λ (l : List ℕ). v % 256 ∷ l)
    (le_bytes_more w (v / 256)
    ∙ ap (λ (x : ℕ). le_bytes w (v / 256) ++ (x % 256 ∷ [])) (div-div-eq-div-mul v 256 (256 ^ w) ∙ ap (λ (x : ℕ). v / x) (sym (pow-succ' 256 w))))

-- the loop that writes a number, after i bytes: what it has written, and what is left of the number
module _ (l : List ℕ) (v : ℕ) where
  pub write_none : (v ≡ v / 256 ^ 0) × (l ≡ sets l 0 (le_bytes 0 v))
  unfolding le_bytes
  write_none = (omega arith, refl)

  pub write_more : (i rest : ℕ) (l' : List ℕ) → rest ≡ v / 256 ^ i → l' ≡ sets l 0 (le_bytes i v)
      → (rest / 256 ≡ v / 256 ^ (i + 1)) × (set l' i (rest % 256) ≡ sets l 0 (le_bytes (i + 1) v))
  write_more i rest l' e d =
      rw (add-one i) (
        ap (λ (x : ℕ). x / 256) e ∙ rest_more v i,
        ap₂ (λ (l : List ℕ) (x : ℕ). set l i (x % 256)) d e
            ∙ ap (λ (k : ℕ). set (sets l 0 (le_bytes i v)) k (v / 256 ^ i % 256)) (sym (zero-add i) ∙ ap (λ (k : ℕ). 0 + k) (sym (length_le_bytes i v)))
            ∙ sym (sets_one l 0 (le_bytes i v) (v / 256 ^ i % 256))
            ∙ ap (sets l 0) (sym (le_bytes_more i v)),
      )

-- ---- a number that was written

-- a read at a place is a read at the front of what stands there
le_drop : (w : ℕ) (s : List ℕ) (at : ℕ) → le w s at ≡ le w (drop at s) 0
le_drop w s at = le_cong w (drop at s) s 0 at (λ i h. sym (ap (λ (x : ℕ). get_or (drop at s) x 0) (zero-add i) ∙ get_or-drop at s i 0))

le_written : (w v : ℕ) (rest : List ℕ) → v < 256 ^ w → le w (le_bytes w v ++ rest) 0 ≡ v
unfolding le_bytes
le_written zero v rest h = omega arith
le_written (suc w) v rest h =
    let t : List ℕ = le_bytes w (v / 256) ++ rest in
    let small : v / 256 < 256 ^ w = omega (arith, pow-succ' 256 w) in
    omega (arith, le_drop w (v % 256 ∷ t) 1, le_written w (v / 256) rest small)

pub number_at : (w v : ℕ) (s : List ℕ) (at : ℕ) (rest : List ℕ) → v < 256 ^ w → at + w ≤ length s → drop at s ≡ le_bytes w v ++ rest → number w s at ≡ v
number_at w v s at rest h l e = number_le w s at l ∙ le_drop w s at ∙ ap (λ (t : List ℕ). le w t 0) e ∙ le_written w v rest h

-- ---- a number that was read

le_below : (w : ℕ) (s : List ℕ) (at : ℕ) → Below 256 s → le w s at < 256 ^ w
le_below zero s at small = omega arith
le_below (suc w) s at small = omega (arith, pow-succ' 256 w, small at, le_below w s (at + 1) small)

pub number_below : (w : ℕ) (s : List ℕ) (at : ℕ) → Below 256 s → number w s at < 256 ^ w
unfolding number
number_below w s at small = go (leb (at + w) (length s))
  where
    go : (b : Bool) → cond b (le w s at) 0 < 256 ^ w
    go true = le_below w s at small
    go false = omega (arith, le_below w s at small)

le_read : (w : ℕ) (s : List ℕ) (at : ℕ) → Below 256 s → at + w ≤ length s → le_bytes w (le w s at) ≡ take w (drop at s)
unfolding le_bytes
le_read zero s at small h = refl
le_read (suc w) s at small h =
    let b : get_or s at 0 < 256 = small at in
    let low : le (suc w) s at % 256 ≡ get_or s at 0 = omega arith in
    let high : le (suc w) s at / 256 ≡ le w s (at + 1) = omega arith in
    let next : le_bytes w (le w s (at + 1)) ≡ take w (drop (suc at) s) =
    le_read w s (at + 1) small (omega arith) ∙ ap (λ (x : ℕ). take w (drop x s)) (add-one at) in
    ap₂ (λ (x : ℕ) (l : List ℕ). x ∷ l) low (ap (le_bytes w) high ∙ next) ∙ ap (take (suc w)) (sym (drop-cons s at 0 (omega arith)))

-- ---- a write

pub stored_there : (w : ℕ) (s : List ℕ) (at v : ℕ) → at + w ≤ length s → stored w s at v ≡ sets s at (le_bytes w v)
unfolding stored
stored_there w s at v h = ap (λ (b : Bool). cond b (sets s at (le_bytes w v)) s) (le-leb (at + w) (length s) h)

pub stored_none : (w : ℕ) (s : List ℕ) (at v : ℕ) → leb (at + w) (length s) ≡ false → stored w s at v ≡ s
unfolding stored
stored_none w s at v e = ap (λ (b : Bool). cond b (sets s at (le_bytes w v)) s) e

pub stored_past : (w : ℕ) (s : List ℕ) (at v : ℕ) → length s < at + w → stored w s at v ≡ s
stored_past w s at v h = stored_none w s at v (lt-leb (at + w) (length s) h)

length_stored : (w : ℕ) (s : List ℕ) (at v : ℕ) → length (stored w s at v) ≡ length s
unfolding stored
length_stored w s at v = go (leb (at + w) (length s))
  where
    go : (b : Bool) → length (cond b (sets s at (le_bytes w v)) s) ≡ length s
    go true = length-sets s at (le_bytes w v)
    go false = refl

-- the w bytes between what stood before them and what stood after
stored_parts : (w : ℕ) (s : List ℕ) (at v : ℕ) → at + w ≤ length s → stored w s at v ≡ take at s ++ (le_bytes w v ++ drop (at + w) s)
stored_parts w s at v h =
    stored_there w s at v h ∙ sets-eq (le_bytes w v) s at (omega (arith, length_le_bytes w v))
    ∙ ap (λ (k : ℕ). (take at s ++ le_bytes w v) ++ drop (at + k) s) (length_le_bytes w v)
    ∙ append_assoc (take at s) (le_bytes w v) (drop (at + w) s)

-- all bytes written, in the part of the list that begins at the place
pub stored_part : (w : ℕ) (s : List ℕ) (at v : ℕ) (part : List ℕ) → at + w ≤ length s → part ≡ sets (take w (drop at s)) 0 (le_bytes w v)
    → put_mid at w s part ≡ stored w s at v
stored_part w s at v part h e =
    let long : length (take w (drop at s)) ≡ w = length-take-le w (drop at s) (omega (arith, length-drop at s)) in
    let none : drop (0 + length (le_bytes w v)) (take w (drop at s)) ≡ [] = drop_of_length-le (take w (drop at s)) (omega (arith, length_le_bytes w v, long)) in
    let bytes : part ≡ le_bytes w v =
    e ∙ sets-eq (le_bytes w v) (take w (drop at s)) 0 (omega (arith, length_le_bytes w v, long))
    ∙ ap (λ (l : List ℕ). le_bytes w v ++ l) none
    ∙ append-nil (le_bytes w v) in
    ap (λ (l : List ℕ). take at s ++ (l ++ drop w (drop at s))) bytes
    ∙ ap (λ (l : List ℕ). take at s ++ (le_bytes w v ++ l)) (drop-drop w at s)
    ∙ sym (stored_parts w s at v h)

written_read : (w v : ℕ) (s : List ℕ) (at : ℕ) → v < 256 ^ w → at + w ≤ length s → number w (stored w s at v) at ≡ v
written_read w v s at h l =
    number_at w v (stored w s at v) at (drop (at + w) s) h (omega (arith, length_stored w s at v))
    (ap (drop at) (stored_parts w s at v l) ∙ drop_at (take at s) (le_bytes w v ++ drop (at + w) s) at (length-take-le at s (omega arith)))

read_written : (w : ℕ) (s : List ℕ) (at : ℕ) → Below 256 s → stored w s at (number w s at) ≡ s
read_written w s at small = go (leb (at + w) (length s)) refl
  where
    go : (b : Bool) → leb (at + w) (length s) ≡ b → stored w s at (number w s at) ≡ s
    go true e =
        let h : at + w ≤ length s = leb-true (at + w) (length s) e in
        stored_parts w s at (number w s at) h
        ∙ ap (λ (l : List ℕ). take at s ++ (l ++ drop (at + w) s)) (ap (le_bytes w) (number_le w s at h) ∙ le_read w s at small h)
        ∙ ap (λ (l : List ℕ). take at s ++ l) (ap (λ (l : List ℕ). take w (drop at s) ++ l) (sym (drop-drop w at s)) ∙ take-append-drop w (drop at s))
        ∙ take-append-drop at s
    go false e = stored_none w s at (number w s at) e

pub read_back : ReadBack
read_back = record { written_read = written_read; read_written = read_written }

-- ---- tables

pub length_table_bytes : (w : ℕ) (l : List ℕ) → length (table_bytes w l) ≡ w * length l
unfolding table_bytes
length_table_bytes w [] = sym (mul-zero w)
length_table_bytes w (x ∷ l) =
    length-append (le_bytes w x) (table_bytes w l) ∙ omega (arith, length_le_bytes w x, length_table_bytes w l, mul-suc w (length l))

drop_table_bytes : (w : ℕ) (l : List ℕ) (k : ℕ) → k ≤ length l → drop (w * k) (table_bytes w l) ≡ table_bytes w (drop k l)
unfolding table_bytes
drop_table_bytes w l zero h = ap (λ (x : ℕ). drop x (table_bytes w l)) (mul-zero w)
drop_table_bytes w [] (suc k) h = absurd (omega arith)
drop_table_bytes w (x ∷ l) (suc k) h =
    let e : w * suc k ≡ w + w * k = omega (arith, mul-suc w k) in
    ap (λ (y : ℕ). drop y (le_bytes w x ++ table_bytes w l)) e
    ∙ sym (drop-drop (w * k) w (le_bytes w x ++ table_bytes w l))
    ∙ ap (drop (w * k)) (drop_at (le_bytes w x) (table_bytes w l) w (length_le_bytes w x))
    ∙ drop_table_bytes w l k (omega arith)

pub number_table_bytes : (w : ℕ) (l : List ℕ) (k : ℕ) → get_or l k 0 < 256 ^ w → k < length l → number w (table_bytes w l) (w * k) ≡ get_or l k 0
unfolding table_bytes
number_table_bytes w l k small h =
    number_at w (get_or l k 0) (table_bytes w l) (w * k) (table_bytes w (drop (suc k) l)) small
    (omega (arith, length_table_bytes w l, room))
    (drop_table_bytes w l k (omega arith) ∙ ap (table_bytes w) (drop-cons l k 0 h))
  where
    room : w * k + w ≤ w * length l
    room = omega (arith, mul-suc w k, mul-le-mul_left w h)

table_bytes_append : (w : ℕ) (a b : List ℕ) → table_bytes w (a ++ b) ≡ table_bytes w a ++ table_bytes w b
unfolding table_bytes
table_bytes_append w [] b = refl
table_bytes_append w (x ∷ a) b = ap (λ (l : List ℕ). le_bytes w x ++ l) (table_bytes_append w a b) ∙ sym (append_assoc (le_bytes w x) (table_bytes w a) (table_bytes w b))

table_bytes_more : (w : ℕ) (l : List ℕ) (k : ℕ) → k < length l → table_bytes w (take (suc k) l) ≡ table_bytes w (take k l) ++ le_bytes w (get_or l k 0)
unfolding table_bytes
table_bytes_more w l k h =
    ap (table_bytes w) (take-suc l k 0 h) ∙ table_bytes_append w (take k l) (get_or l k 0 ∷ [])
    ∙ ap (λ (x : List ℕ). table_bytes w (take k l) ++ x) (append-nil (le_bytes w (get_or l k 0)))

-- the loop that writes a table from a place on, after k numbers
module _ (w : ℕ) (s : List ℕ) (at : ℕ) (l : List ℕ) where
  pub table_none : s ≡ sets s at (table_bytes w (take 0 l))
  unfolding table_bytes
  table_none = refl

  pub table_more : (k v : ℕ) (s' s'' : List ℕ) → at + w * length l ≤ length s → k < length l → v ≡ get_or l k 0
      → s' ≡ sets s at (table_bytes w (take k l)) → s'' ≡ stored w s' (at + w * k) v → s'' ≡ sets s at (table_bytes w (take (suc k) l))
  table_more k v s' s'' room h e d f =
      let before : List ℕ = table_bytes w (take k l) in
      let long : length before ≡ w * k = length_table_bytes w (take k l) ∙ ap (λ (x : ℕ). w * x) (length-take-le k l (omega arith)) in
      let fits : at + w * k + w ≤ length s' =
      omega (arith, ap length d, length-sets s at before, mul-suc w k, mul-le-mul_left w h) in
      f ∙ stored_there w s' (at + w * k) v fits
      ∙ ap₂ (λ (t : List ℕ) (x : ℕ). sets t (at + w * k) (le_bytes w x)) d e
      ∙ ap (λ (x : ℕ). sets (sets s at before) (at + x) (le_bytes w (get_or l k 0))) (sym long)
      ∙ sym (sets_append s at before (le_bytes w (get_or l k 0)))
      ∙ ap (sets s at) (sym (table_bytes_more w l k h))

  pub table_all : (k : ℕ) (s' : List ℕ) → length l ≤ k → s' ≡ sets s at (table_bytes w (take k l)) → s' ≡ sets s at (table_bytes w l)
  table_all k s' h e = e ∙ ap (λ (x : List ℕ). sets s at (table_bytes w x)) (take_all k l h)

pub table_bytes_below : (w : ℕ) (l : List ℕ) → Below 256 (table_bytes w l)
unfolding table_bytes
table_bytes_below w [] i = omega arith
table_bytes_below w (x ∷ l) i = append_below 256 (le_bytes w x) (table_bytes w l) (le_bytes_below w x) (table_bytes_below w l) i

pub table_bytes_is : (w : ℕ) (l bs : List ℕ) → Below 256 bs → length bs ≡ w * length l → ((k : ℕ) → k < length l → number w bs (w * k) ≡ get_or l k 0)
    → table_bytes w l ≡ bs
unfolding table_bytes
table_bytes_is w [] [] small e f = refl
table_bytes_is w [] (x ∷ bs) small e f = absurd (omega (arith, mul-zero w))
table_bytes_is w (v ∷ l) bs small e f =
    let long : w ≤ length bs = omega (arith, mul-suc w (length l)) in
    let first : le_bytes w v ≡ take w bs =
    ap (le_bytes w) (sym (f 0 (omega arith)) ∙ ap (number w bs) (mul-zero w) ∙ number_le w bs 0 (omega arith)) ∙ le_read w bs 0 small (omega arith) in
    let rest : table_bytes w l ≡ drop w bs =
    table_bytes_is w l (drop w bs) (drop_below 256 w bs small) (length-drop w bs ∙ omega (arith, mul-suc w (length l)))
    (λ k h. next k h ∙ f (suc k) (omega arith)) in
    ap₂ ◌++◌ first rest ∙ take-append-drop w bs
  where
    next : (k : ℕ) → k < length l → number w (drop w bs) (w * k) ≡ number w bs (w * suc k)
    next k h =
        let room : w * k + w ≤ w * length l = omega (arith, mul-suc w k, mul-le-mul_left w h) in
        number_le w (drop w bs) (w * k) (omega (arith, length-drop w bs, mul-suc w (length l)))
        ∙ le_cong w bs (drop w bs) (w * suc k) (w * k)
        (λ i q. get_or-drop w bs (w * k + i) 0 ∙ ap (λ (x : ℕ). get_or bs x 0) (omega (arith, mul-suc w k)))
        ∙ sym (number_le w bs (w * suc k) (omega (arith, mul-suc w k, mul-suc w (length l))))
