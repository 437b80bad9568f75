-- The numbers of a site's two tables in the records that they make. A signed number of 32 bits and the number in its four bytes make each other. Number j of the
-- one table is coordinate j % coordinate_count of handset j / coordinate_count, and number j of the other an end of edge j / end_count.
--
--     word_below, signed_word, word_signed     a signed coordinate and the number in its bytes; shifted_word, shifted_raised: the same plus 2 ^ 31, and back
--     coordinate_place                         where a coordinate's bytes stand in the handset records
--     first_place, second_place                where the ends of an edge stand in the edge records
--     coordinate_written, end_written          what is read there
--     coordinate_raised, out_of_limits_lem         the same plus 2 ^ 31, and its limits
--     record_numbers                           the theorem of specs/Layout
use Prim.Native.Nat.{ℕ, ◌+◌, ◌*◌, ◌-◌, ◌≤◌, ◌<◌}
use native.Mathlib.Omega.{arith}
use mathlib.Core.Path.{◌≡◌, refl, sym, ap, ◌∙◌}
use mathlib.Core.Logic.{⊎_elim}
use mathlib.Core.Bool.{not}
use mathlib.Core.List.{List, map}
use lib.Dec.{ltb, nltb→le}
use lib.IntN.{ℤ, pos, negsuc}
use lib.Signed.{mag}
use lib.ListN.{length, get_or, length-map}
use borrow.Author.Tests.{lt-ltb, le-ltb}
use Rattle.sets.specs.Below.{any}
use Rattle.sets.proofs.Tests.{decide, T_true, T_false, any_cong}
use Rattle.little_endian.specs.Bytes.{number, Below}
use Rattle.little_endian.proofs.Bytes.{number_slice}
use Rattle.little_endian.proofs.Writing.{number_table_bytes}
use Rattle.fields.specs.Fields.{coordinate_bytes, coordinate_count, handset_bytes, end_bytes, end_count, shifted, in_limits, coordinate_of}
use Rattle.limits.specs.Limits.{out_of_limits}
use Rattle.image.specs.Image.{handset_record, end_a, end_b}
use Rattle.image.specs.Signed.{signed32, raised, within_limits}
use Rattle.image.proofs.Signed.{limits_raised}
use Rattle.layout.specs.Layout.{word32, handset_table, edge_table, Signed32, RecordNumbers}
use Rattle.layout.proofs.Storing.{get_or_word}

-- ---- a coordinate

word_below : (z : ℤ) → mag z < 2147483648 → word32 z < 4294967296
unfolding word32
word_below (pos x) h = omega arith
word_below (negsuc x) h = omega arith

pub signed_word : (z : ℤ) → mag z < 2147483648 → signed32 (word32 z) ≡ z
unfolding word32 signed32
signed_word (pos x) h = rw (lt-ltb x 2147483648 h) refl
signed_word (negsuc x) h = rw (le-ltb (4294967295 - x) 2147483648 (omega arith)) (ap negsuc back)
  where
    back : 4294967295 - (4294967295 - x) ≡ x
    back = omega arith

pub word_signed : (w : ℕ) → w < 4294967296 → word32 (signed32 w) ≡ w
unfolding word32 signed32
word_signed w h =
    ⊎_elim
    (λ t. rw (T_true (ltb w 2147483648) t) refl)
    (λ t. rw (T_false (ltb w 2147483648) t) (omega (arith, nltb→le w 2147483648 t)))
    (decide (ltb w 2147483648))

shifted_word : (z : ℤ) → mag z < 2147483648 → shifted (word32 z) ≡ raised z
unfolding word32 raised
shifted_word (pos x) h = omega arith
shifted_word (negsuc x) h = omega arith

pub shifted_raised : (z : ℤ) → mag z < 2147483648 → shifted (raised z) ≡ word32 z
unfolding word32 raised
shifted_raised (pos x) h = omega arith
shifted_raised (negsuc x) h = omega arith

-- ---- places

module _ (records : List ℕ) where
  pub coordinate_place : (v i : ℕ) → i < coordinate_count
      → number coordinate_bytes (handset_record records v) (coordinate_bytes * i) ≡ number coordinate_bytes records (coordinate_bytes * (coordinate_count * v + i))
  unfolding handset_record
  coordinate_place v i h =
      number_slice coordinate_bytes records (handset_bytes * v) handset_bytes (coordinate_bytes * i) (omega arith) (omega arith)
      ∙ ap (number coordinate_bytes records) (omega arith)

  pub first_place : (k : ℕ) → end_a records k ≡ number end_bytes records (end_bytes * (end_count * k))
  unfolding end_a
  first_place k = ap (number end_bytes records) (omega arith)

  pub second_place : (k : ℕ) → end_b records k ≡ number end_bytes records (end_bytes * (end_count * k + 1))
  unfolding end_b
  second_place k = ap (number end_bytes records) (omega arith)

-- ---- tables in bytes

pub coordinate_written : (coords : List ℤ) → Signed32 coords → (j : ℕ) → j < length coords
    → number coordinate_bytes (handset_table coords) (coordinate_bytes * j) ≡ word32 (get_or coords j (pos 0))
coordinate_written coords signed j h =
    let e : word32 (get_or coords j (pos 0)) ≡ get_or (map word32 coords) j 0 = get_or_word coords j in
    number_table_bytes coordinate_bytes (map word32 coords) j (omega (arith, e, word_below (get_or coords j (pos 0)) (signed j))) (omega (arith, length-map coords word32))
    ∙ sym e

pub end_written : (ends : List ℕ) → Below 65536 ends → (j : ℕ) → j < length ends → number end_bytes (edge_table ends) (end_bytes * j) ≡ get_or ends j 0
end_written ends low j h = number_table_bytes end_bytes ends j (low j) h

coordinate_raised : (coords : List ℤ) → Signed32 coords → (v i : ℕ) → i < coordinate_count → coordinate_count * v + i < length coords
    → coordinate_of (handset_record (handset_table coords) v) i ≡ raised (get_or coords (coordinate_count * v + i) (pos 0))
unfolding coordinate_of
coordinate_raised coords signed v i l h =
    ap shifted (coordinate_place (handset_table coords) v i l ∙ coordinate_written coords signed (coordinate_count * v + i) h)
    ∙ shifted_word (get_or coords (coordinate_count * v + i) (pos 0)) (signed (coordinate_count * v + i))

out_of_limits_lem : (coords : List ℤ) → Signed32 coords → (v : ℕ) → coordinate_count * v + coordinate_count ≤ length coords
    → out_of_limits (handset_record (handset_table coords) v) ≡ any coordinate_count (λ i. not (within_limits (get_or coords (coordinate_count * v + i) (pos 0))))
unfolding out_of_limits
out_of_limits_lem coords signed v h =
    any_cong coordinate_count _ _
    (λ i l.
    ap not (ap in_limits (coordinate_raised coords signed v i l (omega arith))
    ∙ limits_raised (get_or coords (coordinate_count * v + i) (pos 0)) (signed (coordinate_count * v + i))))

pub record_numbers : RecordNumbers
record_numbers = record {
  coordinates = coordinate_raised;
  limits = out_of_limits_lem;
  first_ends = λ ends low k h. first_place (edge_table ends) k ∙ end_written ends low (end_count * k) h;
  second_ends = λ ends low k h. second_place (edge_table ends) k ∙ end_written ends low (end_count * k + 1) h;
}
