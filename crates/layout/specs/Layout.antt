-- The image that the writer makes of a site's numbers (paper 02, order 5), byte by byte: the header, the handsets directly after it, the edges directly after
-- them.
--
--     header_for x             the header of the parameters x: n, m, G, p, q and mu as given, a blank mu left blank
--     header_bytes_of h         the bytes of a header
--     word32 c                a signed number of 32 bits as the number in its bytes, two's complement
--     handset_table coords     the handset records of a coordinate table, which has the coordinates of each handset in turn: x, then y, then z
--     edge_table ends          the edge records of a table that has the two ends of each edge in turn (paper 02: the tie table)
--     image_of x coords ends   the whole image
--     lengths_fit x a b        question 6 of the writer: tables of a coordinates and b ends have just the numbers that n handsets and m edges need
--     writes x a b room       `put_image` writes: the counts are within their limits, the tables of a coordinates and b ends are those of the counts, and a
--                             buffer of room bytes holds the image
--     Put x coords ends ..    what it leaves of a buffer l, and the length r that it gives; `sets l 0 vs` is l with vs stored from its first byte on
--     Signed32 coords         every number of a coordinate table is one of 32 bits, from -2,147,483,648 to 2,147,483,647: `mag` is k for k and for -(k + 1)
--     RecordNumbers           the theorem: the records of two tables have the tables' numbers, which are what questions 7 to 10 look at (proved in
--                             proofs/Numbers)
use Rattle.std.specs.Prelude.{ℕ, ◌+◌, ◌*◌, ◌-◌, ◌≤◌, ◌<◌, ◌≡◌, Bool, ◌&&◌, not, cond, List, ◌++◌, map, leb, eqb, ℤ, pos, negsuc, length, get_or}
use Rattle.std.specs.Int.Signed.{mag}
use Rattle.std.proofs.lemmas.List.Edits.{sets}
use Rattle.sets.specs.Below.{any}
use Rattle.little_endian.specs.Bytes.{le_bytes, table_bytes, Below}
use Rattle.fields.specs.Fields.{coordinate_bytes, coordinate_count, handset_bytes, end_bytes, end_count, edge_bytes, header_bytes, coordinate_of}
use Rattle.limits.specs.Limits.{counts_fit, out_of_limits}
use Rattle.image.specs.Image.{handset_record, end_a, end_b}
use Rattle.image.specs.Signed.{raised, within_limits}
use Rattle.image.specs.declared.Header.{Header}
use Rattle.layout.specs.declared.Parameters.{Parameters}

abbrev pub header_for : Parameters → Header
header_for x = record {
  n = x.n;
  m = x.m;
  handsets = header_bytes;
  edges = header_bytes + handset_bytes * x.n;
  len = header_bytes + handset_bytes * x.n + edge_bytes * x.m;
  limit = x.limit;
  p = x.p;
  q = x.q;
  mu = x.mu;
  width = handset_bytes;
}

unfoldable pub header_bytes_of : Header → List ℕ
unfolding le_bytes
header_bytes_of h =
    le_bytes 2 h.n ++ (le_bytes 2 h.m ++ (le_bytes 4 h.handsets ++ (le_bytes 4 h.edges ++ (le_bytes 4 h.len ++ (le_bytes 8 h.limit
    ++ (le_bytes 2 h.p ++ (le_bytes 2 h.q ++ (le_bytes 2 h.mu ++ le_bytes 2 h.width))))))))

unfoldable pub word32 : ℤ → ℕ
word32 (pos x) = x
word32 (negsuc x) = 4294967295 - x

abbrev pub handset_table : List ℤ → List ℕ
handset_table coords = table_bytes coordinate_bytes (map word32 coords)

abbrev pub edge_table : List ℕ → List ℕ
edge_table ends = table_bytes end_bytes ends

unfoldable pub image_of : Parameters → List ℤ → List ℕ → List ℕ
unfolding header_bytes_of table_bytes word32
image_of x coords ends = header_bytes_of (header_for x) ++ (handset_table coords ++ edge_table ends)

abbrev pub lengths_fit : Parameters → ℕ → ℕ → Bool
lengths_fit x a b = eqb a (coordinate_count * x.n) && eqb b (end_count * x.m)

abbrev pub writes : Parameters → ℕ → ℕ → ℕ → Bool
writes x a b room = counts_fit x.n x.m && (lengths_fit x a b && leb (header_for x).len room)

-- of the parameters x, the two tables and the buffer l as lent, the length r given back, and the buffer l' after the call
pub record Put (x : Parameters) (coords : List ℤ) (ends l : List ℕ) (r : ℕ) (l' : List ℕ) : Type 0 where
  pub buffer : l' ≡ cond (writes x (length coords) (length ends) (length l)) (sets l 0 (image_of x coords ends)) l
  pub size : r ≡ cond (writes x (length coords) (length ends) (length l)) (header_for x).len 0

abbrev pub Signed32 : List ℤ → Type 0
Signed32 coords = (i : ℕ) → mag (get_or coords i (pos 0)) < 2147483648

-- coordinate i of handset v, whether one is out of its limits, and the two ends of edge k
pub record RecordNumbers : Type 0 where
  pub coordinates : (coords : List ℤ) → Signed32 coords → (v i : ℕ) → i < coordinate_count → coordinate_count * v + i < length coords
      → coordinate_of (handset_record (handset_table coords) v) i ≡ raised (get_or coords (coordinate_count * v + i) (pos 0))
  pub limits : (coords : List ℤ) → Signed32 coords → (v : ℕ) → coordinate_count * v + coordinate_count ≤ length coords
      → out_of_limits (handset_record (handset_table coords) v) ≡ any coordinate_count (λ i. not (within_limits (get_or coords (coordinate_count * v + i) (pos 0))))
  pub first_ends : (ends : List ℕ) → Below 65536 ends → (k : ℕ) → end_count * k < length ends → end_a (edge_table ends) k ≡ get_or ends (end_count * k) 0
  pub second_ends : (ends : List ℕ) → Below 65536 ends → (k : ℕ) → end_count * k + 1 < length ends → end_b (edge_table ends) k ≡ get_or ends (end_count * k + 1) 0
