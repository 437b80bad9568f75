-- The records of the two tables as code reads them: each is the slice of its table from its place on, and a number in it is the table's.
--
--     slice_is           the slice from a to a + k is the k bytes from a on; edge_slice_is, handset_slice_is: so the slices that code hands on are the records
--     handset_slice_lem      the slice that a handset's record stands in is its record
--     ends_slice         the ends that the slice of an edge's record holds are the edge's ends
use Prim.Native.Nat.{ℕ, ◌+◌, ◌*◌, ◌-◌, ◌≤◌}
use native.Mathlib.Omega.{arith}
use native.Mathlib.Nat.{add-zero, add-sub_cancel_left}
use mathlib.Core.Path.{◌≡◌, ap, ◌∙◌}
use mathlib.Core.List.{List}
use lib.ListN.{length, take, drop}
use Rattle.little_endian.specs.Bytes.{number}
use Rattle.fields.specs.Fields.{handset_bytes, edge_bytes, ends_of}
use Rattle.little_endian.proofs.Bytes.{number_slice}
use Rattle.image.specs.Image.{header_of, handset_records, edge_records, handset_record, end_a, end_b}
use Rattle.image.specs.declared.Header.{Header}

pub slice_is : (s : List ℕ) (a k : ℕ) → take (a + k - a) (drop a s) ≡ take k (drop a s)
slice_is s a k = ap (λ (x : ℕ). take x (drop a s)) (add-sub_cancel_left a k)

-- the slices as code takes them, by a header
abbrev pub edge_slice : List ℕ → Header → List ℕ
edge_slice s h = take (h.edges + edge_bytes * h.m - h.edges) (drop h.edges s)

abbrev pub handset_slice : List ℕ → Header → List ℕ
handset_slice s h = take (h.handsets + handset_bytes * h.n - h.handsets) (drop h.handsets s)

module _ (s : List ℕ) (h : Header) (e : h ≡ header_of s) where
  pub edge_slice_is : edge_slice s h ≡ edge_records s
  unfolding edge_records
  edge_slice_is = slice_is s h.edges (edge_bytes * h.m) ∙ ap (λ (x : Header). take (edge_bytes * x.m) (drop x.edges s)) e

  pub handset_slice_is : handset_slice s h ≡ handset_records s
  unfolding handset_records
  handset_slice_is = slice_is s h.handsets (handset_bytes * h.n) ∙ ap (λ (x : Header). take (handset_bytes * x.n) (drop x.handsets s)) e

pub handset_slice_lem : (records : List ℕ) (v : ℕ) → take (handset_bytes * v + handset_bytes - handset_bytes * v) (drop (handset_bytes * v) records) ≡ handset_record records v
unfolding handset_record
handset_slice_lem records v = slice_is records (handset_bytes * v) handset_bytes

pub ends_slice : (records : List ℕ) (k : ℕ) → edge_bytes * k + edge_bytes ≤ length records
    → ends_of (take (edge_bytes * k + edge_bytes - edge_bytes * k) (drop (edge_bytes * k) records)) ≡ record { a = end_a records k; b = end_b records k }
unfolding ends_of end_a end_b
ends_slice records k h =
    ap ends_of (slice_is records (edge_bytes * k) edge_bytes)
    ∙ (λ i. record { a = (number_slice 2 records (edge_bytes * k) edge_bytes 0 (omega arith) (omega arith) ∙ ap (number 2 records) (add-zero (edge_bytes * k))) i; b = number_slice 2 records (edge_bytes * k) edge_bytes 2 (omega arith) (omega arith) i })
