-- Laws for the code that writes an image: a write at a place that is there, the tests of `put_image`, and the parts of an image one after the other.
--
--     next                one write more, into a list whose length is known
--     get_or_word           a number of a coordinate table as the word that is written
--     parts               the two halves of the header and the two tables, written one after the other, are the image
--     Fitting, fitting    what all tests say
--     writes_by           whether the image is written, where the counts fit; uncounted: it is not where they do not; writes_yes, -no: what `put_image` does then
use Prim.Native.Nat.{ℕ, ◌+◌, ◌*◌, ◌≤◌}
use native.Mathlib.Omega.{arith}
use mathlib.Core.Path.{◌≡◌, refl, sym, ap, ap₂, ◌∙◌, subst}
use mathlib.Core.Bool.{Bool, true, false, ◌&&◌, cond}
use mathlib.Core.List.{List, ◌++◌, map}
use lib.Dec.{T, leb, eqb, leb→le, eqb→eq}
use lib.IntN.{ℤ, pos}
use lib.ListN.{length, get_or, length-map, get_or-map}
use lib.Seq.{sets, length-sets}
use Rattle.sets.proofs.Tests.{T_true, and_left, and_right}
use Rattle.sets.proofs.Writing.{sets_append}
use Rattle.little_endian.specs.Bytes.{le_bytes, stored}
use Rattle.little_endian.proofs.Writing.{stored_there, length_table_bytes}
use Rattle.fields.specs.Fields.{coordinate_bytes, coordinate_count, end_count, header_bytes}
use Rattle.limits.specs.Limits.{counts_fit}
use Rattle.image.proofs.Acceptance.{counts_limits}
use Rattle.layout.specs.Layout.{header_for, header_bytes_of, word32, handset_table, edge_table, image_of, lengths_fit, writes, Put}
use Rattle.layout.specs.ForProofs.{counts_bytes, thresholds_bytes}
use Rattle.layout.specs.declared.Parameters.{Parameters}

-- of a list s that is l, of k numbers, and what a write leaves of it
pub next : {s' : List ℕ} (s l : List ℕ) (k w at v : ℕ) → s' ≡ stored w s at v → (s ≡ l) × (length l ≡ k) → at + w ≤ k
    → (s' ≡ sets l at (le_bytes w v)) × (length (sets l at (le_bytes w v)) ≡ k)
next s l k w at v f e h = (
  f ∙ stored_there w s at v (omega (arith, ap length e.0, e.1)) ∙ ap (λ (t : List ℕ). sets t at (le_bytes w v)) e.0,
  length-sets l at (le_bytes w v) ∙ e.1,
)

pub get_or_word : (coords : List ℤ) (i : ℕ) → word32 (get_or coords i (pos 0)) ≡ get_or (map word32 coords) i 0
unfolding word32
get_or_word coords i = sym (get_or-map word32 coords i (pos 0))

header_parts : (x : Parameters) → counts_bytes x.n x.m (header_for x).edges (header_for x).len ++ thresholds_bytes x.limit x.p x.q x.mu ≡ header_bytes_of (header_for x)
unfolding counts_bytes thresholds_bytes header_bytes_of le_bytes
header_parts x = refl

header_long : (x : Parameters) → length (header_bytes_of (header_for x)) ≡ header_bytes
unfolding header_bytes_of le_bytes
header_long x = refl

counts_long : (x : Parameters) → length (counts_bytes x.n x.m (header_for x).edges (header_for x).len) ≡ 16
unfolding counts_bytes le_bytes
counts_long x = refl

pub parts : (x : Parameters) (coords : List ℤ) (ends s s₁ s₂ s₃ s₄ : List ℕ)
    → s₁ ≡ sets s 0 (counts_bytes x.n x.m (header_for x).edges (header_for x).len) → s₂ ≡ sets s₁ 16 (thresholds_bytes x.limit x.p x.q x.mu)
    → s₃ ≡ sets s₂ header_bytes (handset_table coords) → s₄ ≡ sets s₃ (header_bytes + coordinate_bytes * length coords) (edge_table ends)
    → s₄ ≡ sets s 0 (image_of x coords ends)
unfolding image_of
parts x coords ends s s₁ s₂ s₃ s₄ e₁ e₂ e₃ e₄ =
    let a : List ℕ = counts_bytes x.n x.m (header_for x).edges (header_for x).len in
    let b : List ℕ = thresholds_bytes x.limit x.p x.q x.mu in
    let h : List ℕ = header_bytes_of (header_for x) in
    let at : 16 ≡ 0 + length a = omega (arith, counts_long x) in
    let front : s₂ ≡ sets s 0 h = e₂ ∙ ap₂ (λ (t : List ℕ) (k : ℕ). sets t k b) e₁ at ∙ sym (sets_append s 0 a b) ∙ ap (sets s 0) (header_parts x) in
    let from : header_bytes ≡ 0 + length h = omega (arith, header_long x) in
    let handsets : s₃ ≡ sets (sets s 0 h) (0 + length h) (handset_table coords) = e₃ ∙ ap₂ (λ (t : List ℕ) (k : ℕ). sets t k (handset_table coords)) front from in
    let past : header_bytes + coordinate_bytes * length coords ≡ 0 + length h + length (handset_table coords) =
    omega (arith, header_long x, length_table_bytes coordinate_bytes (map word32 coords), length-map coords word32) in
    e₄ ∙ ap₂ (λ (t : List ℕ) (k : ℕ). sets t k (edge_table ends)) handsets past
    ∙ sym (sets_append (sets s 0 h) (0 + length h) (handset_table coords) (edge_table ends))
    ∙ sym (sets_append s 0 h (handset_table coords ++ edge_table ends))

-- ---- the tests

-- what the tests say of tables of a coordinates and b ends, and of a buffer of room bytes
pub record Fitting (x : Parameters) (a b room : ℕ) : Type 0 where
  pub n_limit : x.n ≤ 512
  pub m_limit : x.m ≤ 4096
  pub coordinates : a ≡ coordinate_count * x.n
  pub ends : b ≡ end_count * x.m
  pub holds : (header_for x).len ≤ room

pub fitting : (x : Parameters) (a b room : ℕ) → T (counts_fit x.n x.m) → (lengths_fit x a b && leb (header_for x).len room) ≡ true → Fitting x a b room
fitting x a b room c e =
    let t : T (lengths_fit x a b && leb (header_for x).len room) = subst T (sym e) tt in
    let l : T (lengths_fit x a b) = and_left (lengths_fit x a b) (leb (header_for x).len room) t in record {
      n_limit = (counts_limits x.n x.m c).0;
      m_limit = (counts_limits x.n x.m c).1;
      coordinates = eqb→eq a (coordinate_count * x.n) (and_left (eqb a (coordinate_count * x.n)) (eqb b (end_count * x.m)) l);
      ends = eqb→eq b (end_count * x.m) (and_right (eqb a (coordinate_count * x.n)) (eqb b (end_count * x.m)) l);
      holds = leb→le (header_for x).len room (and_right (lengths_fit x a b) (leb (header_for x).len room) t);
    }

module _ (x : Parameters) (coords : List ℤ) (ends s : List ℕ) where
  -- of counts that fit, what is left to test
  pub writes_by : (b : Bool) → T (counts_fit x.n x.m) → (lengths_fit x (length coords) (length ends) && leb (header_for x).len (length s)) ≡ b
      → writes x (length coords) (length ends) (length s) ≡ b
  writes_by b c e = ap (λ (a : Bool). a && (lengths_fit x (length coords) (length ends) && leb (header_for x).len (length s))) (T_true (counts_fit x.n x.m) c) ∙ e

  -- of counts that do not
  pub uncounted : counts_fit x.n x.m ≡ false → writes x (length coords) (length ends) (length s) ≡ false
  uncounted e = ap (λ (a : Bool). a && (lengths_fit x (length coords) (length ends) && leb (header_for x).len (length s))) e

  pub writes_yes : {s' : List ℕ} {r : ℕ} → writes x (length coords) (length ends) (length s) ≡ true → s' ≡ sets s 0 (image_of x coords ends) → r ≡ (header_for x).len
      → Put x coords ends s r s'
  writes_yes t e d = record {
    buffer = e ∙ ap (λ (b : Bool). cond b (sets s 0 (image_of x coords ends)) s) (sym t);
    size = d ∙ ap (λ (b : Bool). cond b (header_for x).len 0) (sym t);
  }

  pub writes_no : writes x (length coords) (length ends) (length s) ≡ false → Put x coords ends s 0 s
  writes_no f = record {
    buffer = ap (λ (b : Bool). cond b (sets s 0 (image_of x coords ends)) s) (sym f);
    size = ap (λ (b : Bool). cond b (header_for x).len 0) (sym f);
  }
