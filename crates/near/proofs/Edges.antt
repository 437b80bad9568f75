-- The edge records as code reads them, and the near test of an edge's ends by the handset records.
--
--     drop_capped    past the end of a list it does not matter how far
--     ends_rest      the ends that the edge records hold from edge k's record on are those of edge k
--     ends_there, ends_missing    the test of two handsets by their numbers, by whether both records are there
--     ends_most      ends that are near are no farther apart than the limit
--     ends_accepted  of an edge of an accepted image, the test by the handset records is the test of its ends
use Rattle.std.specs.Prelude.{None, Some}
use Rattle.std.proofs.Common.{◌≡◌, ℕ, ◌+◌, ◌*◌, ◌<◌, ◌≤◌, min, Bool, true, false, cond, ◌&&◌, ltb, List, length, drop, sym, refl, ap, ◌∙◌, ap₂, arith, lt-ltb, ◌⊎◌, inl, inr}
use borrow.Author.Tests.{le-ltb}
use lib.ListN.{drop_of_length-le}
use lib.Seq.{drop-drop}
use native.Mathlib.Decide.{dec_lt}
use Rattle.little_endian.specs.Bytes.{number}
use Rattle.little_endian.proofs.Bytes.{number_drop}
use Rattle.fields.specs.Fields.{end_bytes, edge_bytes, ends_of}
use Rattle.image.specs.Image.{handset_count, edge_count, limit_of, handset_records, handset_record, edge_records, end_a, end_b}
use Rattle.image.specs.Questions.{Accepted}
use Rattle.image.proofs.Acceptance.{handsets_length, ends_below}
use Rattle.near.specs.Near.{proximity_of, handsets_in, ends_proximity, proximity}
use Rattle.near.proofs.Near.{near_apart, near_most, edge_proximity_lem}

-- past the end of a list it does not matter how far
pub drop_capped : (l : List ℕ) (at most n : ℕ) → length l ≤ most → n ≡ min at most → drop n l ≡ drop at l
drop_capped l at most n h e = pick (dec_lt most at)
  where
    pick : Dec (most < at) → drop n l ≡ drop at l
    pick (yes q) = drop_of_length-le l (omega arith) ∙ sym (drop_of_length-le l (omega arith))
    pick (no q) = ap (λ (k : ℕ). drop k l) (omega arith)

number_rest : (s : List ℕ) (from at : ℕ) → number end_bytes (drop from s) at ≡ number end_bytes s (from + at)
number_rest s from at =
    sym (number_drop end_bytes (drop from s) at) ∙ ap (λ (l : List ℕ). number end_bytes l 0) (drop-drop at from s) ∙ number_drop end_bytes s (from + at)

pub ends_rest : (records : List ℕ) (k : ℕ) → ends_of (drop (edge_bytes * k) records) ≡ record { a = end_a records k; b = end_b records k }
unfolding ends_of end_a end_b
ends_rest records k =
    λ i. record { a = number_drop end_bytes records (edge_bytes * k) i; b = number_rest records (edge_bytes * k) end_bytes i }

-- the test by the records, where both are there, and where one is not
pub ends_there : (handsets a b : List ℕ) (u v limit : ℕ) → u < handsets_in handsets → v < handsets_in handsets → a ≡ handset_record handsets u → b ≡ handset_record handsets v
    → proximity_of a b limit ≡ ends_proximity handsets u v limit
unfolding ends_proximity
ends_there handsets a b u v limit h l e d = rw (e, d, lt-ltb u (handsets_in handsets) h, lt-ltb v (handsets_in handsets) l) refl

pub ends_missing : (handsets : List ℕ) (u v limit : ℕ) → (handsets_in handsets ≤ u) ⊎ (handsets_in handsets ≤ v) → None ≡ ends_proximity handsets u v limit
unfolding ends_proximity
ends_missing handsets u v limit (inl h) = rw (le-ltb u (handsets_in handsets) h) refl
ends_missing handsets u v limit (inr h) = go (ltb u (handsets_in handsets))
  where
    go : (b : Bool) → None ≡ cond (b && ltb v (handsets_in handsets)) (proximity_of (handset_record handsets u) (handset_record handsets v) limit) None
    go true = rw (le-ltb v (handsets_in handsets) h) refl
    go false = refl

pub ends_most : (handsets : List ℕ) (u v limit d : ℕ) → ends_proximity handsets u v limit ≡ Some d → d ≤ limit
unfolding ends_proximity
ends_most handsets u v limit d e = go (ltb u (handsets_in handsets) && ltb v (handsets_in handsets)) e
  where
    go : (b : Bool) → cond b (proximity_of (handset_record handsets u) (handset_record handsets v) limit) None ≡ Some d → d ≤ limit
    go true q = (near_most (handset_record handsets u) (handset_record handsets v) limit d q).1
    go false q = near_apart d q

pub ends_accepted : (s : List ℕ) → Accepted s → (k : ℕ) → k < edge_count s
    → ends_proximity (handset_records s) (end_a (edge_records s) k) (end_b (edge_records s) k) (limit_of s) ≡ proximity s (end_a (edge_records s) k) (end_b (edge_records s) k)
unfolding ends_proximity
ends_accepted s ok k h =
    let hs : List ℕ = handset_records s in
    let a : ℕ = end_a (edge_records s) k in
    let b : ℕ = end_b (edge_records s) k in
    let there : (v : ℕ) → v < handset_count s → ltb v (handsets_in hs) ≡ true = λ v l. lt-ltb v (handsets_in hs) (omega (arith, l, handsets_length s ok.header)) in
    let below = ends_below s ok k h in
    ap₂ (λ (x y : Bool). cond (x && y) (proximity_of (handset_record hs a) (handset_record hs b) (limit_of s)) None) (there a below.0) (there b below.1)
    ∙ sym (edge_proximity_lem s ok k h)
