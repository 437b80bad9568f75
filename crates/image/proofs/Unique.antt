-- `Reading` leaves nothing free: two readings of one image have the same answer, rows and sizes. Words of 64 bits are equal where their bits are, and a
-- table of 4096 words has the 64 bits of each among its cells.
--
--     table_one       tables of one relation are equal; sizes_one: and so are the sizes of one table
--     reading_one     two readings of one image are equal; one_reading: as specs/Rows states it
use Rattle.std.specs.Prelude.{Err, Ok, Result}
use Prim.Native.Nat.{ℕ, ◌+◌, ◌*◌, ◌/◌, ◌%◌, ◌<◌}
use native.Mathlib.Omega.{arith}
use native.Mathlib.Nat.{mod-lt, zero-lt-suc}
use mathlib.Core.Path.{◌≡◌, sym, ◌∙◌, subst}
use mathlib.Core.Bool.{Bool}
use mathlib.Core.List.{List}
use lib.ListN.{length, get_or}
use lib.Seq.{ext_get_or}
use Rattle.sets.specs.Bits.{bit_of, Words}
use Rattle.sets.proofs.Words.{word_one, word_cell}
use Rattle.image.specs.Questions.{open_of}
use Rattle.sets.specs.Rows.{Table, Counted}
use Rattle.image.specs.Rows.{related, Reading, OneReading}
use Rattle.image.specs.declared.Header.{Header}
use Rattle.image.specs.declared.Refusal.{Refusal}
use Rattle.image.proofs.Answers.{open_same}

pub table_one : {rows other : List ℕ} (f : ℕ → ℕ → Bool) → length rows ≡ 4096 → length other ≡ 4096 → Words rows → Words other → Table rows f → Table other f → rows ≡ other
table_one {rows} {other} f l m b c t r =
    ext_get_or 0 rows other (l ∙ sym m) (λ i h. word_one 64 (get_or rows i 0) (get_or other i 0) (b i) (c i) (λ k q. bit_of_lem i k h q))
  where
    bit_of_lem : (i k : ℕ) → i < length rows → k < 64 → bit_of (get_or rows i 0) k ≡ bit_of (get_or other i 0) k
    bit_of_lem i k h q =
        let u : i / 8 < 512 = omega (arith, h, l) in
        let v : i % 8 * 64 + k < 512 = omega (arith, q, mod-lt i (zero-lt-suc 7)) in
        word_cell rows i k q ∙ t.bits (i / 8) (i % 8 * 64 + k) u v ∙ sym (word_cell other i k q ∙ r.bits (i / 8) (i % 8 * 64 + k) u v)

pub sizes_one : {rows sizes other : List ℕ} → length sizes ≡ 512 → length other ≡ 512 → Counted rows sizes → Counted rows other → sizes ≡ other
sizes_one {rows} {sizes} {other} l m c d =
    ext_get_or 0 sizes other (l ∙ sym m) (λ u h. let b : u < 512 = omega (arith, h, l) in c.rows u b ∙ sym (d.rows u b))

pub reading_one : (s : List ℕ) {a b : Result Header Refusal} {rows sizes rows' sizes' : List ℕ} → Words rows → Words rows' → Reading s a rows sizes → Reading s b rows' sizes'
    → (a ≡ b) × (rows ≡ rows') × (sizes ≡ sizes')
reading_one s {a} {b} {rows} {sizes} {rows'} {sizes'} w w' r r' =
    let t = go (open_of s) is is' in (is ∙ sym is', t.0, t.1)
  where
    is : a ≡ open_of s
    is = open_same a (open_of s) r.answered

    is' : b ≡ open_of s
    is' = open_same b (open_of s) r'.answered

    go : (o : Result Header Refusal) → a ≡ o → b ≡ o → (rows ≡ rows') × (sizes ≡ sizes')
    go (Ok h) e d =
        let same : rows ≡ rows' = table_one (related s) r.room.0 r'.room.0 w w' (r.held.table h e) (r'.held.table h d) in
        (same, sizes_one r.room.1 r'.room.1 (subst (λ (ws : List ℕ). Counted ws sizes) same (r.held.counted h e)) (r'.held.counted h d))
    go (Err x) e d = let c = r.cleared x e in let k = r'.cleared x d in (c.0 ∙ sym k.0, c.1 ∙ sym k.1)

pub one_reading : OneReading
one_reading = record { same = λ s a b rows sizes rows' sizes' w w' r r'. reading_one s w w' r r' }
