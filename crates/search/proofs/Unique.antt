-- `SearchCall` leaves nothing free: two outcomes of a call on the same tables have the same count and leave the same words. The count is the first number of
-- searches after which no core is left, a word of a row written has its 64 bits among the row's, and the others are as at entry.
--
--     searched_one     two searches of the same tables give the same
--     search_one       two outcomes of a call on the same tables are equal; one_search: as specs/Search states it
use Prim.Native.Nat.{ℕ, ◌+◌, ◌*◌, ◌/◌, ◌%◌, ◌<◌}
use native.Mathlib.Omega.{arith}
use native.Mathlib.Decide.{dec_lt, ℕ_discrete}
use native.Mathlib.Nat.{mod-lt, zero-lt-suc}
use mathlib.Core.Path.{◌≡◌, sym, ◌∙◌}
use mathlib.Core.Logic.{⊎_elim}
use mathlib.Core.List.{List}
use lib.Dec.{T_not}
use lib.ListN.{length, get_or}
use lib.Seq.{ext_get_or}
use Rattle.sets.specs.Below.{any}
use Rattle.sets.specs.Bits.{bit_of, Words}
use Rattle.sets.proofs.Tests.{three}
use Rattle.sets.proofs.Words.{word_one, word_cell}
use Rattle.search.specs.Search.{left_after, Searched, Sized, SearchCall, OneSearch}

module _ (rows cores : List ℕ) where
  -- a search that is over does not go on
  no_more : {a b : List ℕ} {r q : ℕ} → Searched rows cores a r → Searched rows cores b q → r < q → ⊥
  no_more {r = r} s t h = T_not (any 512 (left_after rows cores r)) s.none_left (t.some_left r h)

  pub searched_one : {after after' : List ℕ} {r r' : ℕ} → Words after → Words after' → Searched rows cores after r → Searched rows cores after' r'
      → (after ≡ after') × (r ≡ r')
  searched_one {after} {after'} {r} {r'} w w' s t = (ext_get_or 0 after after' (s.size ∙ sym t.size) (λ i h. pick i (dec_lt i (8 * r))), count)
    where
      count : r ≡ r'
      count = ⊎_elim (λ e. e) (λ o. absurd (⊎_elim (no_more s t) (no_more t s) o)) (three r r')

      bits : (i k : ℕ) → i < 8 * r → k < 64 → bit_of (get_or after i 0) k ≡ bit_of (get_or after' i 0) k
      bits i k h q =
          let v : i % 8 * 64 + k < 512 = omega (arith, q, mod-lt i (zero-lt-suc 7)) in
          word_cell after i k q ∙ s.row (i / 8) (i % 8 * 64 + k) (omega (arith, h)) v
          ∙ sym (word_cell after' i k q ∙ t.row (i / 8) (i % 8 * 64 + k) (omega (arith, h, count)) v)

      pick : (i : ℕ) → Dec (i < 8 * r) → get_or after i 0 ≡ get_or after' i 0
      pick i (yes h) = word_one 64 (get_or after i 0) (get_or after' i 0) (w i) (w' i) (λ k q. bits i k h q)
      pick i (no d) = s.kept i (omega (arith, d)) ∙ sym (t.kept i (omega (arith, d, count)))

  pub search_one : {after after' : List ℕ} {r r' : ℕ} → Words after → Words after' → SearchCall rows cores after r → SearchCall rows cores after' r'
      → (after ≡ after') × (r ≡ r')
  search_one {after} {after'} {r} {r'} w w' s t = pick (ℕ_discrete (length rows) 4096) (ℕ_discrete (length cores) 8)
    where
      other : (Sized rows cores → ⊥) → (after ≡ after') × (r ≡ r')
      other n = let a = s.left_alone n in let b = t.left_alone n in (a.0 ∙ sym b.0, a.1 ∙ sym b.1)

      pick : Dec (length rows ≡ 4096) → Dec (length cores ≡ 8) → (after ≡ after') × (r ≡ r')
      pick (yes p) (yes q) = searched_one w w' (s.searched (p, q)) (t.searched (p, q))
      pick (yes p) (no d) = other (λ z. d z.1)
      pick (no d) q = other (λ z. d z.0)

pub one_search : OneSearch
one_search = record { same = λ rows cores after after' r r' w w' s t. search_one rows cores w w' s t }
