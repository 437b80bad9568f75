-- The list of the handsets that a set of bits holds.
--
--     held_members       the members of a set of bits that holds the handsets below n that pass f
use Prim.Native.Nat.{ℕ, ◌≤◌, ◌<◌}
use mathlib.Core.Path.{◌≡◌, ap, ◌∙◌}
use mathlib.Core.Bool.{Bool, ◌&&◌}
use mathlib.Core.List.{List}
use lib.Dec.{eqb, ltb}
use borrow.Author.Tests.{lt-ltb, le-ltb}
use Rattle.sets.specs.Below.{select, bit}
use Rattle.sets.specs.Bits.{bit_at}
use Rattle.sets.proofs.Counting.{bit_test}
use Rattle.sets.proofs.Selecting.{select_same, select_cong}
use Rattle.text.specs.Text.{elements_of}

-- a set of bits that holds the handsets below n that pass f
pub held_members : (ws : List ℕ) (n : ℕ) (f : ℕ → Bool) → n ≤ 512
    → ((v : ℕ) → v < 512 → bit_at ws v ≡ bit (ltb v n && f v)) → elements_of ws ≡ select n f
unfolding elements_of
held_members ws n f h e =
    let m : ℕ → Bool = λ v. ltb v n && f v in
    select_cong 512 (λ v. eqb (bit_at ws v) 1) m (λ v l. ap (λ (b : ℕ). eqb b 1) (e v l) ∙ bit_test (m v))
    ∙ select_same n 512 m h (λ v l q. rw (le-ltb v n l) (λ t. t))
    ∙ select_cong n m f (λ v l. rw (lt-ltb v n l))
