-- Text as a list of bytes, and what a function that writes text has done.
--
--     Wrote l at vs l' r    the buffer l with the bytes vs stored from index at on, as far as it reaches, is l'; r is the position after vs
--     Writes t vs t'        the same of a text t and the text t' after: it is in the same buffer
--     bytes s               the bytes of a text of ASCII characters
--     digits_of k n          the lowest k decimal digits of n, or all where it has fewer; digit d is the byte 48 + d
--     decimal n             the decimal digits of n, with no leading zero; for a number of 64 bits
--     numbers l             each number of l after a space
--     elements_of ws         the members below 512 of a set of bits, ascending
--
-- The laws are in proofs/Writing.
use Rattle.std.specs.Prelude.{ℕ, zero, suc, ◌+◌, ◌/◌, ◌%◌, ◌<◌, min, ◌≡◌, cond, List, [], ◌∷◌, ◌++◌, ltb, eqb, length}
use Prim.Native.Char.{code}
use Prim.Native.String.{String, [] as empty, ◌∷◌ as ◌then◌}
use Rattle.std.proofs.lemmas.List.Edits.{sets}
use Rattle.sets.specs.Below.{select}
use Rattle.sets.specs.Bits.{bit_at}
use Rattle.text.specs.declared.Text.{Text}

-- positions stop at 2 ^ 63, which no buffer reaches
pub record Wrote (l : List ℕ) (at : ℕ) (vs l' : List ℕ) (r : ℕ) : Type 0 where
  pub list : l' ≡ sets l at vs
  pub next : r ≡ min (at + length vs) 9223372036854775808

-- a buffer is shorter than the last position
pub record Writes (t : Text) (vs : List ℕ) (t' : Text) : Type 0 where
  pub same_reference : t'.buffer.ghost_name ≡ t.buffer.ghost_name
  pub short : length t.buffer.now < 9223372036854775808
  pub wrote : Wrote t.buffer.now t.position vs t'.buffer.now t'.position

-- the code of each character
abbrev pub bytes : String → List ℕ
bytes empty = []
bytes (c then s) = code c ∷ bytes s

unfoldable pub digits_of : ℕ → ℕ → List ℕ
digits_of zero n = []
digits_of (suc k) n = cond (ltb n 10) ((48 + n) ∷ []) (digits_of k (n / 10) ++ ((48 + n % 10) ∷ []))

-- no number of 64 bits has more than 20 digits
unfoldable pub decimal : ℕ → List ℕ
decimal n = digits_of 20 n

unfoldable pub numbers : List ℕ → List ℕ
numbers [] = []
numbers (x ∷ l) = (32 ∷ decimal x) ++ numbers l

unfoldable pub elements_of : List ℕ → List ℕ
elements_of ws = select 512 (λ v. eqb (bit_at ws v) 1)
