-- The rows of an image's edges, as the reader leaves them: a row of eight words for each handset, one bit a handset, and the size of each row.
--
--     related s              the relation of an image: the same handset, or adjacent
--     Room rows sizes        the tables have room for 512 rows
--     zeros n                n zeros
--     Cleared rows sizes     the tables are 0 everywhere
--     Held f answer ..       after a yes the rows hold f, and the sizes are theirs
--     Reading s answer ..    what the reader tells and leaves: after a yes the rows of `related` and their sizes, after a no two cleared tables
--     OneReading             the theorem: two readings of one image, in tables of words of 64 bits, tell and leave the same (proved in proofs/Unique)
use Rattle.std.specs.Prelude.{ℕ, ◌≡◌, Bool, ◌&&◌, ◌||◌, List, ltb, eqb, length, replicate, Err, Ok, Result}
use Rattle.sets.specs.Bits.{Words}
use Rattle.sets.specs.Rows.{table_words, Table, Counted}
use Rattle.image.specs.Image.{handset_count, adjacent}
use Rattle.image.specs.Questions.{open_of}
use Rattle.image.specs.Answers.{open_answer}
use Rattle.image.specs.declared.Header.{Header}
use Rattle.image.specs.declared.Refusal.{Refusal}

unfoldable pub related : List ℕ → ℕ → ℕ → Bool
unfolding adjacent
related s u v = (ltb u (handset_count s) && eqb u v) || adjacent s u v

abbrev pub Room : List ℕ → List ℕ → Type 0
Room rows sizes = (length rows ≡ table_words) × (length sizes ≡ 512)

abbrev pub zeros : ℕ → List ℕ
zeros n = replicate n 0

abbrev pub Cleared : List ℕ → List ℕ → Type 0
Cleared rows sizes = (rows ≡ zeros table_words) × (sizes ≡ zeros 512)

pub record Held (f : ℕ → ℕ → Bool) (answer : Result Header Refusal) (rows sizes : List ℕ) : Type 0 where
  pub table : (h : Header) → answer ≡ Ok h → Table rows f
  pub counted : (h : Header) → answer ≡ Ok h → Counted rows sizes

pub record Reading (s : List ℕ) (answer : Result Header Refusal) (rows sizes : List ℕ) : Type 0 where
  pub answered : open_answer answer ≡ open_answer (open_of s)
  pub room : Room rows sizes
  pub held : Held (related s) answer rows sizes
  pub cleared : (x : Refusal) → answer ≡ Err x → Cleared rows sizes

pub record OneReading : Type 0 where
  pub same : (s : List ℕ) (a b : Result Header Refusal) (rows sizes rows' sizes' : List ℕ) → Words rows → Words rows' → Reading s a rows sizes → Reading s b rows' sizes'
      → (a ≡ b) × (rows ≡ rows') × (sizes ≡ sizes')
