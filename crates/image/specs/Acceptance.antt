-- When an image is accepted: the theorem, proved in proofs/Acceptance.
--
--     Acceptance    the reader answers a header exactly when every question gets a yes, and the header is that of the image
use Rattle.std.specs.Prelude.{ℕ, ◌≡◌, List, Ok}
use Rattle.image.specs.Image.{header_of}
use Rattle.image.specs.Questions.{open_of, Accepted}
use Rattle.image.specs.declared.Header.{Header}

pub record Acceptance : Type 0 where
  pub only_accepted : (s : List ℕ) (h : Header) → open_of s ≡ Ok h → Accepted s
  pub the_header : (s : List ℕ) (h : Header) → open_of s ≡ Ok h → h ≡ header_of s
  pub every_accepted : (s : List ℕ) → Accepted s → open_of s ≡ Ok (header_of s)
