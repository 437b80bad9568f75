-- These definitions only serve the proofs; a caller need not believe them.
-- What the contracts inside this crate and `reporting` say of a text.
--
--     fields_line l           a line of labels, each with its number
--     most_bytes c            no report of so many groups and memberships is longer (proofs/Lengths: text_most)
use Rattle.std.specs.Prelude.{ℕ, ◌+◌, ◌*◌, List, [], ◌∷◌, ◌++◌}
use Rattle.std.specs.Borrow.{Bor}
use Rattle.rows.specs.declared.Counts.{Counts}
use Rattle.text.specs.Text.{decimal}
use Rattle.lines.specs.Lines.{newline}

abbrev pub fields_line : List (Bor (List ℕ) × ℕ) → List ℕ
fields_line [] = newline
fields_line (field ∷ l) = field.0.now ++ (decimal field.1 ++ fields_line l)

-- 160 bytes for what stands before a group's members, four for a member, and the rest for the other lines
abbrev pub most_bytes : Counts → ℕ
most_bytes c = 4608 + 160 * c.groups + 4 * c.memberships
