-- A refusal as the number that C gets. include/divanegret.h says the same to a C reader.
--
--     refusal_code r     a refusal: number + 256 * place, made negative
--
-- A number or a place that might be larger than its share is cut off at the end of that share. No call's refusal is that large: divanegret/specs/Lossless.
use Rattle.std.specs.Prelude.{◌+◌, ◌*◌, min, ℤ, pos, neg_ℤ}
use Rattle.image.specs.declared.Refusal.{Refusal}

abbrev pub refusal_code : Refusal → ℤ
refusal_code r = neg_ℤ (pos (min r.number 255 + 256 * min r.place 4294967295))
