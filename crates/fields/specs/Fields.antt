-- What the fields of the image mean (paper 01, "The site image"), how many bytes the header and a record have, and the limits of a coordinate.
--
--     header_bytes        how many bytes the header has
--     coordinate_bytes    how many bytes a coordinate has
--     coordinate_count    how many coordinates a handset has: x and y in paper 01, x, y and z since paper 02, order 7
--     handset_bytes       how many bytes a handset's record has
--     end_bytes           how many bytes an end has
--     end_count           how many ends an edge has
--     edge_bytes          how many bytes an edge's record has
--     blank_mu            what a blank mu, 0, means: 3 in paper 01, 4 since paper 02, order 3
--     core_size mu        how many handsets make a core: mu, or blank_mu where it is blank
--     coordinate_of r i   coordinate i of a handset's record, plus 2 ^ 31
--     shifted x          the coordinate that the four bytes of x hold, plus 2 ^ 31
--     coordinate_limit    how far from 0 a coordinate may be
--     in_limits x         a coordinate, plus 2 ^ 31, is from -1,000,000 to 1,000,000 (image/specs/Signed: exactly when the signed number is)
--     gap a b            how far apart two numbers are
--     ends_of r           the two ends of an edge, from its record
use Rattle.std.specs.Prelude.{ℕ, zero, suc, ◌+◌, ◌*◌, ◌-◌, ◌%◌, Bool, ◌&&◌, List, leb}
use Rattle.little_endian.specs.Bytes.{number}
use Rattle.fields.specs.declared.Ends.{Ends}

abbrev pub header_bytes : ℕ
header_bytes = 32

abbrev pub coordinate_bytes : ℕ
coordinate_bytes = 4

abbrev pub coordinate_count : ℕ
coordinate_count = 3

abbrev pub handset_bytes : ℕ
handset_bytes = coordinate_bytes * coordinate_count

abbrev pub end_bytes : ℕ
end_bytes = 2

abbrev pub end_count : ℕ
end_count = 2

abbrev pub edge_bytes : ℕ
edge_bytes = end_bytes * end_count

abbrev pub blank_mu : ℕ
blank_mu = 4

abbrev pub core_size : ℕ → ℕ
core_size zero = blank_mu
core_size (suc k) = suc k

-- A coordinate is a two's complement number of 32 bits. `shifted` is that number plus 2 ^ 31, which is never negative, and two of these
-- are as far apart as the two signed numbers.
abbrev pub shifted : ℕ → ℕ
shifted x = (x + 2147483648) % 4294967296

unfoldable pub coordinate_of : List ℕ → ℕ → ℕ
unfolding number
coordinate_of r i = shifted (number coordinate_bytes r (coordinate_bytes * i))

abbrev pub coordinate_limit : ℕ
coordinate_limit = 1000000

abbrev pub in_limits : ℕ → Bool
in_limits x = leb (2147483648 - coordinate_limit) x && leb x (2147483648 + coordinate_limit)

-- one of the two differences is 0
abbrev pub gap : ℕ → ℕ → ℕ
gap a b = (a - b) + (b - a)

unfoldable pub ends_of : List ℕ → Ends
unfolding number
ends_of r = record { a = number end_bytes r 0; b = number end_bytes r end_bytes }
