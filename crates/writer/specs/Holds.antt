-- The numbers of a site in an image, wherever its tables of records stand.
--
--     parameters_of h           the parameters that a header has
--     Holds s x coords ends    the image s has the numbers of x in its header, and those of the two tables in its records, in their order
use Rattle.std.specs.Prelude.{ℕ, ◌+◌, ◌*◌, ◌<◌, ◌≡◌, List, ℤ, pos, length, get_or}
use Rattle.fields.specs.Fields.{coordinate_count, end_count}
use Rattle.image.specs.Image.{header_of, edge_records, end_a, end_b}
use Rattle.image.specs.Signed.{signed_coordinate}
use Rattle.image.specs.declared.Header.{Header}
use Rattle.layout.specs.declared.Parameters.{Parameters}

abbrev pub parameters_of : Header → Parameters
parameters_of h = record { n = h.n; m = h.m; limit = h.limit; p = h.p; q = h.q; mu = h.mu }

pub record Holds (s : List ℕ) (x : Parameters) (coords : List ℤ) (ends : List ℕ) : Type 0 where
  pub parameters : parameters_of (header_of s) ≡ x
  pub coordinate_count_lem : length coords ≡ coordinate_count * x.n
  pub end_count_lem : length ends ≡ end_count * x.m
  pub coordinates : (v i : ℕ) → v < x.n → i < coordinate_count → signed_coordinate s v i ≡ get_or coords (coordinate_count * v + i) (pos 0)
  pub first_ends : (k : ℕ) → k < x.m → end_a (edge_records s) k ≡ get_or ends (end_count * k) 0
  pub second_ends : (k : ℕ) → k < x.m → end_b (edge_records s) k ≡ get_or ends (end_count * k + 1) 0
