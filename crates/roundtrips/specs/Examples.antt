-- What the definitions make of a few sites, byte by byte, and the refusal of each question, worked out by hand (proved in proofs/Examples, as `examples`, by
-- computing). The bytes of the sites are those of crates/community/specs/Examples, which paper 01 describes.
--
--     given n m G p q mu          parameters
--     coords_s, ends_s              the two tables of site S
--     two x y z                   a coordinate table of two handsets: one at (0, 0, 0), one at (x, y, z)
--     gapped                      the pair at (-1, -1, 0) and (0, 1, 0) with the edge first and four bytes of no meaning before the handsets
--     Examples                    the list
use Rattle.std.specs.Prelude.{ℕ, ◌≡◌, List, [], ◌∷◌, ◌++◌, ℤ, pos, negsuc, replicate, Err, Ok}
use Rattle.image.specs.Answers.{refusal}
use Rattle.image.specs.Image.{header_of, handset_records, edge_records}
use Rattle.image.specs.Questions.{open_of}
use Rattle.community.specs.Examples.{header, small, minus, position, site_s, pair_neg, nobody}
use Rattle.layout.specs.Layout.{image_of}
use Rattle.layout.specs.declared.Parameters.{Parameters}
use Rattle.writer.specs.Writer.{encoded_of, buffer_after}

abbrev pub given : ℕ → ℕ → ℕ → ℕ → ℕ → ℕ → Parameters
given n m G p q mu = record { n = n; m = m; limit = G; p = p; q = q; mu = mu }

abbrev pub coords_s : List ℤ
coords_s = replicate 21 (pos 0)

abbrev pub ends_s : List ℕ
ends_s = 0 ∷ 1 ∷ 0 ∷ 2 ∷ 1 ∷ 2 ∷ 2 ∷ 3 ∷ 3 ∷ 4 ∷ 4 ∷ 5 ∷ 4 ∷ 6 ∷ 5 ∷ 6 ∷ []

abbrev pub two : ℤ → ℤ → ℤ → List ℤ
two x y z = pos 0 ∷ pos 0 ∷ pos 0 ∷ x ∷ y ∷ z ∷ []

abbrev pub gapped : List ℕ
gapped =
    header 2 1 40 32 64 5 1 2 3 ++ (1 ∷ 0 ∷ 0 ∷ 0 ∷ 9 ∷ 9 ∷ 9 ∷ 9 ∷ position (minus 1) (minus 1) (small 0) ++ position (small 0) (small 1) (small 0))

pub record Examples : Type 0 where
  -- the bytes: site S with mu 4 and with a blank mu, a pair with negative coordinates, no handset
  pub site_s_lem : image_of (given 7 8 0 1 2 4) coords_s ends_s ≡ site_s 1 2 4
  pub site_s_blank : image_of (given 7 8 0 1 2 0) coords_s ends_s ≡ site_s 1 2 0
  pub negative : image_of (given 2 1 5 1 2 3) (negsuc 0 ∷ negsuc 0 ∷ pos 0 ∷ pos 0 ∷ pos 1 ∷ pos 0 ∷ []) (1 ∷ 0 ∷ []) ≡ pair_neg 5
  pub no_handset : image_of (given 0 0 0 1 2 3) [] [] ≡ nobody
  -- the image with a gap is accepted, and its records are those of the image of the same pair without
  pub with_a_gap : open_of gapped ≡ Ok (header_of gapped)
  pub gap_handsets : handset_records gapped ≡ handset_records (pair_neg 5)
  pub gap_edges : edge_records gapped ≡ edge_records (pair_neg 5)
  -- a buffer of just the length, a byte longer, whose last byte stays, and a byte shorter
  pub just : encoded_of (given 7 8 0 1 2 4) coords_s ends_s 148 ≡ Ok 148
  pub longer : buffer_after (given 0 0 0 1 2 3) [] [] (replicate 32 9 ++ (7 ∷ [])) ≡ nobody ++ (7 ∷ [])
  pub short : encoded_of (given 7 8 0 1 2 4) coords_s ends_s 147 ≡ Err (refusal 20)
  pub no_room : encoded_of (given 0 0 0 1 2 3) [] [] 0 ≡ Err (refusal 20)
  pub short_kept : buffer_after (given 0 0 0 1 2 3) [] [] (9 ∷ 8 ∷ []) ≡ 9 ∷ 8 ∷ []
  -- each question with a buffer of no bytes, so that 20 comes last; a fault for each later question besides; and what just passes
  pub many : encoded_of (given 513 0 0 0 2 3) [] [] 0 ≡ Err (refusal 3)
  pub many_edges : encoded_of (given 0 4097 0 1 2 3) [] [] 0 ≡ Err (refusal 3)
  pub wide : encoded_of (given 65536 0 0 1 2 3) [] [] 0 ≡ Err (refusal 3)
  pub over_one : encoded_of (given 1 0 0 3 2 3) [] [] 0 ≡ Err (refusal 5)
  pub wide_mu : encoded_of (given 0 0 0 1 2 65536) [] [] 0 ≡ Err (refusal 5)
  pub limit_most_lem : encoded_of (given 0 0 12000000000000 1 2 3) [] [] 32 ≡ Ok 32
  pub limit_past : encoded_of (given 1 0 12000000000001 1 2 3) [] [] 0 ≡ Err (refusal 5)
  pub p_zero : encoded_of (given 1 0 0 0 2 3) [] [] 0 ≡ Err (refusal 5)
  pub q_past : encoded_of (given 1 0 0 1 1001 3) [] [] 0 ≡ Err (refusal 5)
  pub mu_past : encoded_of (given 1 0 0 1 2 513) [] [] 0 ≡ Err (refusal 5)
  pub one_more : encoded_of (given 1 0 0 1 2 3) (pos 1000001 ∷ pos 0 ∷ pos 0 ∷ pos 0 ∷ []) [] 0 ≡ Err (refusal 6)
  pub without_z : encoded_of (given 1 0 0 1 2 3) (pos 1000001 ∷ pos 0 ∷ []) [] 0 ≡ Err (refusal 6)
  pub one_fewer : encoded_of (given 2 1 0 1 2 3) (two (pos 0) (pos 0) (pos 0)) (0 ∷ []) 0 ≡ Err (refusal 6)
  pub handset_short : encoded_of (given 3 1 0 1 2 3) (two (pos 1000001) (pos 0) (pos 0)) (0 ∷ 1 ∷ []) 0 ≡ Err (refusal 6)
  pub edge_more : encoded_of (given 2 1 0 1 2 3) (two (pos 1000001) (pos 0) (pos 0)) (0 ∷ 1 ∷ 0 ∷ 0 ∷ []) 0 ≡ Err (refusal 6)
  pub far : encoded_of (given 2 1 0 1 2 3) (two (pos 0) (negsuc 1000000) (pos 0)) (0 ∷ 2 ∷ []) 0 ≡ Err (record { number = 7; place = 1 })
  pub far_z : encoded_of (given 2 1 0 1 2 3) (two (pos 0) (pos 0) (pos 1000001)) (0 ∷ 2 ∷ []) 0 ≡ Err (record { number = 7; place = 1 })
  pub at_the_limit : encoded_of (given 2 1 0 1 2 3) (two (pos 1000000) (negsuc 999999) (pos 1000000)) (0 ∷ 1 ∷ []) 60 ≡ Ok 60
  pub no_such_handset : encoded_of (given 2 2 0 1 2 3) (two (pos 0) (pos 0) (pos 0)) (0 ∷ 0 ∷ 0 ∷ 2 ∷ []) 0 ≡ Err (record { number = 8; place = 1 })
  pub loop : encoded_of (given 2 3 0 1 2 3) (two (pos 0) (pos 0) (pos 0)) (0 ∷ 1 ∷ 1 ∷ 0 ∷ 1 ∷ 1 ∷ []) 0 ≡ Err (record { number = 9; place = 2 })
  pub twice : encoded_of (given 2 2 0 1 2 3) (two (pos 0) (pos 0) (pos 0)) (0 ∷ 1 ∷ 1 ∷ 0 ∷ []) 0 ≡ Err (record { number = 10; place = 1 })
