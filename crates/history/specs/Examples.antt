-- Examples of the older meanings, from the images' bytes (proved in proofs/Examples, as `examples`, by computing). The bytes of today's images are those of
-- crates/community/specs/Examples.
--
--     planar_s     site S with mu 4 as it was written until paper 02, order 7: no z, and zero in bytes 30 and 31
--     planar G    two handsets, tied, at (-1, -1) and (0, 1), as they were written until then: the edge first, G for the near distance
--     Examples    the list
use Rattle.std.specs.Prelude.{ℕ, ◌≡◌, true, false, List, ◌∷◌, ◌++◌, pos, negsuc, take, replicate, Err}
use Rattle.image.specs.Answers.{refusal}
use Rattle.image.specs.Questions.{open_of}
use Rattle.community.specs.Examples.{header, small, minus, edges_s, pair}
use Rattle.history.specs.NearTest.{older_neighbour}
use Rattle.history.specs.TakenOver.{planar_coordinate, planar_near}

-- seven records of eight bytes that are 0
abbrev pub planar_s : List ℕ
planar_s = take 30 (header 7 8 32 88 120 0 1 2 4) ++ (0 ∷ 0 ∷ replicate 56 0 ++ edges_s)

abbrev pub planar : ℕ → List ℕ
planar G = take 30 (header 2 1 36 32 52 G 1 2 3) ++ (0 ∷ 0 ∷ 1 ∷ 0 ∷ 0 ∷ 0 ∷ minus 1 ++ (minus 1 ++ (small 0 ++ small 1)))

pub record Examples : Type 0 where
  -- the near test until order 6, of two handsets tied at (0, 0, 0) and (1, 2, 0): near at G = 5, not at 4
  pub older_5 : older_neighbour (pair 5) 0 1 ≡ true
  pub older_4 : older_neighbour (pair 4) 0 1 ≡ false
  -- images until order 7: where x and y stand, near at 5 and not at 4, and refused today
  pub planar_first : (planar_coordinate (planar 5) 0 0 ≡ negsuc 0) × (planar_coordinate (planar 5) 0 1 ≡ negsuc 0)
  pub planar_second : (planar_coordinate (planar 5) 1 0 ≡ pos 0) × (planar_coordinate (planar 5) 1 1 ≡ pos 1)
  pub planar_near_lem : planar_near (planar 5) 0 1 ≡ true
  pub planar_apart_lem : planar_near (planar 4) 0 1 ≡ false
  pub pair_refused : open_of (planar 5) ≡ Err (refusal 4)
  pub site_s_refused : open_of planar_s ≡ Err (refusal 4)
