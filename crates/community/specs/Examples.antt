-- The examples of paper 01 that are theorems of the definitions, marked there with a diamond, as paper 02 changes them, and some of paper 02, orders 6 and 7,
-- from the images' bytes: one list. Every z of paper 01's is 0. The proof is proofs/Examples.
--
--     header n m ..    the 32 bytes of a header: n, m, the two offsets, L, G, p, q, mu, each but p and q below 256, and 12, a handset record's width
--     small k, minus k the coordinates k and -k in four bytes, for k below 256 and from 1 to 256
--     position x y z   a handset's record
--     edges_s           the edges of site S
--     site_s p q m      site S with epsilon p/q and mu m
--     pair G           two handsets, tied, at (0, 0, 0) and (1, 2, 0), with the square G of the near distance
--     pair_neg G        two handsets, tied, at (-1, -1, 0) and (0, 1, 0), with G
--     floors G         two handsets, tied, one above the other, at (4, 5, -1) and (4, 5, 2), with G
--     nobody           no handset
--     lone m           one handset, with mu m
--     seven            the handsets of site S
--     Examples         the theorems
use Rattle.std.specs.Prelude.{ℕ, ◌-◌, ◌/◌, ◌%◌, ◌≡◌, true, false, List, [], ◌∷◌, ◌++◌, replicate, None, Ok, Some}
use Rattle.image.specs.Image.{header_of}
use Rattle.image.specs.Questions.{open_of}
use Rattle.near.specs.Near.{proximity}
use Rattle.community.specs.Network.{neighbourhood_size, common_neighbours, similar, cores, communities, role}
use Rattle.community.specs.Tables.{start_table}
use Rattle.community.specs.Site.{network}
use Rattle.community.specs.Reach.{reach}
use Rattle.community.specs.declared.Role.TheVariants.{Border, Outlier}

abbrev pub header : ℕ → ℕ → ℕ → ℕ → ℕ → ℕ → ℕ → ℕ → ℕ → List ℕ
header n m handsets edges len G p q mu =
    n ∷ 0 ∷ m ∷ 0 ∷ handsets ∷ 0 ∷ 0 ∷ 0 ∷ edges ∷ 0 ∷ 0 ∷ 0 ∷ len ∷ 0 ∷ 0 ∷ 0 ∷ G ∷ 0 ∷ 0 ∷ 0 ∷ 0 ∷ 0 ∷ 0 ∷ 0 ∷ p % 256 ∷ p / 256 ∷ q % 256 ∷ q / 256 ∷ mu ∷ 0
    ∷ 12 ∷ 0 ∷ []

abbrev pub small : ℕ → List ℕ
small k = k ∷ 0 ∷ 0 ∷ 0 ∷ []

abbrev pub minus : ℕ → List ℕ
minus k = (256 - k) ∷ 255 ∷ 255 ∷ 255 ∷ []

abbrev pub position : List ℕ → List ℕ → List ℕ → List ℕ
position x y z = x ++ (y ++ z)

abbrev pub edges_s : List ℕ
edges_s = 0 ∷ 0 ∷ 1 ∷ 0 ∷ 0 ∷ 0 ∷ 2 ∷ 0 ∷ 1 ∷ 0 ∷ 2 ∷ 0 ∷ 2 ∷ 0 ∷ 3 ∷ 0 ∷ 3 ∷ 0 ∷ 4 ∷ 0 ∷ 4 ∷ 0 ∷ 5 ∷ 0 ∷ 4 ∷ 0 ∷ 6 ∷ 0 ∷ 5 ∷ 0 ∷ 6 ∷ 0 ∷ []

-- seven records of twelve bytes that are 0
abbrev pub site_s : ℕ → ℕ → ℕ → List ℕ
site_s p q m = header 7 8 32 116 148 0 p q m ++ (replicate 84 0 ++ edges_s)

abbrev pub pair : ℕ → List ℕ
pair G = header 2 1 32 56 60 G 1 2 3 ++ (position (small 0) (small 0) (small 0) ++ (position (small 1) (small 2) (small 0) ++ (0 ∷ 0 ∷ 1 ∷ 0 ∷ [])))

abbrev pub pair_neg : ℕ → List ℕ
pair_neg G = header 2 1 32 56 60 G 1 2 3 ++ (position (minus 1) (minus 1) (small 0) ++ (position (small 0) (small 1) (small 0) ++ (1 ∷ 0 ∷ 0 ∷ 0 ∷ [])))

abbrev pub floors : ℕ → List ℕ
floors G = header 2 1 32 56 60 G 1 2 3 ++ (position (small 4) (small 5) (minus 1) ++ (position (small 4) (small 5) (small 2) ++ (0 ∷ 0 ∷ 1 ∷ 0 ∷ [])))

abbrev pub nobody : List ℕ
nobody = header 0 0 32 32 32 0 1 2 3

abbrev pub lone : ℕ → List ℕ
lone m = header 1 0 32 44 44 0 1 2 m ++ position (small 0) (small 0) (small 0)

abbrev pub seven : List ℕ
seven = 0 ∷ 1 ∷ 2 ∷ 3 ∷ 4 ∷ 5 ∷ 6 ∷ []

pub record Examples : Type 0 where
  -- mu 4: cores 2 and 4; groups {0,1,2,3} and {3,4,5,6}; handset 3 is border in two
  pub accepted_s : open_of (site_s 1 2 4) ≡ Ok (header_of (site_s 1 2 4))
  pub cores_mu4 : cores (network (site_s 1 2 4)) ≡ 2 ∷ 4 ∷ []
  pub communities_mu4 : communities (network (site_s 1 2 4)) ≡ (0 ∷ 1 ∷ 2 ∷ 3 ∷ []) ∷ (3 ∷ 4 ∷ 5 ∷ 6 ∷ []) ∷ []
  pub border_mu4 : role (network (site_s 1 2 4)) 3 ≡ Border 2
  -- mu 0, which is blank and means 4 (paper 02, order 3): the same
  pub accepted_mu0 : open_of (site_s 1 2 0) ≡ Ok (header_of (site_s 1 2 0))
  pub cores_mu0 : cores (network (site_s 1 2 0)) ≡ 2 ∷ 4 ∷ []
  pub communities_mu0 : communities (network (site_s 1 2 0)) ≡ (0 ∷ 1 ∷ 2 ∷ 3 ∷ []) ∷ (3 ∷ 4 ∷ 5 ∷ 6 ∷ []) ∷ []
  pub border_mu0 : role (network (site_s 1 2 0)) 3 ≡ Border 2
  -- mu 3: all cores, one group of seven
  pub cores_mu3 : cores (network (site_s 1 2 3)) ≡ seven
  pub communities_mu3 : communities (network (site_s 1 2 3)) ≡ seven ∷ []
  -- epsilon 3/5, mu 3: groups {0,1,2} and {4,5,6}; 3 is an outlier
  pub communities_eps35 : communities (network (site_s 3 5 3)) ≡ (0 ∷ 1 ∷ 2 ∷ []) ∷ (4 ∷ 5 ∷ 6 ∷ []) ∷ []
  pub outlier_eps35 : role (network (site_s 3 5 3)) 3 ≡ Outlier
  -- 2 and 3 have c = 2, a = 4, b = 3: alike at 577/1000, not at 578/1000
  pub common_2_3 : common_neighbours (network (site_s 577 1000 4)) 2 3 ≡ 2
  pub size_2 : neighbourhood_size (network (site_s 577 1000 4)) 2 ≡ 4
  pub size_3 : neighbourhood_size (network (site_s 577 1000 4)) 3 ≡ 3
  pub similar_577 : similar (network (site_s 577 1000 4)) 2 3 ≡ true
  pub dissimilar_578 : similar (network (site_s 578 1000 4)) 2 3 ≡ false
  -- tied at (0,0,0) and (1,2,0): near at G = 5, not at 4; the same at (-1,-1,0) and (0,1,0)
  pub near_5 : proximity (pair 5) 0 1 ≡ Some 5
  pub apart_4 : proximity (pair 4) 0 1 ≡ None
  pub near_5_negative : proximity (pair_neg 5) 0 1 ≡ Some 5
  pub apart_4_negative : proximity (pair_neg 4) 0 1 ≡ None
  -- n = 0: no groups, start table 0
  pub accepted_nobody : open_of nobody ≡ Ok (header_of nobody)
  pub communities_nobody : communities (network nobody) ≡ []
  pub starts_nobody : start_table (communities (network nobody)) ≡ 0 ∷ []
  -- n = 1, mu 1: one group {0}; mu 2: an outlier
  pub communities_lone : communities (network (lone 1)) ≡ (0 ∷ []) ∷ []
  pub outlier_lone : role (network (lone 2)) 0 ≡ Outlier
  -- paper 02, order 6: both groups of site S have the reach 0; of two handsets the reach is their distance where they are near, and none else; one has none
  pub reach_first : reach (site_s 1 2 4) (0 ∷ 1 ∷ 2 ∷ 3 ∷ []) ≡ Some 0
  pub reach_second : reach (site_s 1 2 4) (3 ∷ 4 ∷ 5 ∷ 6 ∷ []) ≡ Some 0
  pub reach_5 : reach (pair 5) (0 ∷ 1 ∷ []) ≡ Some 5
  pub reach_4 : reach (pair 4) (0 ∷ 1 ∷ []) ≡ None
  pub reach_one_end : reach (pair 5) (1 ∷ []) ≡ None
  pub reach_lone : reach (lone 1) (0 ∷ []) ≡ None
  -- paper 02, order 7: two that differ in z alone are near at the limit, 3², and not one below
  pub accepted_floors : open_of (floors 9) ≡ Ok (header_of (floors 9))
  pub near_9_floors : proximity (floors 9) 0 1 ≡ Some 9
  pub apart_8_floors : proximity (floors 8) 0 1 ≡ None
