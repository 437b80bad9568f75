-- The examples of the papers: the definitions compute to what the papers say.
use mathlib.Core.Path.{refl}
use Rattle.image.specs.Image.{header_of, mu}
use Rattle.image.specs.Questions.{open_of}
use Rattle.near.specs.Near.{proximity, neighbour}
use Rattle.community.specs.Network.{neighbourhood_size, common_neighbours, similar, cores, communities, role}
use Rattle.community.specs.Tables.{start_table}
use Rattle.community.specs.Reach.{reach}
use Rattle.community.specs.Examples.{Examples}

pub examples : Examples
unfolding open_of header_of proximity neighbour mu neighbourhood_size common_neighbours similar cores communities role start_table reach
examples = record {
  accepted_s = refl;
  cores_mu4 = refl;
  communities_mu4 = refl;
  border_mu4 = refl;
  accepted_mu0 = refl;
  cores_mu0 = refl;
  communities_mu0 = refl;
  border_mu0 = refl;
  cores_mu3 = refl;
  communities_mu3 = refl;
  communities_eps35 = refl;
  outlier_eps35 = refl;
  common_2_3 = refl;
  size_2 = refl;
  size_3 = refl;
  similar_577 = refl;
  dissimilar_578 = refl;
  near_5 = refl;
  apart_4 = refl;
  near_5_negative = refl;
  apart_4_negative = refl;
  accepted_nobody = refl;
  communities_nobody = refl;
  starts_nobody = refl;
  communities_lone = refl;
  outlier_lone = refl;
  reach_first = refl;
  reach_second = refl;
  reach_5 = refl;
  reach_4 = refl;
  reach_one_end = refl;
  reach_lone = refl;
  accepted_floors = refl;
  near_9_floors = refl;
  apart_8_floors = refl;
}
