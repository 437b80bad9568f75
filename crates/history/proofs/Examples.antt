-- The examples: the definitions compute to these answers.
use mathlib.Core.Path.{refl}
use Rattle.image.specs.Questions.{open_of}
use Rattle.history.specs.NearTest.{older_neighbour}
use Rattle.history.specs.TakenOver.{planar_coordinate, planar_near}
use Rattle.history.specs.Examples.{Examples}

pub examples : Examples
unfolding open_of older_neighbour planar_coordinate planar_near
examples = record {
  older_5 = refl;
  older_4 = refl;
  planar_first = (refl, refl);
  planar_second = (refl, refl);
  planar_near_lem = refl;
  planar_apart_lem = refl;
  pair_refused = refl;
  site_s_refused = refl;
}
