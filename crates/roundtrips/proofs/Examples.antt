-- The examples: the definitions compute to these bytes and answers.
use mathlib.Core.Path.{refl}
use Rattle.image.specs.Image.{handset_records, edge_records}
use Rattle.image.specs.Questions.{open_of}
use Rattle.layout.specs.Layout.{image_of}
use Rattle.writer.specs.Writer.{encoded_of, buffer_after}
use Rattle.roundtrips.specs.Examples.{Examples}

pub examples : Examples
unfolding open_of handset_records edge_records image_of encoded_of buffer_after
examples = record {
  site_s_lem = refl;
  site_s_blank = refl;
  negative = refl;
  no_handset = refl;
  with_a_gap = refl;
  gap_handsets = refl;
  gap_edges = refl;
  just = refl;
  longer = refl;
  short = refl;
  no_room = refl;
  short_kept = refl;
  many = refl;
  many_edges = refl;
  wide = refl;
  over_one = refl;
  wide_mu = refl;
  limit_most_lem = refl;
  limit_past = refl;
  p_zero = refl;
  q_past = refl;
  mu_past = refl;
  one_more = refl;
  without_z = refl;
  one_fewer = refl;
  handset_short = refl;
  edge_more = refl;
  far = refl;
  far_z = refl;
  at_the_limit = refl;
  no_such_handset = refl;
  loop = refl;
  twice = refl;
}
