-- `image::read_header` meets its contract: each field is the number that the definition names.
use Rattle.image.specs.Image.{header_of}
use Rattle.image.proofs.read_header.Goals as goal

pub returns : goal.returns
unfolding header_of
returns c =
    λ i. record {
      n = c.read.ensures i;
      m = c.read-2.ensures i;
      handsets = c.read-3.ensures i;
      edges = c.read-4.ensures i;
      len = c.read-5.ensures i;
      limit = c.read-6.ensures i;
      p = c.read-7.ensures i;
      q = c.read-8.ensures i;
      mu = c.read-9.ensures i;
      width = c.read-10.ensures i;
    }
