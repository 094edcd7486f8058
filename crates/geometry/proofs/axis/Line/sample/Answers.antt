-- `sample`: by what the ceilings promise. Assumes nothing.
use Rattle.geometry.specs.Line.{bound_of}
use Rattle.geometry.proofs.axis.Line.sample.Goals as goal

pub returns : goal.returns
unfolding bound_of
returns c = rw (c.shifted.ensures, c.divided.ensures)
