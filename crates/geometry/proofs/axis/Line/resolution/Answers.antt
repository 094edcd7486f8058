-- `resolution`: its bounds are those of the component, divided. Assumes nothing.
use Rattle.geometry.specs.Line.{bound_of}
use Rattle.geometry.proofs.axis.Line.resolution.Goals as goal

pub returns : goal.returns
unfolding bound_of
returns c = rw (c.at.ensures, c.of.ensures)
