-- `uint_ceildiv`: a divisor above 0 is not refused. Assumes nothing.
use Rattle.geometry.specs.Math.{ceildiv_of}
use Rattle.geometry.proofs.Saying.{said_then}
use Rattle.geometry.proofs.math.uint_ceildiv.Goals as goal

pub returns : goal.returns
unfolding ceildiv_of
returns c = rw (c.then_some.ensures, c.divided.ensures) (said_then _ _)
