-- `uint_ceildivpow2`: a shift below 64 is not refused. Assumes nothing.
use Rattle.geometry.specs.Math.{ceildivpow2_of}
use Rattle.geometry.proofs.Saying.{said_then}
use Rattle.geometry.proofs.math.uint_ceildivpow2.Goals as goal

pub returns : goal.returns
unfolding ceildivpow2_of
returns c = rw (c.then_some.ensures, c.shifted.ensures) (said_then _ _)
