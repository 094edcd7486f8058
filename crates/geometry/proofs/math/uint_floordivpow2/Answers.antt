-- `uint_floordivpow2`: a shift below 32 is not refused. Assumes nothing.
use Rattle.geometry.specs.Math.{floordivpow2_of}
use Rattle.geometry.proofs.Saying.{said_below}
use Rattle.geometry.proofs.math.uint_floordivpow2.Goals as goal

pub returns : goal.returns
unfolding floordivpow2_of
returns c = said_below _ _ _ _ c.checked_shr.ensures
