-- `precincts`: an exponent below 32 is not refused. Assumes nothing.
use Rattle.geometry.specs.Precinct.{precincts_of}
use Rattle.geometry.specs.Axis.{columns_of}
use Rattle.geometry.proofs.Saying.{said_then}
use Rattle.geometry.proofs.precinct.precincts.Goals as goal

pub returns : goal.returns
unfolding precincts_of columns_of
returns c = rw (c.then_some.ensures, c.columns.ensures) (said_then _ _)
