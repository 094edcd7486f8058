-- `Side::of`: the axis is that of the definition. Assumes nothing.
use Rattle.walks.proofs.prepare.Side.of.Goals as goal

pub returns : goal.returns
returns c = rw c.of.ensures
