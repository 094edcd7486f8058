-- `of_resolution`: the entry counts the precincts along the axes, and they are few. Assumes nothing.
use Rattle.geometry.specs.Axis.{line_of}
use Rattle.soundness.specs.Points.{Counts}
use Rattle.soundness.proofs.Resolution.{counts}
use Rattle.soundness.proofs.place.of_resolution.Goals as goal
use Rattle.soundness.proofs.place.of_resolution.Goals.{After-of-sides}

counted-by : (c : After-of-sides) → Counts (line_of c.of-sides.result.x) (line_of c.of-sides.result.y) c.of-sides.result.entry
counted-by c = rw c.of-sides.ensures (counts c.args.st c.args.table.now c.args.p.compno c.args.p.resno c.requires)

pub counted-requires : goal.counted-requires
counted-requires c = (counted-by (goal.at.counted-requires c).After-of-sides).few

pub met-requires : goal.met-requires
met-requires c = counted-by (goal.at.met-requires c).After-of-sides
