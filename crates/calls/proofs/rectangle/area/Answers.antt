-- `area`: a resolution with a precinct has a column. Assumes nothing.
use Rattle.geometry.proofs.Hits.{factors}
use native.Mathlib.Omega.{arith}
use Rattle.calls.proofs.rectangle.area.Goals as goal

pub nonzero_rem-precno : goal.nonzero_rem-precno
nonzero_rem-precno c = let z = c.before in (factors z.args.sides.entry.width z.args.sides.entry.height (omega (arith, z.requires))).0

pub nonzero_div-precno : goal.nonzero_div-precno
nonzero_div-precno c = let z = c.before in (factors z.args.sides.entry.width z.args.sides.entry.height (omega (arith, z.requires))).0

pub returns : goal.returns
returns c = rw (c.precinct-across.ensures, c.precinct-down.ensures)
