-- `precinct`: a precinct that is there is a cell before the end of the resolution, so that its number and its start fit; beyond the last nothing is left. Assumes nothing.
use Rattle.std.proofs.Common.{◌<◌, arith}
use Rattle.geometry.specs.Precinct.{across}
use Rattle.geometry.specs.Axis.{columns_of, cell_of}
use Rattle.geometry.specs.Cells.{none_left, cell-small, cell-fits}
use Rattle.geometry.proofs.axis.Resolution.precinct.Goals as goal
use Rattle.geometry.proofs.axis.Resolution.precinct.Goals.{Else-columns-i}

-- the precinct is there
there : (c : Else-columns-i) → c.args.i < across c.args.self.r0 c.args.self.r1 c.args.pd
unfolding columns_of
there c =
    let n : c.args.i < c.columns-columns.result.count = omega (arith, c.if-columns-i.false) in
    rw c.columns-columns.ensures at n

pub returns-then-columns-i : goal.returns-then-columns-i
unfolding columns_of cell_of
returns-then-columns-i c =
    let a = c.args in
    let e = none_left a.self.r0 a.self.r1 a.pd a.i (rw c.columns-columns.ensures at c.if-columns-i.true) in
    λ j. record { r0 = e.0 j; r1 = e.1 j }

pub overflow_add-cell : goal.overflow_add-cell
unfolding columns_of
overflow_add-cell c =
    let a = c.args in
    rw c.columns-columns.ensures
    (omega (arith, cell-small a.self.r0 a.self.r1 a.pd a.i (there (goal.at.overflow_add-cell c).Else-columns-i)))

pub overflow_add-cell-2 : goal.overflow_add-cell-2
unfolding columns_of
overflow_add-cell-2 c =
    let a = c.args in
    rw c.columns-columns.ensures
    (omega (arith, cell-small a.self.r0 a.self.r1 a.pd a.i (there (goal.at.overflow_add-cell-2 c).Else-columns-i)))

pub returns : goal.returns
unfolding columns_of cell_of
returns c =
    let a = c.args in
    let e = cell-fits a.self.r0 a.self.r1 a.pd a.i (there (goal.at.returns c).Else-columns-i) (omega arith) in
    rw (c.least.ensures, c.raised-2.ensures, c.max.ensures, c.raised.ensures, c.columns-columns.ensures)
    (λ j. record { r0 = e.0 j; r1 = e.1 j })
