-- `met`: the number of a precinct that is met is small. Assumes nothing.
use mathlib.Core.Path.{sym, ◌∙◌}
use Prim.Native.Nat.{◌+◌, ◌*◌, ◌<◌}
use native.Mathlib.Omega.{arith}
use Rattle.soundness.proofs.Resolution.{number-below}
use Rattle.soundness.proofs.place.met.Goals as goal
use Rattle.soundness.proofs.place.met.Goals.{After-column-row}

-- the number of the precinct that is met is one of few
below : (c : After-column-row) → c.column-column.result + c.column-row.result * c.args.e.width < 65536
below c =
    let a = c.args in
    let number = number-below c.requires (omega arith) a.p (sym c.meets.ensures ∙ c.if-meets.true) (sym c.meets-then-meets.ensures ∙ c.if-meets-2.true) in
    rw (c.column-column.ensures, c.column-row.ensures) (omega (arith, c.requires.few, number))

pub overflow_mul-result : goal.overflow_mul-result
overflow_mul-result c = omega (arith, below (goal.at.overflow_mul-result c).After-column-row)

pub overflow_add-result : goal.overflow_add-result
overflow_add-result c = omega (arith, below (goal.at.overflow_add-result c).After-column-row)
