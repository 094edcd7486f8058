-- `start`: the tile's start lies inside a precinct just where the definition's test fails. Assumes nothing.
use Prim.Native.Nat.{◌%◌, ◌^◌}
use lib.Dec.{eqb}
use mathlib.Core.Path.{sym, ◌∙◌}
use Rattle.laws.specs.Cases.{not_true, not_false}
use Rattle.walks.proofs.prepare.start.Goals as goal

pub returns-then-uneven : goal.returns-then-uneven
returns-then-uneven c = let a = c.args in rw (not_true (eqb (a.low % 2 ^ a.pd) 0) (sym c.uneven.ensures ∙ c.if-uneven.true))

pub returns-else-uneven : goal.returns-else-uneven
returns-else-uneven c = let a = c.args in rw (not_false (eqb (a.low % 2 ^ a.pd) 0) (sym c.uneven.ensures ∙ c.if-uneven.false))
