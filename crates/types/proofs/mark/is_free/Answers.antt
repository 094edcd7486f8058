-- `is_free`: by the byte; beyond the marks the definition reads a 0. Assumes nothing.
use mathlib.Core.Path.{sym}
use lib.ListN.{get_or-eq_default}
use Rattle.laws.specs.Marks.{free_at, free_zero}
use Rattle.types.proofs.mark.is_free.Goals as goal

pub returns-then-i-marks : goal.returns-then-i-marks
unfolding free_at
returns-then-i-marks c = c.is_clear.ensures

pub returns-else-i-marks : goal.returns-else-i-marks
unfolding free_at
returns-else-i-marks c = let a = c.args in rw (get_or-eq_default a.marks.now 0 c.if-i-marks.false) (sym (free_zero a.viewer))
