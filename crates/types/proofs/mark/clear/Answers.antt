-- `clear`: by the byte; beyond the marks nothing changes. Assumes nothing.
use mathlib.Core.Path.{sym}
use lib.Seq.{set_out}
use Rattle.laws.specs.Marks.{clear_at}
use Rattle.types.proofs.mark.clear.Goals as goal

pub returns-then-i-marks : goal.returns-then-i-marks
unfolding clear_at
returns-then-i-marks c = rw c.without_bit.ensures

pub returns-else-i-marks : goal.returns-else-i-marks
unfolding clear_at
returns-else-i-marks c = sym (set_out c.args.marks.now _ _ c.if-i-marks.false)
