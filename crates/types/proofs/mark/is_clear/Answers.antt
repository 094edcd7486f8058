-- `is_clear`: the bit of a viewer; beyond the eighth a byte has none. Assumes nothing.
use mathlib.Core.Path.{refl, sym}
use native.Mathlib.Omega.{arith}
use Rattle.laws.specs.Marks.{free_byte, no_bit}
use Rattle.types.proofs.mark.is_clear.Goals as goal

pub returns-then-viewer-lt-VIEWERS : goal.returns-then-viewer-lt-VIEWERS
unfolding free_byte
returns-then-viewer-lt-VIEWERS c = refl

pub returns-else-viewer-lt-VIEWERS : goal.returns-else-viewer-lt-VIEWERS
returns-else-viewer-lt-VIEWERS c = let a = c.args in sym (no_bit a.viewer a.b 8 (omega arith) (omega arith))
