-- `without_bit`: a bit that is not 0 is taken away. Assumes nothing.
use borrow.Author.Tests.{eq-eqb, ne_eqb}
use native.Mathlib.Omega.{arith}
use Rattle.laws.specs.Marks.{free_byte, cleared_byte, no_bit, bit_held}
use Rattle.types.specs.Viewers.{weight}
use Rattle.types.proofs.mark.without_bit.Goals as goal

pub overflow_sub-result : goal.overflow_sub-result
overflow_sub-result c = let a = c.args in rw (weight a.viewer c.if-viewer-lt-VIEWERS.true) (bit_held a.viewer a.b c.if-b-viewer-ne0.true)

pub returns-then-b-viewer-ne0 : goal.returns-then-b-viewer-ne0
unfolding cleared_byte free_byte
returns-then-b-viewer-ne0 c = let a = c.args in rw (ne_eqb _ 0 c.if-b-viewer-ne0.true, weight a.viewer c.if-viewer-lt-VIEWERS.true)

pub returns-else-b-viewer-ne0 : goal.returns-else-b-viewer-ne0
unfolding cleared_byte free_byte
returns-else-b-viewer-ne0 c = rw (eq-eqb _ 0 c.if-b-viewer-ne0.false)

pub returns-else-viewer-lt-VIEWERS : goal.returns-else-viewer-lt-VIEWERS
unfolding cleared_byte
returns-else-viewer-lt-VIEWERS c = let a = c.args in rw (no_bit a.viewer a.b 8 (omega arith) (omega arith))
