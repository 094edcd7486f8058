-- `with_bit`: a bit that is 0 is added. Assumes nothing.
use borrow.Author.Tests.{eq-eqb, ne_eqb, lt-ltb, le-ltb}
use native.Mathlib.Omega.{arith}
use Rattle.laws.specs.Marks.{free_byte, marked_byte, bit_fits}
use Rattle.types.specs.Viewers.{set_byte, weight}
use Rattle.types.proofs.mark.with_bit.Goals as goal

pub overflow_add-result : goal.overflow_add-result
overflow_add-result c =
    let a = c.args in
    rw (weight a.viewer c.if-viewer-lt-VIEWERS.true) (record { fits = bit_fits a.viewer a.b c.if-b-viewer-eq0.true 8 c.if-viewer-lt-VIEWERS.true (omega arith) })

pub returns-then-b-viewer-eq0 : goal.returns-then-b-viewer-eq0
unfolding set_byte marked_byte free_byte
returns-then-b-viewer-eq0 c = let a = c.args in rw (lt-ltb _ 8 c.if-viewer-lt-VIEWERS.true, eq-eqb _ 0 c.if-b-viewer-eq0.true, weight a.viewer c.if-viewer-lt-VIEWERS.true)

pub returns-else-b-viewer-eq0 : goal.returns-else-b-viewer-eq0
unfolding set_byte marked_byte free_byte
returns-else-b-viewer-eq0 c = rw (lt-ltb _ 8 c.if-viewer-lt-VIEWERS.true, ne_eqb _ 0 c.if-b-viewer-eq0.false)

pub returns-else-viewer-lt-VIEWERS : goal.returns-else-viewer-lt-VIEWERS
unfolding set_byte
returns-else-viewer-lt-VIEWERS c = rw (le-ltb _ 8 c.if-viewer-lt-VIEWERS.false)
