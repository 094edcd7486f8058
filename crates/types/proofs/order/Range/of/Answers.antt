-- `Range::of`: the kind chooses, as in the definition. Assumes nothing.
use borrow.Author.Tests.{eq-eqb, ne_eqb}
use Rattle.types.specs.Orders.{range_of}
use Rattle.types.proofs.order.Range.of.Goals as goal

pub returns-then-q-eq-WHOLE_TILE : goal.returns-then-q-eq-WHOLE_TILE
unfolding range_of
returns-then-q-eq-WHOLE_TILE c = rw (eq-eqb _ _ c.if-q-eq-WHOLE_TILE.true)

pub returns : goal.returns
unfolding range_of
returns c = rw (ne_eqb _ _ c.if-q-eq-WHOLE_TILE.false, c.min.ensures)
