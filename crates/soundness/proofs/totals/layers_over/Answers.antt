-- `layers_over`: each turn raises the layers by one range, where it goes over the component. Assumes nothing.
use Rattle.std.proofs.Common.{◌≡◌, refl, arith, length}
use Rattle.soundness.proofs.Counting.{over_none, over-passed, over-raised}
use Rattle.soundness.proofs.totals.layers_over.Goals as goal
use Rattle.soundness.proofs.totals.layers_over.Goals.{then-g-c, else-g-c}

pub loop-g-init : goal.loop-g-init
loop-g-init c = over_none c.args.ranges.now c.args.c c.args.m c.requires

pub raise-requires : goal.raise-requires
raise-requires c = (omega arith, c.loop-g.invariant.long)

pub loop-g-preserved : goal.loop-g-preserved
loop-g-preserved c =
    let i = c.loop-g.invariant in
    elim c.if-g-c.branch [
      | then-g-c w ↦ rw w.most-is (over-raised _ _ _ i refl w.if-g-c.true w.min.ensures w.raise.ensures)
      | else-g-c w ↦ rw w.most-is (over-passed _ _ _ i refl w.if-g-c.false)
    ]

pub returns : goal.returns
returns c =
    let end : c.loop-g.g-index ≡ length c.args.ranges.now = omega arith in
    λ r h. rw end at (c.loop-g.invariant.each r h)
