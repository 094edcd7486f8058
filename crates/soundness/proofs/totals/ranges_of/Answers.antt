-- `ranges_of`: each turn keeps the range of one progression. Assumes nothing.
use Rattle.std.proofs.Common.{◌≡◌, refl, arith, length-set, ◌∙◌}
use Rattle.laws.specs.Below.{not-below}
use Rattle.soundness.proofs.Counting.{ranged_more}
use Rattle.soundness.proofs.totals.ranges_of.Goals as goal

pub loop-k-init : goal.loop-k-init
loop-k-init c = record { long = refl; ranged = λ k h. not-below k h }

pub loop-k-preserved : goal.loop-k-preserved
loop-k-preserved c =
    let l = c.loop-k in
    record {
      long = length-set _ _ _ ∙ l.invariant.long;
      ranged = ranged_more c.args.st l.ranges l.k (omega arith) l.invariant.ranged c.of-g.ensures c.layers_of.ensures;
    }

pub returns : goal.returns
returns c =
    let end : c.loop-k.k ≡ c.args.st.progressions = omega arith in
    rw end at c.loop-k.invariant.ranged
