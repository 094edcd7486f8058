-- `layers_over`: the layers are those of the ranges passed. Assumes nothing.
use Rattle.soundness.proofs.Counting.{Over}
use Rattle.soundness.proofs.totals.layers_over.Given as goal

abbrev pub invariant-loop-g : goal.invariant-loop-g
invariant-loop-g l = Over l.ranges l.c l.m l.most l.g-index
