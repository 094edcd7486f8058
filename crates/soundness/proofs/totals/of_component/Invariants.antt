-- `of_component`: the packets of the resolutions passed are summed up. Assumes nothing.
use Rattle.std.specs.Prelude.{◌≡◌}
use Rattle.soundness.specs.Totals.{packets_of}
use Rattle.soundness.proofs.totals.of_component.Given as goal

abbrev pub invariant-loop-r : goal.invariant-loop-r
invariant-loop-r l = l.sum ≡ packets_of l.ranges l.table l.e l.c l.r
