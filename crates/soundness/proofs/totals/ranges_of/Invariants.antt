-- `ranges_of`: the ranges of the progressions passed are kept. Assumes nothing.
use Rattle.std.specs.Prelude.{◌≡◌, length}
use Rattle.soundness.specs.Totals.{Ranged}
use Rattle.soundness.proofs.totals.ranges_of.Given as goal

abbrev pub invariant-loop-k : goal.invariant-loop-k
invariant-loop-k l = record { long : length l.ranges ≡ 32; ranged : Ranged l.fn.st l.ranges l.k }
