-- `raise`: the resolutions passed are raised. Assumes nothing.
use Rattle.std.specs.Prelude.{◌≤◌, max}
use Rattle.soundness.specs.Totals.{Raised}
use Rattle.soundness.proofs.totals.raise.Given as goal

abbrev pub invariant-loop-r : goal.invariant-loop-r
invariant-loop-r l = record { near : l.r ≤ max l.a l.b; raised : Raised l.initial.most l.a l.r l.layers l.most }
