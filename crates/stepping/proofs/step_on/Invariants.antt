-- `step_on`: the steps that are left lead to the end that was to be reached at entry (`KeptSteps`). Assumes nothing.
use Prim.Native.Nat.{◌-◌}
use Rattle.stepping.specs.Kept.{KeptSteps}
use Rattle.stepping.proofs.step_on.Given as goal

abbrev pub invariant-loop : goal.invariant-loop
invariant-loop l = KeptSteps l.st l.table l.initial.marks l.initial.output l.initial.at l.n l.marks l.output l.at l.count (65537 - l.counter)
