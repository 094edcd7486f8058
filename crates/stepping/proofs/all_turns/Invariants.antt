-- `all_turns`: the progressions that are left lead to the end that was to be reached at entry (`KeptTurns`). Assumes nothing.
use Rattle.stepping.specs.Kept.{KeptTurns}
use Rattle.stepping.proofs.all_turns.Given as goal

abbrev pub invariant-loop-k : goal.invariant-loop-k
invariant-loop-k l = KeptTurns l.st l.table l.initial.marks l.initial.output l.marks l.output l.count l.k
