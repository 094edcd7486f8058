-- `list_rest`: the numbers are prepared; then what is left to be listed leads to the end that was to be reached at entry (`KeptAll`). Assumes nothing.
use Rattle.walks.specs.RunAll.{KeptAll}
use Rattle.walks.proofs.list.Run.list_rest.Given as goal

abbrev pub invariant-runs : goal.invariant-runs
invariant-runs l = KeptAll l.st l.table l.fn.self l.k_from l.self l.k
