-- `list_all`: the precincts are counted; then what is left to be listed leads to the end that was to be reached at entry (`KeptAll`), also where the rest is
-- handed on. Assumes nothing.
use Rattle.walks.specs.RunAll.{KeptAll}
use Rattle.walks.proofs.run.list_all.Given as goal

abbrev pub invariant-runs : goal.invariant-runs
invariant-runs l = KeptAll l.st l.table l.initial.run 0 l.run l.k
