-- `precincts_from`: the precincts of the entries passed are summed up. Assumes nothing.
use Rattle.std.specs.Prelude.{◌≡◌, ◌≤◌, max}
use Rattle.soundness.specs.Totals.{precincts_from}
use Rattle.soundness.proofs.totals.precincts_from.Given as goal

abbrev pub invariant-loop-i : goal.invariant-loop-i
invariant-loop-i l = record { near : l.i ≤ max l.a l.b; counted : l.sum ≡ precincts_from l.table l.a l.i }
