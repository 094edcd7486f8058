-- `entries`: after each turn the sum is that of the components passed. Assumes nothing.
use Rattle.std.proofs.Common.{◌≡◌, get_or, ◌*◌, ◌≤◌}
use Rattle.laws.specs.Below.{sum_below}
use Rattle.types.specs.State.{no_component}
use Rattle.types.proofs.table.entries.Given as goal

abbrev pub invariant-loop-comp : goal.invariant-loop-comp
invariant-loop-comp l = record { few : l.sum ≤ 4294967296 * l.comp-index; sum : l.sum ≡ sum_below (λ i. (get_or l.comps i no_component).resolutions) l.comp-index }
