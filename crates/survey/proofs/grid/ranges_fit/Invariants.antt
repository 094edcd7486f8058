-- `ranges_fit`: the progressions passed have what they want of their own components. Assumes nothing.
use Rattle.std.specs.Prelude.{◌≡◌, true}
use Rattle.laws.specs.Below.{all_below}
use Rattle.packets.specs.Grid.{change_of}
use Rattle.survey.specs.Passing.{range_fits}
use Rattle.survey.proofs.grid.ranges_fit.Given as goal

abbrev pub invariant-loop-q : goal.invariant-loop-q
invariant-loop-q l = all_below (λ k. range_fits l.fn.st l.parts (change_of l.fn.st k)) l.q-index ≡ true
