-- `multiples`: the steps passed are multiples. Assumes nothing.
use Rattle.std.specs.Prelude.{◌≡◌, true, get_or}
use Rattle.laws.specs.Below.{all_below}
use Rattle.survey.specs.Passing.{no_sums, divided_by}
use Rattle.survey.proofs.grid.multiples.Given as goal

abbrev pub invariant-loop-p : goal.invariant-loop-p
invariant-loop-p l = all_below (λ c. divided_by l.all (get_or l.parts c no_sums)) l.p-index ≡ true
