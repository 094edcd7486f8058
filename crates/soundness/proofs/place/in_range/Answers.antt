-- `in_range`: the tests are those of the definition. Assumes nothing.
use Rattle.soundness.specs.Points.{in_range}
use mathlib.Core.Path.{refl}
use Rattle.soundness.proofs.place.in_range.Goals as goal

pub returns : goal.returns
unfolding in_range
returns c = refl
