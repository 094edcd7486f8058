-- `progressions_sound`: the places passed are good. Assumes nothing.
use Rattle.std.specs.Prelude.{◌≡◌, true}
use Rattle.laws.specs.Below.{all_below}
use Rattle.soundness.proofs.InRange.{progression_at}
use Rattle.soundness.proofs.fields.progressions_sound.Given as goal

abbrev pub invariant-loop-k : goal.invariant-loop-k
invariant-loop-k l = all_below (progression_at l.fn.st) l.k ≡ true
