-- `components_sound`: the places passed are good. Assumes nothing.
use Rattle.std.specs.Prelude.{◌≡◌, true}
use Rattle.laws.specs.Below.{all_below}
use Rattle.soundness.proofs.InRange.{component_at}
use Rattle.soundness.proofs.fields.components_sound.Given as goal

abbrev pub invariant-loop-c : goal.invariant-loop-c
invariant-loop-c l = all_below (component_at l.fn.st) l.c ≡ true
