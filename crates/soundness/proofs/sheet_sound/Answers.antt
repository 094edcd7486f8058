-- `sheet_sound`: it is where some marks are needed. Assumes nothing.
use Rattle.std.specs.Prelude.{is_some}
use Rattle.std.proofs.Common.{refl, ap, ◌∙◌}
use Rattle.laws.specs.Cases.{cond-told}
use Rattle.soundness.specs.Needs.{judged_of}
use Rattle.soundness.proofs.sheet_sound.Goals as goal

pub returns : goal.returns
unfolding judged_of
returns c = c.is_some.ensures ∙ ap is_some c.judged.ensures ∙ cond-told is_some _ _ _ refl refl
