-- `progressions_sound`: the loop tests every place of the array; one that is not good ends it. Assumes nothing.
use Rattle.std.specs.Prelude.{◌≡◌}
use Rattle.std.proofs.Common.{sym, ◌∙◌, arith}
use Rattle.laws.specs.Below.{all_none, all_more, all_fails}
use Rattle.soundness.proofs.InRange.{progression_at, progressions-parts}
use Rattle.soundness.proofs.fields.progressions_sound.Goals as goal

pub loop-k-init : goal.loop-k-init
loop-k-init c = all_none _

pub loop-k-preserved : goal.loop-k-preserved
loop-k-preserved c = all_more _ _ c.loop-k.invariant (sym c.progression_fits.ensures ∙ c.if-not-progression_fits.false)

pub returns-then-not-progression_fits : goal.returns-then-not-progression_fits
returns-then-not-progression_fits c =
    let st = c.args.st in
    let f = all_fails (progression_at st) 32 c.loop-k.k (omega arith) (sym c.progression_fits.ensures ∙ c.if-not-progression_fits.true) in
    sym f ∙ progressions-parts st c.requires

pub returns : goal.returns
returns c =
    let end : c.loop-k.k ≡ 32 = omega arith in
    sym (rw end at c.loop-k.invariant) ∙ progressions-parts c.args.st c.requires
