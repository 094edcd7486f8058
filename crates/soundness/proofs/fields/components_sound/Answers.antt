-- `components_sound`: the loop tests every place of the arrays; one that is not good ends it. Assumes nothing.
use Rattle.std.specs.Prelude.{◌≡◌}
use Rattle.std.proofs.Common.{sym, ◌∙◌, arith}
use Rattle.laws.specs.Below.{all_none, all_more, all_fails}
use Rattle.soundness.proofs.InRange.{component_at, components-parts}
use Rattle.soundness.proofs.fields.components_sound.Goals as goal

pub loop-c-init : goal.loop-c-init
loop-c-init c = all_none _

pub loop-c-preserved : goal.loop-c-preserved
loop-c-preserved c = all_more _ _ c.loop-c.invariant (sym c.component_fits.ensures ∙ c.if-not-component_fits.false)

pub returns-then-not-component_fits : goal.returns-then-not-component_fits
returns-then-not-component_fits c =
    let st = c.args.st in
    let f = all_fails (component_at st) 16 c.loop-c.c (omega arith) (sym c.component_fits.ensures ∙ c.if-not-component_fits.true) in
    sym f ∙ components-parts st c.requires

pub returns : goal.returns
returns c =
    let end : c.loop-c.c ≡ 16 = omega arith in
    sym (rw end at c.loop-c.invariant) ∙ components-parts c.args.st c.requires
