-- `component_fits`: the tests are those of the definition. Assumes nothing.
use Rattle.soundness.specs.Fields.{component_fits}
use Rattle.soundness.proofs.fields.component_fits.Goals as goal

pub returns-then-there : goal.returns-then-there
unfolding component_fits
returns-then-there c = cc

pub returns-else-there : goal.returns-else-there
unfolding component_fits
returns-else-there c = rw (c.eq.ensures, c.none.ensures) (cc)
