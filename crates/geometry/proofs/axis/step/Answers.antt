-- `step`: by the sum of both exponents. Assumes nothing.
use Rattle.geometry.specs.Fitted.{fitted-sum}
use Rattle.geometry.proofs.axis.step.Goals as goal

pub returns : goal.returns
returns c =
    let a = c.args in
    rw (c.raised.ensures, c.saturating_add.ensures) (fitted-sum a.d a.pd a.level)
