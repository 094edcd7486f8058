-- `raised`: shifted by 32 or more a number fits only if it is 0. Assumes nothing.
use Rattle.std.proofs.Common.{sym, arith}
use Rattle.geometry.specs.Fitted.{fitted_far}
use Rattle.geometry.proofs.power.raised.Goals as goal

pub returns-in_default : goal.returns-in_default
returns-in_default c = let a = c.args in sym (fitted_far a.a a.by (omega (arith, c.in_default.ensures)))
