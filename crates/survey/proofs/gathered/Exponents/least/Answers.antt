-- `Exponents::least`: a step that does not fit is told by 0, since none is 0. Assumes nothing.
use native.Mathlib.Nat.{mul-pos, add-zero}
use native.Mathlib.Omega.{arith}
use lib.Pow.{pow_pos}
use Rattle.geometry.specs.Fitted.{fitted-least}
use Rattle.survey.proofs.gathered.Exponents.least.Goals as goal

pub returns : goal.returns
returns c =
    let a = c.args in
    rw (c.least.ensures, c.step.ensures, add-zero a.self.low) (fitted-least _ (mul-pos c.requires (pow_pos a.self.low)) 4294967295 (omega arith))
