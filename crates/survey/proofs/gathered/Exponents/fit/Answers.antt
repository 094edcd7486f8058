-- `Exponents::fit`: a step that does not fit is told by 0, since none is 0. Assumes nothing.
use native.Mathlib.Nat.{mul-pos, add-zero}
use lib.Pow.{pow_pos}
use Rattle.geometry.specs.Fitted.{fitted-told}
use Rattle.survey.proofs.gathered.Exponents.fit.Goals as goal

pub returns : goal.returns
returns c =
    let a = c.args in
    rw (c.step.ensures, add-zero a.self.high) (fitted-told _ (mul-pos c.requires (pow_pos a.self.high)))
