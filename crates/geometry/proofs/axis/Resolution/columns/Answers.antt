-- `columns`: by what floor and ceiling promise. Assumes nothing.
use Rattle.std.proofs.Common.{◌<◌, arith, le-ltb, lt-ltb}
use Rattle.geometry.specs.Precinct.{across}
use Rattle.geometry.specs.Axis.{columns_of}
use Rattle.geometry.proofs.axis.Resolution.columns.Goals as goal

pub returns-then-self : goal.returns-then-self
unfolding columns_of across
returns-then-self c = rw (c.floored-first.ensures, le-ltb _ _ c.if-self.true)

pub returns : goal.returns
unfolding columns_of across
returns c = let a = c.args in
    let h : a.self.r0 < a.self.r1 = omega (arith, c.if-self.false) in
    rw (c.shifted.ensures, c.floored-first.ensures, lt-ltb _ _ h)
