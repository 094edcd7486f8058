-- `marks`: what the products are cut off to tells whether the marks are few, and is their number then. Assumes nothing.
use mathlib.Core.Path.{◌≡◌}
use borrow.Author.Tests.{le-leb, lt-leb}
use native.Mathlib.Omega.{arith}
use Rattle.survey.specs.Capped.{capped, few_of, same-few}
use Rattle.survey.specs.Passing.{needed_of, few_marks}
use Rattle.survey.proofs.Products.{needed-capped}
use Rattle.survey.proofs.capped.marks.Goals as goal
use Rattle.survey.proofs.capped.marks.Goals.{After-times-needed}

-- the product of all four
few_is : (c : After-times-needed) → let a = c.args in few_marks a.layers a.res a.components a.prec ≡ few_of c.times-needed.result
unfolding few_marks
few_is c =
    let a = c.args in
    let product : c.times-needed.result ≡ capped (needed_of a.layers a.res a.components a.prec)
    = rw (c.times-needed.ensures, c.times-2.ensures, c.times.ensures) (needed-capped a.layers a.res a.components a.prec) in
    same-few _ _ (omega arith)

pub returns-then-needed-gt-MAX_MARKS : goal.returns-then-needed-gt-MAX_MARKS
returns-then-needed-gt-MAX_MARKS c = rw (few_is (goal.at.returns-then-needed-gt-MAX_MARKS c).After-times-needed, lt-leb _ _ c.if-needed-gt-MAX_MARKS.true)

pub returns : goal.returns
returns c = rw (few_is (goal.at.returns c).After-times-needed, le-leb _ _ c.if-needed-gt-MAX_MARKS.false)
