-- `multiples`: the steps passed are multiples; one that is not ends the loop. Assumes nothing.
use Rattle.std.specs.Prelude.{◌≡◌, ◌<◌, take, get_or}
use Rattle.std.proofs.Common.{sym, arith}
use Rattle.std.proofs.lemmas.List.{get_or-take, length-take-le}
use Rattle.laws.specs.Below.{all_none, all_more, all_fails}
use Rattle.survey.specs.Passing.{no_sums, multiples}
use Rattle.survey.proofs.grid.multiples.Goals as goal
use Rattle.survey.proofs.grid.multiples.Goals.{In-loop-p}

-- those of the first n are those of the list
module _ (c : In-loop-p) where
  below : c.loop-p.p-index < c.args.n
  below = omega (arith, length-take-le c.args.n c.args.parts.now (omega arith), c.loop-p-test.true)

  at : get_or (take c.args.n c.args.parts.now) c.loop-p.p-index no_sums ≡ get_or c.args.parts.now c.loop-p.p-index no_sums
  at = get_or-take _ _ _ _ below

pub loop-p-init : goal.loop-p-init
loop-p-init c = all_none _

pub loop-p-preserved : goal.loop-p-preserved
loop-p-preserved c = all_more _ _ c.loop-p.invariant (rw (at (goal.at.loop-p-preserved c).In-loop-p) at c.if-not-divided.false)

pub returns-then-not-divided : goal.returns-then-not-divided
unfolding multiples
returns-then-not-divided c =
    let p = (goal.at.returns-then-not-divided c).In-loop-p in
    sym (all_fails _ c.args.n c.loop-p.p-index (below p) (rw (at p) at c.if-not-divided.true))

pub returns : goal.returns
unfolding multiples
returns c =
    let end : c.loop-p.p-index ≡ c.args.n = omega (arith, length-take-le c.args.n c.args.parts.now (omega arith)) in
    sym (rw end at c.loop-p.invariant)
