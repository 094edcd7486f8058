-- `ranges_fit`: it is so for the progressions passed; those beyond the array want nothing. Assumes nothing.
use Rattle.std.specs.Prelude.{◌≡◌, ◌<◌, length, min}
use Rattle.std.proofs.Common.{arith, sym, ◌∙◌, ap}
use Rattle.std.proofs.lemmas.List.{get_or-take, length-take}
use Rattle.laws.specs.Below.{all_none, all_more, all_fails}
use Rattle.types.specs.State.{no_progression}
use Rattle.types.specs.declared.state.Progression.{Progression}
use Rattle.packets.specs.Grid.{change_of}
use Rattle.survey.specs.Passing.{range_fits}
use Rattle.survey.proofs.Orders.{fit_up_to}
use Rattle.survey.proofs.grid.ranges_fit.Goals as goal
use Rattle.survey.proofs.grid.ranges_fit.Goals.{After-min-n, After-range_fits}

-- the array has 32 places, of which the first n are passed
long : (c : After-min-n) → length c.args.st.changes ≡ 32
long c = omega arith

-- the test is of the progression
module _ (c : After-range_fits) where
  below : c.loop-q.q-index < min c.args.st.progressions 32
  below = omega (arith, length-take {A = Progression}, c.min-n.ensures, c.loop-q-test.true)

  fits-is : c.range_fits.result ≡ range_fits c.args.st c.args.parts.now (change_of c.args.st c.loop-q.q-index)
  fits-is =
      c.range_fits.ensures
      ∙ ap (range_fits c.args.st c.args.parts.now) (get_or-take c.min-n.result c.args.st.changes c.loop-q.q-index no_progression (omega (arith, below)))

pub loop-q-init : goal.loop-q-init
loop-q-init c = all_none _

pub loop-q-preserved : goal.loop-q-preserved
loop-q-preserved c = all_more _ _ c.loop-q.invariant (sym (fits-is (goal.at.loop-q-preserved c).After-range_fits) ∙ c.if-not-range_fits.false)

pub returns-then-not-range_fits : goal.returns-then-not-range_fits
returns-then-not-range_fits c =
    let a = c.args in
    let p = (goal.at.returns-then-not-range_fits c).After-range_fits in
    sym
    (sym (fit_up_to a.st (long (goal.at.returns-then-not-range_fits c).After-min-n) a.parts.now)
    ∙ all_fails (λ k. range_fits a.st a.parts.now (change_of a.st k)) (min a.st.progressions 32) c.loop-q.q-index (below p) (sym (fits-is p) ∙ c.if-not-range_fits.true))

pub returns : goal.returns
returns c =
    let a = c.args in
    let end : c.loop-q.q-index ≡ min a.st.progressions 32 = omega (arith, length-take {A = Progression}, long (goal.at.returns c).After-min-n, c.min-n.ensures) in
    sym (rw end at c.loop-q.invariant) ∙ fit_up_to a.st (long (goal.at.returns c).After-min-n) a.parts.now
