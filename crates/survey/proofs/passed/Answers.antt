-- `passed`: after each component the survey has seen what the definitions say of it, and at the end what it finds are the sheet's numbers. Assumes nothing.
use Rattle.std.specs.Prelude.{◌≡◌, ◌≤◌, ◌<◌}
use Rattle.std.proofs.Common.{refl, sym, ◌∙◌, arith}
use Rattle.survey.specs.Passing.{places_of}
use Rattle.survey.proofs.Bases.{Small, places_small}
use Rattle.survey.proofs.Seen.{Seen, seen_none, apart_near, seen_more, next_near, seen_bad, seen_many, survey_in}
use Rattle.survey.proofs.Tables.{kept_none, kept_more, kept-all}
use Rattle.survey.proofs.Found.{above_x, above_y, found_is}
use Rattle.survey.proofs.passed.Goals as goal
use Rattle.survey.proofs.passed.Goals.{After-loop-c, After-of-places, In-loop-c}

-- the places are small, and in the loop there are more components, of 16 at most
small : (c : After-of-places) → Small c.of-places.result
small c = rw c.of-places.ensures (places_small c.args.at)

below : (c : In-loop-c) → c.loop-c.c < 16
below c = omega (arith, c.loop-c-test.true, c.if-st-gt-MAX_COMPONENTS.false)

-- after the loop all of them are passed
module _ (c : After-loop-c) where
  all-passed : c.loop-c.c ≡ c.args.st.components
  all-passed = omega arith

  seen :
      let l = c.loop-c in
      let a = c.args in
      Seen a.read.bytes.now c.of-places.result a.read.check a.st l.places l.all l.max_res l.parts a.st.components
  seen = rw all-passed at c.loop-c.invariant.seen

pub returns-then-st-gt-MAX_COMPONENTS-clause-found : goal.returns-then-st-gt-MAX_COMPONENTS-clause-found
returns-then-st-gt-MAX_COMPONENTS-clause-found c =
    let a = c.args in
    seen_many a.read.bytes.now _ a.read.check a.st c.if-st-gt-MAX_COMPONENTS.true ∙ sym (survey_in a.read.bytes.now a.at a.read.check a.st (places_of a.at) refl)

pub loop-c-init : goal.loop-c-init
loop-c-init c =
    let a = c.args in
    record {
      seen =
          rw (c.start-all.ensures, c.start-parts.ensures)
          (seen_none a.read.bytes.now c.of-places.result a.read.check a.st (small (goal.at.loop-c-init c).After-of-places));
      kept = kept_none a.read.bytes.now c.of-places.result a.st a.kept.now;
    }

pub component-requires : goal.component-requires
component-requires c =
    let l = c.loop-c in
    let near = l.invariant.seen.near in
    let few = below (goal.at.component-requires c).In-loop-c in
    (omega arith, apart_near l.invariant.seen (small (goal.at.component-requires c).After-of-places), omega (arith, l.invariant.seen.room))

pub returns-in_err-one-clause-found : goal.returns-in_err-one-clause-found
returns-in_err-one-clause-found c =
    let a = c.args in
    let p = c.of-places in
    c.from_residual.ensures
    ∙ seen_bad c.loop-c.invariant.seen (omega arith) c.in_err-one.ensures.sums
    ∙ sym (survey_in a.read.bytes.now a.at a.read.check a.st p.result p.ensures)

pub after-places-requires : goal.after-places-requires
after-places-requires c =
    let n = next_near c.loop-c.invariant.seen c.in_ok-one.ensures.sums (small (goal.at.after-places-requires c).After-of-places) (below (goal.at.after-places-requires c).In-loop-c) in
    (omega (arith, n.0), omega (arith, n.1))

pub loop-c-preserved : goal.loop-c-preserved
loop-c-preserved c =
    let a = c.args in
    let l = c.loop-c in
    let one = c.in_ok-one in
    record {
      seen =
          rw (c.after-places.ensures, c.max-max_res.ensures, c.joined-all.ensures)
          (seen_more l.invariant.seen one.ensures.sums (small (goal.at.loop-c-preserved c).After-of-places) (below (goal.at.loop-c-preserved c).In-loop-c));
      kept =
          kept_more a.read.bytes.now c.of-places.result a.st a.kept.now l.c l.invariant.kept l.invariant.seen.at
          (small (goal.at.loop-c-preserved c).After-of-places).start one.ensures.keeps;
    }

pub agreed-agreed-requires : goal.agreed-agreed-requires
agreed-agreed-requires c =
    let s = seen (goal.at.agreed-agreed-requires c).After-loop-c in
    let few : c.args.st.components ≤ 16 = omega arith in
    (few, above_x s, above_y s)

pub returns-clause-found : goal.returns-clause-found
returns-clause-found c =
    let a = c.args in
    let p = c.of-places in
    rw (c.of.ensures, c.agreed-agreed.ensures)
    (found_is (seen (goal.at.returns-clause-found c).After-loop-c) (omega arith) ∙ sym (survey_in a.read.bytes.now a.at a.read.check a.st p.result p.ensures))

pub returns-clause-keeps : goal.returns-clause-keeps
returns-clause-keeps c =
    let a = c.args in
    let p = c.of-places in
    kept-all a.read.bytes.now a.at p.result a.st a.kept.now p.ensures (all-passed (goal.at.returns-clause-keeps c).After-loop-c) c.loop-c.invariant.kept
