-- `list_rest`: what is left to be listed leads to the end that was to be reached at entry (`KeptAll`). Assumes nothing.
use Rattle.walks.specs.RunAll.{plan_asks, plans, run-few, all-next, all-ended}
use Rattle.walks.proofs.list.Run.list_rest.Goals as goal

pub plan_of-plan-requires : goal.plan_of-plan-requires
plan_of-plan-requires c = plan_asks _ _ _ c.requires.sound _ c.runs-test.true

pub list_progression-requires : goal.list_progression-requires
list_progression-requires c =
    let i = c.runs.invariant in
    let h = c.runs-test.true in
    let p = c.plan_of-plan.ensures in
    let d = c.requires in
    (_, (_, (_, plans _ _ _ _ i h d p, (d.counted, c.prepare.ensures), run-few _ _ _ _ i h d p)))

pub runs-preserved : goal.runs-preserved
runs-preserved c =
    let i = c.runs.invariant in
    let h = c.runs-test.true in
    let d = c.requires in
    all-next _ _ _ _ i h (c.list_progression.ensures _ _ _ (plans _ _ _ _ i h d c.plan_of-plan.ensures) (d.counted, c.prepare.ensures))

pub returns : goal.returns
returns c = all-ended _ _ _ _ c.runs.invariant c.runs-test.false
