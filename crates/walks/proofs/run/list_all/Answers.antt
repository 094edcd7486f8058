-- `list_all`: the precincts are counted; then what is left to be listed leads to the end that was to be reached at entry (`KeptAll`), also where the rest is
-- handed on. Assumes nothing.
use mathlib.Core.Path.{◌≡◌, refl, sym, ◌∙◌}
use Rattle.std.proofs.Common.{rules}
use Rattle.walks.specs.Running.{rest_listed}
use Rattle.walks.specs.RunAll.{RestIn, all_in, plan_asks, rest_in, plans, all-run, all-next, all-ended}
use Rattle.walks.specs.declared.list.Run.{Run}
use Rattle.walks.proofs.run.list_all.Goals as goal
use Rattle.walks.proofs.run.list_all.Goals.{After-count_precincts}

-- the precincts are counted
counted : (c : After-count_precincts) (a : Run)
    → a.count ≡ 0 → a.marks.now ≡ c.args.marks.now → RestIn c.args.st c.args.table.now c.count_precincts.new.counts a 0
counted c a n e = all_in _ _ _ _ n (rw e c.requires) c.count_precincts.ensures

pub count_precincts-requires-clause-sound : goal.count_precincts-requires-clause-sound
count_precincts-requires-clause-sound c = (_, c.requires)

pub plan_of-plan-requires : goal.plan_of-plan-requires
plan_of-plan-requires c = plan_asks _ _ _ c.requires _ c.runs-test.true

pub list_rest-requires : goal.list_rest-requires
list_rest-requires c = rest_in _ _ _ _ c.runs.invariant (counted (goal.at.list_rest-requires c).After-count_precincts _ refl refl)

pub list_counted-requires : goal.list_counted-requires
list_counted-requires c =
    let i = c.runs.invariant in (
      all-run _ _ _ _ i c.runs-test.true (counted (goal.at.list_counted-requires c).After-count_precincts _ refl refl) c.plan_of-plan.ensures,
      sym c.by_points.ensures ∙ c.if-by_points.false,
    )

pub runs-preserved : goal.runs-preserved
runs-preserved c =
    let i = c.runs.invariant in
    let h = c.runs-test.true in
    let d = counted (goal.at.runs-preserved c).After-count_precincts _ refl refl in
    all-next _ _ _ _ i h (c.list_counted.ensures _ _ _ (plans _ _ _ _ i h d c.plan_of-plan.ensures) d.counted)

pub returns-then-by_points : goal.returns-then-by_points
returns-then-by_points c =
    let r = rest_listed c.runs.invariant c.list_rest.ensures in
    search (rules, r.same_marks, r.same_output, r.comes_to)

pub returns : goal.returns
returns c =
    let r = all-ended _ _ _ _ c.runs.invariant c.runs-test.false in
    search (rules, r.same_marks, r.same_output, r.comes_to)
