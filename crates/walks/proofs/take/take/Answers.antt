-- `take`: what the search of the planned progression finds is marked. Assumes nothing.
use mathlib.Core.Path.{◌≡◌, ap, ◌∙◌}
use Prim.Native.Nat.{◌<◌}
use native.Mathlib.Omega.{arith}
use borrow.Author.Tests.{lt-ltb}
use Rattle.laws.specs.Marks.{mark_at}
use Rattle.laws.specs.Runs.{seek}
use Rattle.types.specs.Viewers.{set-marks}
use Rattle.packets.specs.Sound.{positions_for}
use Rattle.packets.specs.Calls.{after}
use Rattle.walks.specs.declared.walk.Walk.{Walk}
use Rattle.packets.specs.Tile.{index_of, needed}
use Rattle.packets.specs.Grid.{change_of}
use Rattle.types.specs.declared.cursor.Position.{Position}
use Rattle.walks.specs.Marks.{mark_by}
use Rattle.std.specs.Prelude.{Some}
use Rattle.walks.specs.Walk.{answer_of}
use Rattle.walks.specs.Plan.{goes_over, Planned, planned_walk}
use Rattle.walks.specs.Taking.{strides_small, mark-at}
use Rattle.walks.proofs.take.take.Goals as goal
use Rattle.walks.proofs.take.take.Goals.{After-plan_of-plan, After-search}

-- the progression is planned
planned : (c : After-plan_of-plan) → Planned c.args.st c.args.table.now c.args.c.progression c.plan_of-plan.result c.args.marks.now
planned c =
    let w = c.requires in
    let a = c.args in
    record {
      sound = w.0;
      known = w.1.named;
      order = c.plan_of-plan.ensures.0;
      walk = planned_walk a.st (goes_over a.st (change_of a.st a.c.progression)) c.plan_of-plan.result.walk a.c.viewer c.plan_of-plan.ensures.1;
    }

-- what the search finds is free for the cursor's viewer
answer : (c : After-search)
    → (let a = c.args in
    Planned a.st a.table.now a.c.progression c.plan_of-plan.result a.marks.now
    → answer_of c.search.result ≡ seek a.c.viewer (index_of a.st) a.marks.now (after a.c.place (positions_for a.st a.table.now a.c.progression)))
answer c d =
    let a = c.args in
    c.search.ensures _ d c.requires.1.admitted
    ∙ ap (λ v. seek v (index_of a.st) a.marks.now (after a.c.place (positions_for a.st a.table.now a.c.progression))) (ap (λ (w : Walk). w.viewer) c.plan_of-plan.ensures.1)

-- what is found has its mark among those needed
found : (c : After-search)
    → (let a = c.args in
    Planned a.st a.table.now a.c.progression c.plan_of-plan.result a.marks.now → (p : Position) → c.search.result ≡ Some p
    → (mark_by c.plan_of-plan.result.walk p ≡ index_of a.st p) × (index_of a.st p < needed a.st))
found c d p e = mark-at _ _ _ _ _ d c.args.c.place _ c.search.result p e (answer c d)

pub plan_of-plan-requires : goal.plan_of-plan-requires
plan_of-plan-requires c = let w = c.requires in let s = strides_small _ _ _ w.0 in (omega (arith, w.1.named, w.0.tile.progressions.1), s.0, s.1)

pub index-requires : goal.index-requires
index-requires c =
    let z = goal.at.index-requires c in
    let m = found z.After-search (planned z.After-plan_of-plan) _ c.in_ok-p.was in
    omega (arith, m.0, m.1, c.requires.0.few)

pub returns-clause-marked : goal.returns-clause-marked
returns-clause-marked c =
    let a = c.args in
    let z = goal.at.returns-clause-marked c in
    let d = planned z.After-plan_of-plan in
    c.set.ensures
    ∙ set-marks a.c.viewer a.marks.now _ (lt-ltb _ 8 c.requires.1.viewer)
    ∙ ap (mark_at a.c.viewer a.marks.now) (c.index.ensures ∙ (found z.After-search d _ c.in_ok-p.was).0)
