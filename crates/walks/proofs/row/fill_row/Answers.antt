-- `fill_row`: what the two loops have passed is noted, and y + best is the least next multiple of it, for every sheet that is so prepared; at their end all is.
-- Assumes nothing.
use Rattle.std.proofs.Common.{◌+◌, ◌∙◌, ap, arith}
use Rattle.std.specs.Prelude.{None}
use Rattle.packets.specs.Tile.{Sheet}
use Rattle.walks.specs.InRow.{AtRow}
use Rattle.walks.specs.Nexts.{nearer_by, nearer_less, nearest_first, nearest_enter, nearest_turn, nearest_leave, nearest_all}
use Rattle.walks.specs.RowLaws.{row_part, note_none, note_enter, note_more, note_leave, note_all}
use Rattle.walks.proofs.row.fill_row.Invariants.{Here}
use Rattle.walks.proofs.row.fill_row.Goals as goal
use Rattle.walks.proofs.row.fill_row.Goals.{In-loop-r}

-- resolution r of component c, in that row
at : (c : In-loop-r) (s : Sheet) → Here c.args.prep.now c.args.w c.args.y s → AtRow s c.args.prep.now c.loop-r.r (c.loop-r.r + 1) c.loop-c.c (c.loop-c.c + 1) c.args.y
at c s h = row_part s _ _ _ _ _ _ _ _ h (omega arith) (omega arith) (omega arith) (omega arith)

pub loop-c-init : goal.loop-c-init
loop-c-init c =
    let w = c.args.w in
    (omega arith, (λ s h. note_none s c.args.row.now w.resno0 w.resno1 w.compno0 w.compno0 c.args.y), nearest_first _ _ _ _ _ _ _ _ _ (omega arith))

pub loop-r-init : goal.loop-r-init
loop-r-init c =
    let w = c.args.w in
    let o = c.loop-c in
    (omega arith, (λ s h. note_enter s o.row w.resno0 w.resno1 w.compno0 o.c c.args.y (o.invariant.1 s h)), nearest_enter o.invariant.2)

pub row_step-requires : goal.row_step-requires
row_step-requires c = let p = c.requires.1 in (p.0, (at (goal.at.row_step-requires c).In-loop-r p.0 p.1).play)

pub row_at-requires : goal.row_at-requires
row_at-requires c = let p = c.requires.1 in (p.0, at (goal.at.row_at-requires c).In-loop-r p.0 p.1)

pub loop-r-preserved : goal.loop-r-preserved
loop-r-preserved c =
    let w = c.args.w in
    let y = c.args.y in
    let o = c.loop-c in
    let i = c.loop-r in
    let e = c.nearer-best.ensures in
    let here = at (goal.at.loop-r-preserved c).In-loop-r in (
      omega arith,
      (λ s h. note_more s i.row w.resno0 w.resno1 w.compno0 o.c y _ i.r _ (c.put.ensures.there None) (c.put.ensures.others None) (c.row_at.ensures s (here s h)) (i.invariant.1 s h)),
      nearest_turn _ i.invariant.2 (omega arith) (omega (arith, e, nearer_less c.row_step.result y i.best))
          (λ s h. e ∙ ap (λ k. nearer_by k y i.best) (c.row_step.ensures.is s (here s h).play)),
    )

pub loop-c-preserved : goal.loop-c-preserved
loop-c-preserved c =
    let w = c.args.w in
    let o = c.loop-c in
    let i = c.loop-r in (
      omega arith,
      (λ s h. note_leave s i.row w.resno0 w.resno1 w.compno0 o.c c.args.y i.r (omega arith) (i.invariant.1 s h)),
      nearest_leave i.invariant.2 (omega arith) (omega arith) (omega arith) (omega arith),
    )

pub returns : goal.returns
returns c =
    let w = c.args.w in
    let o = c.loop-c in
    λ s h. (
      note_all s o.row w.resno0 w.resno1 w.compno0 o.c c.args.y w.compno1 (omega arith) (o.invariant.1 s h),
      nearest_all o.invariant.2 c.requires.0 (omega arith) (omega arith) (omega arith) s h,
    )
