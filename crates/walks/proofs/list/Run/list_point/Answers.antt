-- `list_point`: what is left where each loop stands, and x + best is the least next multiple of what the loops have passed (`NearestBefore`, `NearestSeen`).
-- Assumes nothing.
use Rattle.std.proofs.Common.{◌∙◌, ap, arith}
use Rattle.std.specs.Prelude.{None}
use Rattle.walks.specs.Nexts.{nearer_by, nearer_less, nearest_first, nearest_enter, nearest_turn, nearest_leave, nearest_all}
use Rattle.walks.specs.RowLaws.{point_part}
use Rattle.walks.specs.AtPoint.{cell_from}
use Rattle.walks.specs.Running.{first_kept, goes_on, part_listed, still_long, few_part, run_ends}
use Rattle.walks.specs.Layers.{pointed_long, pointed-cell}
use Rattle.walks.specs.Pcrl.{in_c, out_c, in_r, out_r}
use Rattle.walks.proofs.list.Run.list_point.Goals as goal

pub cs-init : goal.cs-init
cs-init c =
    let d = c.requires.1.1 in
    (omega arith, λ s g h. first_kept, nearest_first _ _ _ _ _ _ _ _ _ (omega (arith, d.ready.ranged.tx1, d.point.right)))

pub rs-init : goal.rs-init
rs-init c =
    let o = c.cs.invariant in
    (omega arith, λ s g h. goes_on (o.1 s g h) (in_c s g _ _ _ h.ready _ _ _ _ _ c.cs-test.true), nearest_enter o.2)

pub at-first-requires : goal.at-first-requires
at-first-requires c =
    let k = c.requires.1.1.point.at.play in
    (omega arith, (omega (arith, c.rs-test.true, k.resolutions), omega (arith, c.cs-test.true, k.components)))

pub column_step-requires : goal.column_step-requires
column_step-requires c =
    let p = c.requires in
    (p.0, (_, (point_part _ _ _ _ _ _ _ _ _ _ _ _ (c.at-first.ensures None) p.1.1.point c.rs.auto.r c.rs-test.true c.cs.auto.c c.cs-test.true).start))

pub list_cell-requires : goal.list_cell-requires
list_cell-requires c =
    let p = c.requires in
    let d = p.1.1 in
    let k = c.rs.invariant.1 _ _ d in
    let rt = c.rs-test.true in (
      p.0,
      (
        p.1.0,
        pointed-cell _ _ _ _ _ _ _ _ (pointed_long _ _ _ _ _ _ _ _ d _ (still_long k)) _ _ _ (c.at-first.ensures None) c.rs.auto.r rt c.cs.auto.c c.cs-test.true,
        few_part k _ _ (in_r _ _ _ _ _ d.ready _ _ _ _ _ rt) p.1.2,
      ),
    )

pub rs-preserved : goal.rs-preserved
rs-preserved c =
    let i = c.rs.invariant in
    let rf = c.rs.auto.r in
    let rt = c.rs-test.true in
    let cf = c.cs.auto.c in
    let ct = c.cs-test.true in
    let first = c.at-first.ensures None in
    let e = c.nearer-best.ensures in (
      omega (arith, rt),
      λ s g h.
          part_listed (i.1 s g h) (cell_from _ _ _ _ _ s g) _ (in_r s g _ _ _ h.ready _ _ _ _ _ rt)
          (c.list_cell.ensures s g (pointed-cell s g _ _ _ _ _ _ (pointed_long s g _ _ _ _ _ _ h _ (still_long (i.1 s g h))) _ _ _ first rf rt cf ct)),
      nearest_turn _ i.2 rf (omega (arith, e, nearer_less c.column_step.result c.args.x c.rs.best))
          (λ s h. e ∙ ap (λ o. nearer_by o c.args.x c.rs.best) (c.column_step.ensures.is s _ (point_part _ _ _ _ _ _ _ _ _ _ _ _ first h rf rt cf ct).start)),
    )

pub cs-preserved : goal.cs-preserved
cs-preserved c =
    let i = c.rs.invariant in
    let rl = c.rs-test.false in (
      omega (arith, c.cs-test.true),
      λ s g h. goes_on (i.1 s g h) (out_r s g _ _ _ h.ready _ _ _ _ _ rl),
      nearest_leave i.2 c.cs.auto.c c.rs.auto.r i.0 rl,
    )

pub returns : goal.returns
returns c =
    let i = c.cs.invariant in
    let l = c.cs-test.false in
    record {
      lists = λ s g h. run_ends (i.1 s g h) (out_c s g _ _ _ h.ready _ _ _ _ _ l);
      next = λ s g h. nearest_all i.2 (rw h.ready.ranged.tx1 h.point.right) c.cs.auto.c i.0 l s h.point;
    }
