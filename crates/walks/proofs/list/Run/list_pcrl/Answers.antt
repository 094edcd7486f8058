-- `list_pcrl`: what is left where each of the two loops stands. A turn is one law of specs/Pcrl, as in the walk's proof. Assumes nothing.
use mathlib.Core.Path.{◌≡◌}
use Prim.Native.Nat.{◌<◌}
use native.Mathlib.Omega.{arith}
use Rattle.packets.specs.Tile.{Sheet}
use Rattle.types.specs.declared.order.Range.{Range}
use Rattle.types.specs.State.{origin}
use Rattle.packets.specs.Strided.{everything}
use Rattle.packets.specs.InPlay.{next_x, next_y}
use Rattle.walks.specs.Prepared.{point_of}
use Rattle.walks.specs.Walk.{Ready}
use Rattle.walks.specs.Turns.{at_row}
use Rattle.walks.specs.Layers.{PointedAt, pointed_long}
use Rattle.walks.specs.Running.{goes_on, part_listed, still_long, few_part, run_ends}
use Rattle.walks.specs.Pcrl.{point, in_y, out_y, in_x, out_x, column_is, row_is}
use Rattle.walks.proofs.list.Run.list_pcrl.Goals as goal
use Rattle.walks.proofs.list.Run.list_pcrl.Goals.{After-fill_row-below, After-list_point-x, In-xs}

-- the next row; and it is further down
below-is : (c : After-fill_row-below) (s : Sheet) (g : Range)
    → (let a = c.args in
    let y = c.ys.y in
    Ready s g a.prep.now a.w a.self.now.marks.now → (c.fill_row-below.result ≡ next_y s g everything origin y) × (y < c.fill_row-below.result))
below-is c s g h = row_is s g _ _ _ h _ _ (c.fill_row-below.ensures s (at_row s g _ _ _ h _ c.ys.invariant.0 c.ys-test.true)).1

-- the point at which the loops stand
pointed : (c : In-xs) (s : Sheet) (g : Range)
    → (let a = c.args in
    Ready s g a.prep.now a.w a.self.now.marks.now → PointedAt a.prep.now c.fill_row-below.new.row a.w c.xs.x c.ys.y s g c.xs.self.marks.now)
pointed c s g h =
    let r = at_row s g _ _ _ h _ c.ys.invariant.0 c.ys-test.true in
    let i = c.xs.invariant in
    pointed_long s g _ _ _ _ _ _
    (record {
      ready = h;
      point = record {
        at = r;
        left = rw (← h.ranged.tx0) i.0;
        right = rw (← h.ranged.tx1) c.xs-test.true;
        noted = (c.fill_row-below.ensures s r).0;
      };
    })
    _ (still_long (i.1 s g h))

-- the next column; and it is further to the right
next-is : (c : After-list_point-x) (s : Sheet) (g : Range)
    → (let a = c.args in
    let x = c.xs.x in
    Ready s g a.prep.now a.w a.self.now.marks.now
    → PointedAt a.prep.now c.fill_row-below.new.row a.w x c.ys.y s g c.xs.self.marks.now
    → (c.list_point-x.result ≡ next_x s g everything (point_of 0 0 0 c.ys.y) x) × (x < c.list_point-x.result))
next-is c s g h p = column_is s g _ _ _ h _ _ _ (c.list_point-x.ensures.next s g p)

pub fill_row-below-requires : goal.fill_row-below-requires
fill_row-below-requires c =
    let p = c.requires in
    (c.ys-test.true, (p.0, at_row _ _ _ _ _ p.1.1 _ c.ys.invariant.0 c.ys-test.true))

pub xs-init : goal.xs-init
xs-init c = let o = c.ys.invariant in (omega arith, λ s g h. goes_on (o.1 s g h) (in_y s g _ _ _ h _ _ _ _ _ o.0 c.ys-test.true))

pub list_point-x-requires : goal.list_point-x-requires
list_point-x-requires c =
    let p = c.requires in
    let h = p.1.1 in
    let i = c.xs.invariant in (
      p.0,
      (
        p.1.0,
        pointed (goal.at.list_point-x-requires c).In-xs _ _ h,
        few_part (i.1 _ _ h) _ _ (in_x _ _ _ _ _ h _ _ _ _ _ c.ys.invariant.0 c.ys-test.true i.0 c.xs-test.true) p.1.2,
      ),
    )

pub xs-smaller : goal.xs-smaller
xs-smaller c =
    let p = c.requires in
    let at = pointed (goal.at.xs-smaller c).In-xs p.0 p.1.0 p.1.1 in
    omega (arith, c.xs-test.true, (next-is (goal.at.xs-smaller c).After-list_point-x p.0 p.1.0 p.1.1 at).1)

pub xs-preserved : goal.xs-preserved
xs-preserved c =
    let p = c.requires in
    let i = c.xs.invariant in
    let at = pointed (goal.at.xs-preserved c).In-xs in
    let next = next-is (goal.at.xs-preserved c).After-list_point-x in (
      omega (arith, i.0, (next p.0 p.1.0 p.1.1 (at p.0 p.1.0 p.1.1)).1),
      λ s g h.
          part_listed (i.1 s g h) (point _ _ _ _ _ s g) _ (rw (next s g h (at s g h)).0 (in_x s g _ _ _ h _ _ _ _ _ c.ys.invariant.0 c.ys-test.true i.0 c.xs-test.true))
          (c.list_point-x.ensures.lists s g (at s g h)),
    )

pub ys-smaller : goal.ys-smaller
ys-smaller c =
    let p = c.requires in
    omega (arith, c.ys-test.true, (below-is (goal.at.ys-smaller c).After-fill_row-below p.0 p.1.0 p.1.1).1)

pub ys-preserved : goal.ys-preserved
ys-preserved c =
    let p = c.requires in
    let below = below-is (goal.at.ys-preserved c).After-fill_row-below in (
      omega (arith, c.ys.invariant.0, (below p.0 p.1.0 p.1.1).1),
      λ s g h. goes_on (c.xs.invariant.1 s g h) (rw (below s g h).0 (out_x s g _ _ _ h _ _ _ _ _ c.xs-test.false)),
    )

pub returns : goal.returns
returns c = λ s g h. run_ends (c.ys.invariant.1 s g h) (out_y s g _ _ _ h _ _ _ _ _ c.ys-test.false)
