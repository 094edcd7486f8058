-- `cprl` meets its contract. Each of the five loops keeps one thing, for every sheet and range that the walk is ready for (`Kept`): nothing is found yet, and
-- what is left at this loop answers as what was to be searched at entry. One component alone is what PCRL has of it (*Cprl.one-left*), so a turn is one law of
-- specs/Cprl or specs/ByPoints. Assumes nothing.
use Rattle.std.proofs.Common.{arith}
use Rattle.packets.specs.Tile.{Sheet}
use Rattle.types.specs.declared.order.Range.{Range}
use Rattle.walks.specs.Walk.{Ready}
use Rattle.walks.specs.Turns.{Stands, at-point}
use Rattle.walks.specs.Going.{starts, splits, ends, parts, leaves}
use Rattle.walks.specs.ByPoints.{layer_fits, past_cell, into_l, next_l, found_l, past_l, row-ready, farther_x, farther_y, past_y, into_x, next_x, next_y}
use Rattle.walks.specs.Cprl.{alone, alone_by, none_left, ready-alone, one-left, in_x, in_r, out_r}
use Rattle.walks.proofs.cprl.cprl.Goals as goal
use Rattle.walks.proofs.cprl.cprl.Goals.{in-Some+else-ls-test, in_default, In-rs, In-search}

-- the walk is ready for the component alone
alone-here : (c : In-search) (s : Sheet) (g : Range)
    → (let a = c.args in let n = c.search.c in Ready s g a.prep.now a.w a.marks.now → Ready s (alone g n) a.prep.now (alone_by a.w n) a.marks.now)
alone-here c s g h = ready-alone s g _ _ _ h _ (omega arith) c.search-test.true

-- the numbers of the loops stand inside the ranges and the tile
stands : (c : In-rs) → Stands c.args.w c.rs.r c.search.c c.xs.x c.ys.y
stands c =
    record {
      res_from = omega arith;
      res_to = c.rs-test.true;
      comp_from = omega arith;
      comp_to = c.search-test.true;
      left = c.xs.invariant.0;
      right = c.xs-test.true;
      top = c.ys.invariant.0;
      bottom = c.ys-test.true;
    }

pub search-init : goal.search-init
search-init c = let p = c.requires.compno0_le_from in (p.1, p.2, p.3, starts _ _ _ _)

pub ys-init : goal.ys-init
ys-init c =
    let k = c.search.invariant in
    (k.0, k.1, k.2, splits _ _ _ _ _ k.3 _ _ (λ s g h. one-left s g _ _ _ h _ (omega arith) c.search-test.true _ _ _ _))

pub xs-init : goal.xs-init
xs-init c =
    let k = c.ys.invariant in
    (k.1, k.2, into_x _ _ _ _ _ (alone-here (goal.at.xs-init c).In-search) _ k.0 c.ys-test.true _ _ _ _ _ _ k.3)

pub rs-init : goal.rs-init
rs-init c =
    let k = c.xs.invariant in
    parts _ _ _ _ _ _ k.2 _ _ (λ s g h. in_x s g _ _ _ h _ (omega arith) c.search-test.true _ _ _ _ c.ys.invariant.0 c.ys-test.true k.0 c.xs-test.true)

pub cell_at-requires : goal.cell_at-requires
cell_at-requires c = let p = c.requires.some_ready in (p.0, at-point p.0 p.1.0 _ _ _ p.1.1 _ _ _ _ (stands (goal.at.cell_at-requires c).In-rs))

pub ls-init : goal.ls-init
ls-init c =
    into_l _ _ _ _ _ _ _ (stands (goal.at.ls-init c).In-rs) _ c.cell_at.ensures _ _ _ _ c.in-Some.is
    (parts _ _ _ _ _ _ c.rs.invariant _ _ (λ s g h. in_r s g _ _ _ h _ (omega arith) c.search-test.true _ _ _ _ c.rs-test.true))

pub index-requires : goal.index-requires
index-requires c = layer_fits _ _ _ _ _ _ _ (stands (goal.at.index-requires c).In-rs) _ c.cell_at.ensures c.requires.some_ready _ c.in-Some.is _ c.ls-test.true

pub ls-preserved : goal.ls-preserved
ls-preserved c =
    next_l _ _ _ _ _ _ _ (stands (goal.at.ls-preserved c).In-rs) _ c.cell_at.ensures _ _ _ _ c.in-Some.is c.ls-test.true _ _ c.index.ensures c.is_free.ensures c.ls.invariant c.if-is_free.false

pub rs-preserved : goal.rs-preserved
rs-preserved c = rw c.first-at.ensures (elim c.match-cell_at.branch [
  | in-Some+else-ls-test w ↦ rw w.found-is (past_l _ _ _ _ _ _ _ _ _ _ _ w.ls-test.false w.ls.invariant)
  | in_default w ↦
      rw w.found-is
      (past_cell _ _ _ _ _ _ _ (stands (goal.at.rs-preserved c).In-rs) _ c.cell_at.ensures _ _ _ w.in_default.is (parts _ _ _ _ _ _ c.rs.invariant _ _ (λ s g h. in_r s g _ _ _ h _ (omega arith) c.search-test.true _ _ _ _ c.rs-test.true)))
])

pub next_column-x-requires : goal.next_column-x-requires
next_column-x-requires c =
    let k = c.ys.invariant in
    rw c.part-one.ensures (c.xs-test.true, row-ready _ _ _ _ _ (alone-here (goal.at.next_column-x-requires c).In-search) _ k.0 c.ys-test.true c.requires.some_ready)

pub xs-smaller : goal.xs-smaller
xs-smaller c =
    omega (arith, farther_x _ _ _ _ _ (alone-here (goal.at.xs-smaller c).In-search) _ c.ys.invariant.0 c.ys-test.true c.requires.some_ready _ _ (rw c.part-one.ensures at c.next_column-x.ensures), c.xs-test.true)

pub xs-preserved : goal.xs-preserved
xs-preserved c =
    let f = alone-here (goal.at.xs-preserved c).In-search in
    let k = c.ys.invariant in rw c.first-at-in-xs.ensures (
      omega (arith, farther_x _ _ _ _ _ f _ k.0 c.ys-test.true c.requires.some_ready _ _ (rw c.part-one.ensures at c.next_column-x.ensures), c.xs.invariant.0),
      omega arith,
      next_x _ _ _ _ _ f _ k.0 c.ys-test.true _ _ _ _ (rw c.part-one.ensures at c.next_column-x.ensures)
          (leaves _ _ _ _ _ _ c.rs.invariant (λ s g h. out_r s g _ _ _ h _ (omega arith) c.search-test.true _ _ _ _ c.rs-test.false)),
    )

pub next_row-y-requires : goal.next_row-y-requires
next_row-y-requires c =
    let k = c.ys.invariant in
    let p = row-ready _ _ _ _ _ (alone-here (goal.at.next_row-y-requires c).In-search) _ k.0 c.ys-test.true c.requires.some_ready in
    rw c.part-one.ensures (c.ys-test.true, (p.0, p.1.play))

pub ys-smaller : goal.ys-smaller
ys-smaller c =
    omega (arith, farther_y _ _ _ _ _ (alone-here (goal.at.ys-smaller c).In-search) _ c.ys.invariant.0 c.ys-test.true c.requires.some_ready _ (rw c.part-one.ensures at c.next_row-y.ensures), c.ys-test.true)

pub ys-preserved : goal.ys-preserved
ys-preserved c =
    let f = alone-here (goal.at.ys-preserved c).In-search in
    let k = c.ys.invariant in rw c.first-at-in-ys.ensures (
      omega (arith, farther_y _ _ _ _ _ f _ k.0 c.ys-test.true c.requires.some_ready _ (rw c.part-one.ensures at c.next_row-y.ensures), k.0),
      omega arith,
      omega arith,
      next_y _ _ _ _ _ f _ k.0 c.ys-test.true _ _ _ _ _ _ _ (rw c.part-one.ensures at c.next_row-y.ensures) c.xs-test.false c.xs.invariant.2,
    )

pub search-preserved : goal.search-preserved
search-preserved c = rw c.first-at-in-search.ensures (
  omega arith,
  omega arith,
  omega arith,
  past_y _ _ _ _ _ (alone-here (goal.at.search-preserved c).In-search) _ _ _ _ _ _ _ c.ys-test.false c.ys.invariant.3,
)

-- left by the outermost loop's end: nothing is left
pub returns-after-search : goal.returns-after-search
returns-after-search c = ends _ _ _ _ _ c.search.invariant.3 (λ s g h. none_left s g _ _ _ h _ _ _ _ _ c.search-test.false)

-- left by the break: what is free is found
pub returns-then-is_free : goal.returns-then-is_free
returns-then-is_free c =
    found_l _ _ _ _ _ _ _ (stands (goal.at.returns-then-is_free c).In-rs) _ c.cell_at.ensures _ _ _ _ c.in-Some.is c.ls-test.true _ _ c.index.ensures c.is_free.ensures c.ls.invariant c.if-is_free.true
