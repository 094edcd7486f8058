-- `pcrl` meets its contract. Each of the five loops keeps one thing, for every sheet and range that the walk is ready for (`Kept`): nothing is found yet, and
-- what is left at this loop answers as what was to be searched at entry. A turn is one law of specs/Pcrl or specs/ByPoints. Assumes nothing.
use Rattle.std.proofs.Common.{arith, sym, refl}
use mathlib.Core.List.{append-nil}
use Rattle.walks.specs.Turns.{Stands, at-point}
use Rattle.walks.specs.Going.{nothing, starts, splits, ends, turns, parts, leaves}
use Rattle.walks.specs.Pcrl.{in_c, out_c, in_r, out_r}
use Rattle.walks.specs.ByPoints.{layer_fits, past_cell, into_l, next_l, found_l, past_l, row-ready, farther_x, farther_y, past_y, into_x, into_c, next_x, next_y}
use Rattle.walks.proofs.pcrl.pcrl.Goals as goal
use Rattle.walks.proofs.pcrl.pcrl.Goals.{in-Some+else-ls-test, in_default, In-rs}

-- the numbers of the loops stand inside the ranges and the tile
stands : (c : In-rs) → Stands c.args.w c.rs.r c.cs.c c.xs.x c.search.y
stands c =
    record {
      res_from = omega arith;
      res_to = c.rs-test.true;
      comp_from = omega arith;
      comp_to = c.cs-test.true;
      left = c.xs.invariant.0;
      right = c.xs-test.true;
      top = c.search.invariant.0;
      bottom = c.search-test.true;
    }

pub search-init : goal.search-init
search-init c = let p = c.requires.ty0_le_from in (p.0, p.1, p.2, p.3, splits _ _ _ _ _ (starts _ _ _ _) _ nothing (λ s g h. sym (append-nil _)))

pub xs-init : goal.xs-init
xs-init c =
    let k = c.search.invariant in
    (k.1, k.2, k.3, into_x _ _ _ (λ g. g) _ (λ s g h. h) _ k.0 c.search-test.true _ _ _ _ _ _ k.4)

pub cs-init : goal.cs-init
cs-init c =
    let k = c.xs.invariant in
    (k.2, into_c _ _ _ (λ g. g) _ (λ s g h. h) _ c.search.invariant.0 c.search-test.true _ _ _ _ _ _ k.0 c.xs-test.true k.3)

pub rs-init : goal.rs-init
rs-init c = turns _ _ _ _ _ _ c.cs.invariant.1 _ (λ s g h. in_c s g _ _ _ h _ _ _ _ _ c.cs-test.true)

pub cell_at-requires : goal.cell_at-requires
cell_at-requires c = let p = c.requires.some_ready in (p.0, at-point p.0 p.1.0 _ _ _ p.1.1 _ _ _ _ (stands (goal.at.cell_at-requires c).In-rs))

pub ls-init : goal.ls-init
ls-init c =
    into_l _ _ _ _ _ _ _ (stands (goal.at.ls-init c).In-rs) _ c.cell_at.ensures _ _ _ _ c.in-Some.is
    (parts _ _ _ _ _ _ c.rs.invariant _ _ (λ s g h. in_r s g _ _ _ h _ _ _ _ _ c.rs-test.true))

pub index-requires : goal.index-requires
index-requires c = layer_fits _ _ _ _ _ _ _ (stands (goal.at.index-requires c).In-rs) _ c.cell_at.ensures c.requires.some_ready _ c.in-Some.is _ c.ls-test.true

pub ls-preserved : goal.ls-preserved
ls-preserved c =
    next_l _ _ _ _ _ _ _ (stands (goal.at.ls-preserved c).In-rs) _ c.cell_at.ensures _ _ _ _ c.in-Some.is c.ls-test.true _ _ c.index.ensures c.is_free.ensures c.ls.invariant c.if-is_free.false

pub rs-preserved : goal.rs-preserved
rs-preserved c = rw c.first-at.ensures (elim c.match-cell_at.branch [
  | in-Some+else-ls-test w ↦ rw w.found-is (past_l _ _ _ _ _ _ _ _ _ _ _ w.ls-test.false w.ls.invariant)
  | in_default w ↦
      rw w.found-is
      (past_cell _ _ _ _ _ _ _ (stands (goal.at.rs-preserved c).In-rs) _ c.cell_at.ensures _ _ _ w.in_default.is (parts _ _ _ _ _ _ c.rs.invariant _ _ (λ s g h. in_r s g _ _ _ h _ _ _ _ _ c.rs-test.true)))
])

pub cs-preserved : goal.cs-preserved
cs-preserved c = rw c.first-at-in-cs.ensures (omega arith, turns _ _ _ _ _ _ c.rs.invariant _ (λ s g h. out_r s g _ _ _ h _ _ _ _ _ c.rs-test.false))

pub next_column-x-requires : goal.next_column-x-requires
next_column-x-requires c = (c.xs-test.true, row-ready _ _ _ (λ g. g) _ (λ s g h. h) _ c.search.invariant.0 c.search-test.true c.requires.some_ready)

pub xs-smaller : goal.xs-smaller
xs-smaller c =
    omega (arith, farther_x _ _ _ (λ g. g) _ (λ s g h. h) _ c.search.invariant.0 c.search-test.true c.requires.some_ready _ _ c.next_column-x.ensures, c.xs-test.true)

pub xs-preserved : goal.xs-preserved
xs-preserved c =
    let k = c.search.invariant in rw c.first-at-in-xs.ensures (
      omega (arith, farther_x _ _ _ (λ g. g) _ (λ s g h. h) _ k.0 c.search-test.true c.requires.some_ready _ _ c.next_column-x.ensures, c.xs.invariant.0),
      omega arith,
      omega arith,
      next_x _ _ _ (λ g. g) _ (λ s g h. h) _ k.0 c.search-test.true _ _ _ _ c.next_column-x.ensures
          (leaves _ _ _ _ _ _ c.cs.invariant.1 (λ s g h. out_c s g _ _ _ h _ _ _ _ _ c.cs-test.false)),
    )

pub next_row-y-requires : goal.next_row-y-requires
next_row-y-requires c =
    let p = row-ready _ _ _ (λ g. g) _ (λ s g h. h) _ c.search.invariant.0 c.search-test.true c.requires.some_ready in
    (c.search-test.true, (p.0, p.1.play))

pub search-smaller : goal.search-smaller
search-smaller c =
    omega (arith, farther_y _ _ _ (λ g. g) _ (λ s g h. h) _ c.search.invariant.0 c.search-test.true c.requires.some_ready _ c.next_row-y.ensures, c.search-test.true)

pub search-preserved : goal.search-preserved
search-preserved c =
    let k = c.search.invariant in rw c.first-at-in-search.ensures (
      omega (arith, farther_y _ _ _ (λ g. g) _ (λ s g h. h) _ k.0 c.search-test.true c.requires.some_ready _ c.next_row-y.ensures, k.0),
      omega arith,
      omega arith,
      omega arith,
      next_y _ _ _ (λ g. g) _ (λ s g h. h) _ k.0 c.search-test.true _ _ _ _ _ _ _ c.next_row-y.ensures c.xs-test.false c.xs.invariant.3,
    )

-- left by the outermost test: nothing is left
pub returns-after-search : goal.returns-after-search
returns-after-search c =
    ends _ _ _ _ _ (past_y _ _ _ (λ g. g) _ (λ s g h. h) _ _ _ _ _ _ _ c.search-test.false c.search.invariant.4) (λ s g h. refl)

-- left by the break: what is free is found
pub returns-then-is_free : goal.returns-then-is_free
returns-then-is_free c =
    found_l _ _ _ _ _ _ _ (stands (goal.at.returns-then-is_free c).In-rs) _ c.cell_at.ensures _ _ _ _ c.in-Some.is c.ls-test.true _ _ c.index.ensures c.is_free.ensures c.ls.invariant c.if-is_free.true
