-- `list_cell`: a precinct is met and its layers are listed, or none is. Assumes nothing.
use mathlib.Core.Path.{◌≡◌}
use Rattle.packets.specs.Tile.{Sheet}
use Rattle.types.specs.declared.order.Range.{Range}
use Rattle.walks.specs.Prepared.{cell_of}
use Rattle.walks.specs.Running.{first_kept, run_ends}
use Rattle.walks.specs.Layers.{CelledAt, cell-layered, cell-left, cell-passed}
use Rattle.walks.proofs.list.Run.list_cell.Goals as goal
use Rattle.walks.proofs.list.Run.list_cell.Goals.{After-cell_from}

-- what the cell answers, for every sheet that the listing is ready for
cell-is : (c : After-cell_from) (s : Sheet) (g : Range)
    → (let a = c.args in CelledAt a.prep.now a.first a.w a.p s g a.self.now.marks.now → c.cell_from.result ≡ cell_of s a.p.resno a.p.compno a.p.x a.p.y)
cell-is c s g d = c.cell_from.ensures s _ d.point

pub cell_from-requires : goal.cell_from-requires
cell_from-requires c = let p = c.requires in (p.0, (_, p.1.1.point))

pub list_layers-requires : goal.list_layers-requires
list_layers-requires c =
    let p = c.requires in
    let d = p.1.1 in
    let e = cell-is (goal.at.list_layers-requires c).After-cell_from _ _ d in
    let k = c.in-Some.is in
    (p.0, (p.1.0, cell-layered _ _ _ _ _ d.ready _ _ _ _ d.stands _ e _ k, rw (cell-left _ _ _ _ _ d.ready _ _ _ _ d.stands _ e _ _ k) at p.1.2))

pub returns-in-Some : goal.returns-in-Some
returns-in-Some c s g d =
    let e = cell-is (goal.at.returns-in-Some c).After-cell_from s g d in
    let k = c.in-Some.is in
    rw (cell-left s g _ _ _ d.ready _ _ _ _ d.stands _ e _ 0 k) (c.list_layers.ensures s g (cell-layered s g _ _ _ d.ready _ _ _ _ d.stands _ e _ k))

pub returns-in_default : goal.returns-in_default
returns-in_default c s g d =
    run_ends first_kept (cell-passed s g _ _ _ d.ready _ _ _ _ d.stands _ (cell-is (goal.at.returns-in_default c).After-cell_from s g d) _ c.in_default.is)
