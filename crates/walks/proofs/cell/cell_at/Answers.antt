-- `cell_at`: what the row meets, and from that the cell. Assumes nothing.
use Rattle.packets.specs.Tile.{Sheet}
use Rattle.walks.specs.Prepared.{AtPoint}
use Rattle.walks.specs.InRow.{AtRow, RowPoint}
use Prim.Native.Nat.{◌+◌}
use Rattle.walks.proofs.cell.cell_at.Goals as goal
use Rattle.walks.proofs.cell.cell_at.Goals.{After-row_at}

row_of : (c : After-row_at) (s : Sheet) → (let a = c.args in AtPoint s a.prep.now a.r a.c a.x a.y → RowPoint s a.prep.now c.row_at.result a.r a.c a.x a.y)
row_of c s h =
    let at : (let a = c.args in AtRow s a.prep.now a.r (a.r + 1) a.c (a.c + 1) a.y) = record { play = h.play; top = h.top; bottom = h.bottom } in
    record { start = record { at = at; noted = c.row_at.ensures s at }; left = h.left; right = h.right }

pub row_at-requires : goal.row_at-requires
row_at-requires c = let p = c.requires in (p.0, record { play = p.1.play; top = p.1.top; bottom = p.1.bottom })

pub cell_from-requires : goal.cell_from-requires
cell_from-requires c = let p = c.requires in (p.0, (_, row_of (goal.at.cell_from-requires c).After-row_at p.0 p.1))

pub returns : goal.returns
returns c s h = c.cell_from.ensures s _ (row_of (goal.at.returns c).After-row_at s h)
