-- The rectangle of a precinct, as the axes answer it. Assumes nothing.
use mathlib.Core.Path.{◌≡◌}
use mathlib.Core.List.{List}
use Prim.Native.Nat.{ℕ, ◌/◌, ◌%◌, ◌<◌}
use Rattle.geometry.specs.Line.{low, high, count}
use Rattle.geometry.specs.Axis.{cell_of}
use Rattle.geometry.specs.Cells.{cell-inside}
use Rattle.packets.specs.Tile.{Sheet, line_x, line_y, width, precincts, rectangle}
use Rattle.packets.specs.Table.{sheet_at}
use Rattle.packets.proofs.Rectangles.{column_row}
use Rattle.types.specs.declared.state.State.{State}
use Rattle.soundness.specs.Reached.{sides_of}
use Rattle.calls.specs.Rectangle.{area_of}

pub area_is : (st : State) (table : List ℕ) (c r k : ℕ) → k < precincts (sheet_at st table) c r
    → area_of (sides_of (sheet_at st table) c r) k ≡ rectangle (sheet_at st table) c r k
unfolding rectangle cell_of count
area_is st table c r k n =
    let s : Sheet = sheet_at st table in
    let p = column_row s c r k n in
    let x = cell-inside (low (line_x s c r)) (high (line_x s c r)) (s.pdx c r) (k % width s c r) p.0 in
    let y = cell-inside (low (line_y s c r)) (high (line_y s c r)) (s.pdy c r) (k / width s c r) p.1 in
    λ i. record { x0 = x i; y0 = y i; x1 = (rectangle s c r k).x1; y1 = (rectangle s c r k).y1 }
