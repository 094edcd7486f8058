-- A precinct that is met at a position, and the cell of a precinct.
use Rattle.std.specs.Prelude.{◌≡◌, true}
use Prim.Native.Nat.{ℕ, ◌≤◌, ◌<◌}
use Rattle.geometry.specs.Line.{hit_at, column_of}
use Rattle.packets.specs.Tile.{Sheet, line_x, line_y, res_of, width, height}
use Rattle.packets.specs.Positions.{met, number_at}
use Rattle.types.specs.declared.cursor.Position.{Position}

-- the precinct is the one met at a point of the tile
pub record MetAt (s : Sheet) (p : Position) : Type 0 where
  pub meets : met s p ≡ true
  pub number : p.precno ≡ number_at s p
  pub left : s.st.tx0 ≤ p.x
  pub right : p.x < s.st.tx1
  pub top : s.st.ty0 ≤ p.y
  pub bottom : p.y < s.st.ty1

-- then column and row are those of the resolution
pub record Cell (s : Sheet) (p : Position) : Type 0 where
  pub resolution : p.resno < res_of s.st p.compno
  pub hit_x : hit_at (line_x s p.compno p.resno) p.x ≡ true
  pub hit_y : hit_at (line_y s p.compno p.resno) p.y ≡ true
  pub column : column_of (line_x s p.compno p.resno) p.x < width s p.compno p.resno
  pub row : column_of (line_y s p.compno p.resno) p.y < height s p.compno p.resno

-- the point at which a precinct is met
pub record Point (s : Sheet) (l r c k : ℕ) : Type 0 where
  pub x : ℕ
  pub y : ℕ
  pub meets : MetAt s (record { layno = l; resno = r; compno = c; precno = k; x = x; y = y })
