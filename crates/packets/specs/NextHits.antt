-- What is met at a position, part by part.
use Rattle.std.specs.Prelude.{◌≡◌, true, ◌<◌}
use Rattle.geometry.specs.Line.{hit_at}
use Rattle.packets.specs.Tile.{Sheet, line_x, line_y, precincts}
use Rattle.types.specs.declared.cursor.Position.{Position}

-- what a position that is met has: precincts, and a hit on each axis
pub record MetParts (s : Sheet) (q : Position) : Type 0 where
  pub has : 0 < precincts s q.compno q.resno
  pub hit_x : hit_at (line_x s q.compno q.resno) q.x ≡ true
  pub hit_y : hit_at (line_y s q.compno q.resno) q.y ≡ true
