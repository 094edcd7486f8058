-- What a place of a cursor is tested by, in the words of the geometry.
use Rattle.std.specs.Prelude.{ℕ, ◌+◌, ◌*◌, ◌≤◌, ◌≡◌, Bool, false, ◌&&◌, ltb, leb, eqb}
use Rattle.geometry.specs.Line.{Line, count, column_of, meets_at}
use Rattle.geometry.specs.Hits.{Ordered}
use Rattle.packets.specs.Tile.{Sheet, line_x, line_y, width, precincts}
use Rattle.types.specs.declared.order.Order.{Order}
use Rattle.types.specs.declared.order.Order.TheVariants.{Lrcp, Rlcp, Rpcl, Pcrl, Cprl, NoPositions}
use Rattle.types.specs.declared.order.Range.{Range}
use Rattle.types.specs.declared.table.Entry.{Entry}
use Rattle.types.specs.declared.cursor.Position.{Position}

-- the numbers of a position are within a progression's ranges
unfoldable pub in_range : Range → Position → Bool
in_range g p =
    ltb p.layno g.layno1 && (leb g.resno0 p.resno && (ltb p.resno g.resno1 && (leb g.compno0 p.compno && ltb p.compno g.compno1)))

-- orders 0 and 1: one of so many precincts, and x and y are 0
abbrev pub counted_of : ℕ → Position → Bool
counted_of n p = ltb p.precno n && (eqb p.x 0 && eqb p.y 0)

-- orders 2 to 4: the precinct that is met at a point of the tile, if there are precincts; its number is column + row·width
abbrev pub met_of : Line → Line → ℕ → ℕ → Position → Bool
met_of x y wide n p = ltb 0 n && (meets_at y p.y && (meets_at x p.x && eqb p.precno (column_of x p.x + column_of y p.y * wide)))

abbrev pub met_in : Sheet → Position → Bool
met_in s p =
    met_of (line_x s p.compno p.resno) (line_y s p.compno p.resno) (width s p.compno p.resno) (precincts s p.compno p.resno) p

-- the test of a position that is in range, of a resolution that there is, by the order
abbrev pub position_test : Sheet → Order → Position → Bool
position_test s Lrcp p = counted_of (precincts s p.compno p.resno) p
position_test s Rlcp p = counted_of (precincts s p.compno p.resno) p
position_test s Rpcl p = met_in s p
position_test s Pcrl p = met_in s p
position_test s Cprl p = met_in s p
position_test s NoPositions p = false

-- an entry that counts the precincts along the two axes of a tile, and they are few
pub record Counts (x y : Line) (e : Entry) : Type 0 where
  pub wide : e.width ≡ count x
  pub high : e.height ≡ count y
  pub upward_x : Ordered x
  pub upward_y : Ordered y
  pub few : e.width * e.height ≤ 65536
