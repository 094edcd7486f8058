-- A row of a tile: the precincts that it meets, by component and resolution.
use Rattle.std.specs.Prelude.{ℕ, ◌+◌, ◌*◌, ◌≤◌, ◌<◌, ◌≡◌, cond, Option, Some, None}
use Rattle.geometry.specs.Line.{column_of}
use Rattle.packets.specs.Tile.{Sheet, line_y, width}
use Rattle.packets.specs.InPlay.{play_x}
use Rattle.walks.specs.Prepared.{Prep, Firsts, InPlay, at_row, first_in}

-- the row's first precinct, if it meets one
unfoldable pub row_of : Sheet → ℕ → ℕ → ℕ → Option ℕ
row_of s r c y = cond (play_x s (at_row y) c r) (Some (column_of (line_y s c r) y * width s c r)) None

-- resolutions r0 to r1 of components c0 to c1, in a row of the tile
pub record AtRow (s : Sheet) (prep : Prep) (r0 r1 c0 c1 y : ℕ) : Type 0 where
  pub play : InPlay s prep r0 r1 c0 c1
  pub top : s.st.ty0 ≤ y
  pub bottom : y < s.st.ty1

abbrev pub SomeRow : Prep → ℕ → ℕ → ℕ → ℕ → ℕ → Type 0
SomeRow prep r0 r1 c0 c1 y = (s : Sheet) × AtRow s prep r0 r1 c0 c1 y

-- what is noted of a row
abbrev pub Row : Sheet → Firsts → ℕ → ℕ → ℕ → ℕ → ℕ → Type 0
Row s row r0 r1 c0 c1 y = (r c : ℕ) → r0 ≤ r → r < r1 → c0 ≤ c → c < c1 → first_in row r c ≡ row_of s r c y

-- what is noted of a row for one resolution of one component
pub record RowStart (s : Sheet) (prep : Prep) (first : Option ℕ) (r c y : ℕ) : Type 0 where
  pub at : AtRow s prep r (r + 1) c (c + 1) y
  pub noted : first ≡ row_of s r c y

abbrev pub SomeRowStart : Prep → Option ℕ → ℕ → ℕ → Type 0
SomeRowStart prep first r c = (s : Sheet) × ((y : ℕ) × RowStart s prep first r c y)

-- a point of that row
pub record RowPoint (s : Sheet) (prep : Prep) (first : Option ℕ) (r c x y : ℕ) : Type 0 where
  pub start : RowStart s prep first r c y
  pub left : s.st.tx0 ≤ x
  pub right : x < s.st.tx1

abbrev pub SomeRowPoint : Prep → Option ℕ → ℕ → ℕ → ℕ → Type 0
SomeRowPoint prep first r c x = (s : Sheet) × ((y : ℕ) × RowPoint s prep first r c x y)

-- .. for all of them
pub record PointPlay (s : Sheet) (prep : Prep) (row : Firsts) (r0 r1 c0 c1 x y : ℕ) : Type 0 where
  pub at : AtRow s prep r0 r1 c0 c1 y
  pub left : s.st.tx0 ≤ x
  pub right : x < s.st.tx1
  pub noted : Row s row r0 r1 c0 c1 y
