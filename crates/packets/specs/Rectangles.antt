-- What the rectangles of precincts are to be (02, P2): those of a resolution its area exactly, and the point at which a walk meets a precinct where its rectangle starts.
use Rattle.std.proofs.Math.Path.{◌≡◌}
use mathlib.Core.List.{List}
use Rattle.std.proofs.Math.Option.{some}
use Prim.Native.Nat.{ℕ, ◌*◌, ◌^◌, ◌≤◌, ◌<◌}
use Rattle.std.proofs.Math.IntN.{pos}
use Rattle.laws.specs.Ceiling.{ceil_div}
use Rattle.geometry.specs.Line.{low, high}
use Rattle.geometry.specs.declared.tile.Area.{Area}
use Rattle.packets.specs.Tile.{Sheet, dx_of, dy_of, res_of, level_of, line_x, line_y}
use Rattle.packets.specs.Table.{sheet_at}
use Rattle.packets.specs.Calls.{rectangle_of}
use Rattle.types.specs.declared.state.State.{State}
use Rattle.types.specs.declared.cursor.Position.{Position}

-- a sample of a resolution, of its area from (trx0, try0) to (trx1, try1)
pub record Sample (s : Sheet) (c r x y : ℕ) : Type 0 where
  pub component : c < s.st.components
  pub resolution : r < res_of s.st c
  pub left : low (line_x s c r) ≤ x
  pub right : x < high (line_x s c r)
  pub top : low (line_y s c r) ≤ y
  pub bottom : y < high (line_y s c r)

-- a sample in a rectangle
pub record Holds (a : Area) (x y : ℕ) : Type 0 where
  pub left : a.x0 ≤ x
  pub right : x < a.x1
  pub top : a.y0 ≤ y
  pub bottom : y < a.y1

-- the call answers a rectangle
abbrev pub Answers : State → List ℕ → ℕ → ℕ → ℕ → Area → Type 0
Answers st table c r k a = rectangle_of st table c r k ≡ record { number = pos 0; area = some a }

-- THE RECTANGLES ARE THE AREA, of resolution r of component c
pub record Exact (st : State) (table : List ℕ) (c r : ℕ) : Type 0 where
  -- every sample lies in the rectangle of a precinct
  pub covered : (x y : ℕ) → Sample (sheet_at st table) c r x y → (k : ℕ) × (a : Area) × Answers st table c r k a × Holds a x y
  -- and of no other
  pub alone : (j k : ℕ) (a b : Area) (x y : ℕ) → Answers st table c r j a → Answers st table c r k b → Holds a x y → Holds b x y → j ≡ k
  -- there is nothing else in a rectangle
  pub inside : (k : ℕ) (a : Area) (x y : ℕ) → Answers st table c r k a → Holds a x y → Sample (sheet_at st table) c r x y
  -- and none is empty
  pub some_sample : (k : ℕ) (a : Area) → Answers st table c r k a → Holds a a.x0 a.y0

-- THE CORNER: divided by dx·2^level and dy·2^level, rounded up, the point of a packet is the upper left corner of the rectangle that the call answers for its precinct
abbrev pub Corner : State → List ℕ → Position → Type 0
Corner st table p =
    (a : Area) × Answers st table p.compno p.resno p.precno a
    × (a.x0 ≡ ceil_div p.x (dx_of st p.compno * 2 ^ level_of st p.compno p.resno))
    × (a.y0 ≡ ceil_div p.y (dy_of st p.compno * 2 ^ level_of st p.compno p.resno))
