-- What is prepared once for each component and resolution, what it stands for, and what it answers at a point.
use Rattle.std.specs.Prelude.{ℕ, ◌+◌, ◌-◌, ◌/◌, ◌%◌, ◌≤◌, ◌<◌, ◌≡◌, Bool, cond, ◌||◌, ltb, eqb, Option, Some, None}
use Rattle.geometry.specs.Line.{Line, step, whole, first}
use Rattle.packets.specs.Tile.{Sheet, line_x, line_y, width, precincts}
use Rattle.types.specs.declared.order.Range.{Range}
use Rattle.packets.specs.Positions.{met, number_at}
use Rattle.packets.specs.Good.{Good}
use Rattle.types.specs.declared.cursor.Position.{Position}
use Rattle.walks.specs.declared.prepared.Along.{Along}
use Rattle.walks.specs.declared.prepared.Prepared.{Prepared}
use Rattle.walks.specs.declared.by_resolution.ByResolution.{ByResolution}
use Rattle.walks.specs.ByResolution.{place}

-- what is prepared, what is counted, and what is noted of a row: for each resolution of each component
abbrev pub Prep : Type 0
Prep = ByResolution Prepared

abbrev pub Counts : Type 0
Counts = ByResolution ℕ

abbrev pub Firsts : Type 0
Firsts = ByResolution (Option ℕ)

-- what is prepared of a resolution without precincts, or of none; and it tells so by its width
abbrev pub unprepared : Prepared
unprepared = let none : Along = record { step = 0; start = 0; first = 0 } in record { width = 0; x = none; y = none }

abbrev pub kept : Prepared → Option Prepared
kept p = cond (ltb 0 p.width) (Some p) None

-- those of resolution r of component c
abbrev pub kept_in : Prep → ℕ → ℕ → Option Prepared
kept_in prep r c = kept (place unprepared prep r c)

abbrev pub number_in : Counts → ℕ → ℕ → ℕ
number_in counts r c = place 0 counts r c

abbrev pub first_in : Firsts → ℕ → ℕ → Option ℕ
first_in row r c = place None row r c

-- the tile's start where it lies inside a precinct, else 2^32 - 1, which no point is
abbrev pub inside_start : Line → ℕ
inside_start l = cond (whole l) 4294967295 l.t0

-- what is prepared for a line
abbrev pub along_of : Line → Along
along_of l = record { step = step l; start = inside_start l; first = first l }

-- a coordinate meets a precinct's start, by these numbers, and the column or row that is met there
abbrev pub hit_by : Along → ℕ → Bool
hit_by a z = eqb (z % a.step) 0 || eqb z a.start

abbrev pub column_by : Along → ℕ → ℕ
column_by a z = z / a.step - a.first

-- what is kept of a resolution: nothing where there is no precinct
abbrev pub prepared_of : Sheet → ℕ → ℕ → Prepared
prepared_of s c r = record { width = width s c r; x = along_of (line_x s c r); y = along_of (line_y s c r) }

abbrev pub Entry : Sheet → Prep → ℕ → ℕ → Type 0
Entry s prep r c = kept_in prep r c ≡ cond (ltb 0 (precincts s c r)) (Some (prepared_of s c r)) None

-- resolutions r0 to r1 of components c0 to c1 are prepared, for a good sheet whose precinct counts are small
pub record InPlay (s : Sheet) (prep : Prep) (r0 r1 c0 c1 : ℕ) : Type 0 where
  pub good : Good s
  pub resolutions : r1 ≤ 33
  pub components : c1 ≤ 16
  pub known : c1 ≤ s.st.components
  pub entry : (r c : ℕ) → r0 ≤ r → r < r1 → c0 ≤ c → c < c1 → Entry s prep r c
  pub few : (r c : ℕ) → r0 ≤ r → r < r1 → c0 ≤ c → c < c1 → precincts s c r ≤ 65536
  pub ends_x : s.st.tx1 ≤ 4294967295
  pub ends_y : s.st.ty1 ≤ 4294967295

-- some sheet is so prepared
abbrev pub SomePlay : Prep → ℕ → ℕ → ℕ → ℕ → Type 0
SomePlay prep r0 r1 c0 c1 = (s : Sheet) × InPlay s prep r0 r1 c0 c1

-- one resolution of one component, at a point of the tile
pub record AtPoint (s : Sheet) (prep : Prep) (r c x y : ℕ) : Type 0 where
  pub play : InPlay s prep r (r + 1) c (c + 1)
  pub left : s.st.tx0 ≤ x
  pub right : x < s.st.tx1
  pub top : s.st.ty0 ≤ y
  pub bottom : y < s.st.ty1

abbrev pub SomePoint : Prep → ℕ → ℕ → ℕ → ℕ → Type 0
SomePoint prep r c x y = (s : Sheet) × AtPoint s prep r c x y

abbrev pub range_by : ℕ → ℕ → ℕ → ℕ → Range
range_by r0 r1 c0 c1 = record { layno1 = 0; resno0 = r0; resno1 = r1; compno0 = c0; compno1 = c1 }

-- a place in row y, and at a point
abbrev pub at_row : ℕ → Position
at_row y = record { layno = 0; resno = 0; compno = 0; precno = 0; x = 0; y = y }

abbrev pub point_of : ℕ → ℕ → ℕ → ℕ → Position
point_of r c x y = record { layno = 0; resno = r; compno = c; precno = 0; x = x; y = y }

-- the precinct that is met at a point, if one is
unfoldable pub cell_of : Sheet → ℕ → ℕ → ℕ → ℕ → Option ℕ
cell_of s r c x y = cond (met s (point_of r c x y)) (Some (number_at s (point_of r c x y))) None
