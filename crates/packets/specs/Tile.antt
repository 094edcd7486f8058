-- The tile as a sheet describes it: the bounds and precincts of every component and resolution (01, 'Geometry'; T.800 B.3, B.5, B.6), what setup reports,
-- strides, marks needed, and the mark of a position.
use Rattle.std.specs.Prelude.{ℕ, ◌+◌, ◌-◌, ◌*◌, ◌/◌, ◌%◌, cond, List, map, get_or, ltb, leb}
use Rattle.laws.specs.Below.{max_below, min_below, sum_below}
use Rattle.geometry.specs.Line.{Line, step, count, cell_low, cell_high}
use Rattle.geometry.specs.declared.tile.Area.{Area}
use Rattle.types.specs.State.{no_component}
use Rattle.types.specs.declared.state.Component.{Component}
use Rattle.types.specs.declared.state.Reports.{Reports}
use Rattle.types.specs.declared.state.State.{State}
use Rattle.types.specs.declared.cursor.Position.{Position}

-- what a sheet says: its fields, and the precinct exponents of resolution r of component c
pub record Sheet : Type 0 where
  pub st : State
  pub pdx : ℕ → ℕ → ℕ
  pub pdy : ℕ → ℕ → ℕ

-- component c, and its fields
abbrev pub component_of : State → ℕ → Component
component_of st c = get_or st.comps c no_component

abbrev pub dx_of : State → ℕ → ℕ
dx_of st c = (component_of st c).dx

abbrev pub dy_of : State → ℕ → ℕ
dy_of st c = (component_of st c).dy

abbrev pub res_of : State → ℕ → ℕ
res_of st c = (component_of st c).resolutions

-- the numbers of resolutions of all components, one for each place of the state's array
abbrev pub resolutions_of : State → List ℕ
resolutions_of st = map (λ (t : Component). t.resolutions) st.comps

-- 01: level = resolutions - 1 - resno, of the component
abbrev pub level_of : State → ℕ → ℕ → ℕ
level_of st c r = res_of st c - 1 - r

-- the tile's two axes as resolution r of component c sees them
abbrev pub line_x : Sheet → ℕ → ℕ → Line
line_x s c r = record { t0 = s.st.tx0; t1 = s.st.tx1; d = dx_of s.st c; level = level_of s.st c r; pd = s.pdx c r }

abbrev pub line_y : Sheet → ℕ → ℕ → Line
line_y s c r = record { t0 = s.st.ty0; t1 = s.st.ty1; d = dy_of s.st c; level = level_of s.st c r; pd = s.pdy c r }

-- T.800 B.6: numprecinctswide, numprecinctshigh
abbrev pub width : Sheet → ℕ → ℕ → ℕ
width s c r = count (line_x s c r)

abbrev pub height : Sheet → ℕ → ℕ → ℕ
height s c r = count (line_y s c r)

-- T.800 B.6: numprecincts; none for a resolution that the component has not got
abbrev pub precincts : Sheet → ℕ → ℕ → ℕ
precincts s c r = cond (ltb r (res_of s.st c)) (width s c r * height s c r) 0

-- T.800 B.6: precinct k of a resolution, in raster order: the cell of its column, k mod numprecinctswide, and of its row, both cut to the resolution
unfoldable pub rectangle : Sheet → ℕ → ℕ → ℕ → Area
rectangle s c r k =
    let column = k % width s c r in
    let row = k / width s c r in
    record {
      x0 = cell_low (line_x s c r) column;
      y0 = cell_low (line_y s c r) row;
      x1 = cell_high (line_x s c r) column;
      y1 = cell_high (line_y s c r) row;
    }

-- 01: the largest precinct count and the largest number of resolutions
unfoldable pub max_prec : Sheet → ℕ
max_prec s = max_below (λ c. max_below (precincts s c) (res_of s.st c)) s.st.components

unfoldable pub max_res : State → ℕ
max_res st = max_below (res_of st) st.components

-- 01: dx_min and dy_min start at 0x7fffffff and count only steps that fit 32 bits
abbrev pub fitting : ℕ → ℕ
fitting n = cond (leb n 4294967295) n 2147483647

unfoldable pub dx_min : Sheet → ℕ
dx_min s = min_below 2147483647 (λ c. min_below 2147483647 (λ r. fitting (step (line_x s c r))) (res_of s.st c)) s.st.components

unfoldable pub dy_min : Sheet → ℕ
dy_min s = min_below 2147483647 (λ c. min_below 2147483647 (λ r. fitting (step (line_y s c r))) (res_of s.st c)) s.st.components

-- what setup reports
abbrev pub reports_of : Sheet → Reports
reports_of s = record { max_prec = max_prec s; max_res = max_res s.st; dx_min = dx_min s; dy_min = dy_min s }

-- the state with it
unfoldable pub reported : Sheet → State
reported s =
    let st : State = s.st in
    record {
      tx0 = st.tx0;
      ty0 = st.ty0;
      tx1 = st.tx1;
      ty1 = st.ty1;
      layers = st.layers;
      components = st.components;
      progressions = st.progressions;
      comps = st.comps;
      changes = st.changes;
      reports = reports_of s;
    }

-- 01, 'Strides': precinct 1, component = largest count, resolution = components times that, layer = largest resolutions times that
abbrev pub stride_c : State → ℕ
stride_c st = st.reports.max_prec

abbrev pub stride_r : State → ℕ
stride_r st = st.components * stride_c st

abbrev pub stride_l : State → ℕ
stride_l st = st.reports.max_res * stride_r st

-- 01: marks needed = layers times the layer stride
unfoldable pub needed : State → ℕ
needed st = st.layers * stride_l st

-- where the mark of a position stands
unfoldable pub index_of : State → Position → ℕ
index_of st p = p.layno * stride_l st + p.resno * stride_r st + p.compno * stride_c st + p.precno

-- 01: the table has four words for each resolution, component after component; so many resolutions before those of component c
unfoldable pub entries_before : State → ℕ → ℕ
entries_before st c = sum_below (res_of st) c

-- bytes of the table that are needed
abbrev pub table_bytes : State → ℕ
table_bytes st = 16 * entries_before st st.components
