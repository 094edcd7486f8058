-- Preparing: what is made of the entry of a resolution of a component, and what the walks by points need of it.
use Rattle.std.specs.Prelude.{ℕ, ◌+◌, ◌*◌, ◌/◌, ◌%◌, ◌^◌, ◌≤◌, ◌<◌, cond, ltb, eqb}
use Rattle.laws.specs.Ceiling.{ceil_div}
use Rattle.geometry.specs.Axis.{axis_of}
use Rattle.geometry.specs.Fitted.{fitted}
use Rattle.packets.specs.Tile.{Sheet, dx_of, dy_of, precincts}
use Rattle.packets.specs.Grid.{step_x, step_y}
use Rattle.types.specs.declared.state.State.{State}
use Rattle.types.specs.declared.table.Entry.{Entry as TableEntry}
use Rattle.walks.specs.declared.prepared.Along.{Along}
use Rattle.walks.specs.declared.prepared.Prepared.{Prepared}
use Rattle.walks.specs.declared.prepare.Side.{Side}
use Rattle.walks.specs.declared.prepare.Sides.{Sides}
use Rattle.walks.specs.Made.{product}
use Rattle.walks.specs.Prepared.{Prep, Entry}

-- a component of step d along an axis of a tile that starts at t, and along both
abbrev pub side_of : ℕ → ℕ → Side
side_of t d = record { t = t; axis = axis_of t t d }

abbrev pub sides_of : State → ℕ → Sides
sides_of st c = record { x = side_of st.tx0 (dx_of st c); y = side_of st.ty0 (dy_of st c) }

-- what is prepared for a resolution along an axis
unfoldable pub along_by : Side → ℕ → ℕ → Along
along_by a level pd =
    let low = ceil_div a.axis.c0 (2 ^ level) in
    record { step = fitted (a.axis.d * 2 ^ (pd + level)); start = cond (eqb (low % 2 ^ pd) 0) 4294967295 a.t; first = low / 2 ^ pd }

-- .. along both; the width is 0 where there is no precinct
abbrev pub prepared_by : Sides → ℕ → TableEntry → Prepared
prepared_by a level e = record { width = cond (ltb 0 (product e)) e.width 0; x = along_by a.x level e.pdx; y = along_by a.y level e.pdy }

-- the steps of a resolution that has precincts fit 32 bits
abbrev pub Fitting : Sheet → ℕ → ℕ → Type 0
Fitting s c r = 0 < precincts s c r → (step_x s c r ≤ 4294967295) × (step_y s c r ≤ 4294967295)

-- what is prepared of a resolution, where its steps fit: all that a walk by points needs
abbrev pub Filled : Sheet → Prep → ℕ → ℕ → Type 0
Filled s prep r c = Fitting s c r → Entry s prep r c
