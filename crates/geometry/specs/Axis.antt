-- An axis as the code holds it: the numbers of a component and of its resolutions, in the words of Line.
use Rattle.std.specs.Prelude.{ℕ, ◌/◌, ◌^◌, min}
use Rattle.laws.specs.Ceiling.{ceil_div}
use Rattle.geometry.specs.Precinct.{across, cell_from, cell_to}
use Rattle.geometry.specs.Line as line
use Rattle.geometry.specs.declared.axis.Axis.{Axis}
use Rattle.geometry.specs.declared.axis.Resolution.{Resolution}
use Rattle.geometry.specs.declared.axis.Columns.{Columns}
use Rattle.geometry.specs.declared.axis.Line.{Line}

-- T.800 B.3: tcx0 and tcx1 of a component of step d on a tile from t0 to t1
abbrev pub axis_of : ℕ → ℕ → ℕ → Axis
axis_of t0 t1 d = record { c0 = ceil_div t0 d; c1 = ceil_div t1 d; d = d }

-- T.800 B.5: trx0 and trx1 of its resolution at a level
abbrev pub resolution_of : Axis → ℕ → Resolution
resolution_of a level = record { r0 = ceil_div a.c0 (2 ^ level); r1 = ceil_div a.c1 (2 ^ level) }

-- 01: floor(rx0/2^pdx), the first column; T.800 B.6: numprecinctswide
unfoldable pub columns_of : Resolution → ℕ → Columns
columns_of r pd = record { first = r.r0 / 2 ^ pd; count = across r.r0 r.r1 pd }

-- T.800 B.6: the samples of its precinct i; beyond the last there are none
unfoldable pub cell_of : Resolution → ℕ → ℕ → Resolution
cell_of r pd i = record { r0 = min r.r1 (cell_from r.r0 pd i); r1 = cell_to r.r0 r.r1 pd i }

-- the code's line
abbrev pub line_of : Line → line.Line
line_of l = record { t0 = l.t0; t1 = l.t1; d = l.d; level = l.level; pd = l.pd }

-- and the resolution that it sees
abbrev pub bounds_of : line.Line → Resolution
bounds_of s = record { r0 = line.low s; r1 = line.high s }
