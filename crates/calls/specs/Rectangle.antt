-- The rectangle of a precinct of a resolution that a sound state has.
use Rattle.std.specs.Prelude.{ℕ, ◌/◌, ◌%◌}
use Rattle.geometry.specs.Axis.{line_of, bounds_of, cell_of}
use Rattle.geometry.specs.declared.axis.Line.{Line}
use Rattle.geometry.specs.declared.axis.Resolution.{Resolution}
use Rattle.geometry.specs.declared.tile.Area.{Area}
use Rattle.soundness.specs.declared.sides.Sides.{Sides}

-- precinct k, column by column and row by row
abbrev cell : Line → ℕ → Resolution
cell l i = cell_of (bounds_of (line_of l)) l.pd i

abbrev pub area_of : Sides → ℕ → Area
area_of s k =
    record {
      x0 = (cell s.x (k % s.entry.width)).r0;
      y0 = (cell s.y (k / s.entry.width)).r0;
      x1 = (cell s.x (k % s.entry.width)).r1;
      y1 = (cell s.y (k / s.entry.width)).r1;
    }
