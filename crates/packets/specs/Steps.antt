-- The place of a cursor as the laws of runs have it.
use Rattle.laws.specs.Runs.{Cursor, fresh, at, ended}
use Rattle.types.specs.declared.cursor.Position.{Position}
use Rattle.types.specs.declared.cursor.Place.{Place}
use Rattle.types.specs.declared.cursor.Place.TheVariants as place

-- a place, in the words of the laws of runs
abbrev pub as_cursor : Place → Cursor Position
as_cursor place.Fresh = fresh
as_cursor (place.At p) = at p
as_cursor place.Ended = ended
