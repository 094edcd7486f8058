-- What the calls of an accepted sheet are to list, by the sheet's own bytes: T.800's loops for each progression in turn, and of these each packet once.
use Rattle.std.specs.Prelude.{ℕ, Bool, false, cond, ◌&&◌, ◌||◌, List, [], ◌∷◌, eqb}
use Rattle.laws.specs.Gather.{gather}
use Rattle.laws.specs.Axis.{span}
use Rattle.packets.specs.Tile.{Sheet, reported}
use Rattle.types.specs.Orders.{order_of, range_of}
use Rattle.packets.specs.Grid.{change_of}
use Rattle.packets.specs.Table.{sheet_in}
use Rattle.packets.specs.Standard.{standard_in}
use Rattle.types.specs.declared.state.Progression.{Progression}
use Rattle.types.specs.declared.cursor.Position.{Position}

-- what the bytes of a sheet say, with what setup reports
abbrev pub sheet_of : List ℕ → Sheet
sheet_of b = record { st = reported (sheet_in b); pdx = (sheet_in b).pdx; pdy = (sheet_in b).pdy }

-- T.800 B.12.1: the packets of progression k by the standard's loops with their own counters, within 01's ranges
unfoldable pub standard_of : List ℕ → ℕ → List Position
standard_of b k =
    let s : Sheet = sheet_of b in
    let q : Progression = change_of s.st k in
    standard_in s (range_of s.st q) (order_of q.prg)

-- those of every progression, one after the other
abbrev pub standard_all : List ℕ → List Position
standard_all b = gather (standard_of b) (span 0 (sheet_of b).st.progressions)

-- a packet is a layer, a resolution, a component and a precinct
abbrev pub same_packet : Position → Position → Bool
same_packet p q = eqb p.layno q.layno && (eqb p.resno q.resno && (eqb p.compno q.compno && eqb p.precno q.precno))

-- the packet of p is one of these
unfoldable pub has_packet : Position → List Position → Bool
has_packet p [] = false
has_packet p (q ∷ qs) = same_packet p q || has_packet p qs

-- a list, with a packet left out that was seen before
unfoldable pub firsts_after : List Position → List Position → List Position
firsts_after seen [] = []
firsts_after seen (p ∷ ps) = cond (has_packet p seen) (firsts_after seen ps) (p ∷ firsts_after (p ∷ seen) ps)

-- one already listed left out
abbrev pub firsts : List Position → List Position
firsts ps = firsts_after [] ps
