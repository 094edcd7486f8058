-- Soundness (01, 'Sound means'), as a test that computes. `Meaning` says the same as a proposition.
use Rattle.std.specs.Prelude.{ℕ, ◌+◌, ◌-◌, Bool, true, false, ◌&&◌, ◌||◌, List, [], ◌∷◌, length, ltb, leb, eqb}
use Rattle.laws.specs.Below.{all_below}
use Rattle.types.specs.Signed.{is_zero}
use Rattle.types.specs.Viewers.{is_viewer}
use Rattle.types.specs.Totals.{total_for}
use Rattle.types.specs.Ranges.{tile_range, component_range, exponent_range, is_volume, progression_range}
use Rattle.packets.specs.Tile.{Sheet, dx_of, dy_of, res_of, width, height, max_prec, max_res, dx_min, dy_min, needed, table_bytes}
use Rattle.packets.specs.Grid.{everywhere, change_of, grid_agreed}
use Rattle.packets.specs.Positions.{positions_of}
use Rattle.packets.specs.Table.{entry_word, sheet_at}
use Rattle.packets.specs.Same.{same_position}
use Rattle.types.specs.declared.state.Progression.{Progression}
use Rattle.types.specs.declared.state.State.{State}
use Rattle.types.specs.declared.followed.Followed.{Followed}
use Rattle.types.specs.declared.cursor.Position.{Position}
use Rattle.types.specs.declared.cursor.Place.{Place}
use Rattle.types.specs.declared.cursor.Place.TheVariants.{Fresh, At, Ended}
use Rattle.types.specs.declared.cursor.Cursor.{Cursor}

-- 01: every rule and range holds. The tile record's
abbrev pub tile_good : State → Bool
tile_good st = tile_range st.tx0 st.ty0 st.tx1 st.ty1 st.layers st.components st.progressions

-- the components', and nothing beyond the last
unfoldable pub components_sound : State → Bool
components_sound st =
    all_below (λ c. component_range (dx_of st c) (dy_of st c) (res_of st c)) st.components
    && all_below (λ c. eqb (dx_of st (st.components + c)) 0 && (eqb (dy_of st (st.components + c)) 0 && eqb (res_of st (st.components + c)) 0)) (16 - st.components)

-- the words that kind 5 does not name are 0
abbrev pub no_range : Progression → Bool
no_range q = eqb q.resno0 0 && (eqb q.compno0 0 && (eqb q.layno1 0 && (eqb q.resno1 0 && eqb q.compno1 0)))

-- the progressions': all of kinds 4 and 6 (02, P6), or exactly one of kind 5; and nothing beyond the last
abbrev pub progression_good : State → Progression → Bool
progression_good st q =
    (is_volume q.kind && progression_range q.resno0 q.layno1 q.resno1) || (eqb q.kind 5 && (eqb st.progressions 1 && no_range q))

unfoldable pub progressions_sound : State → Bool
progressions_sound st =
    all_below (λ k. progression_good st (change_of st k)) st.progressions
    && all_below
    (λ k. let q : Progression = change_of st (st.progressions + k) in eqb q.kind 0 && (is_zero q.prg && no_range q))
    (32 - st.progressions)

-- 01: the table is what setup writes: exponents in range, and the width and height that follow from them
unfoldable pub entry_sound : State → List ℕ → ℕ → ℕ → Bool
entry_sound st table c r =
    exponent_range (entry_word st table 0 c r) (entry_word st table 1 c r)
    && (eqb (entry_word st table 2 c r) (width (sheet_at st table) c r) && eqb (entry_word st table 3 c r) (height (sheet_at st table) c r))

unfoldable pub table_sound : State → List ℕ → Bool
table_sound st table = leb (table_bytes st) (length table) && everywhere st (entry_sound st table)

-- 01: the numbers that setup reports are those its fields give
unfoldable pub reports_sound : Sheet → Bool
reports_sound s =
    eqb s.st.reports.max_prec (max_prec s) && (eqb s.st.reports.max_res (max_res s.st) && (eqb s.st.reports.dx_min (dx_min s) && eqb s.st.reports.dy_min (dy_min s)))

-- 01: everything that soundness asks of a state and its table, whatever marks and cursor are lent with them: at most 65,536 marks are needed
unfoldable pub sheet_sound : State → List ℕ → Bool
sheet_sound st table =
    tile_good st
    && (components_sound st
    && (progressions_sound st
    && (table_sound st table && (reports_sound (sheet_at st table) && (grid_agreed (sheet_at st table) && leb (needed st) 65536)))))

-- and the marks suffice; opening has no cursor to test
unfoldable pub state_sound : State → List ℕ → List ℕ → Bool
state_sound st table marks = sheet_sound st table && leb (needed st) (length marks)

-- 02, P8: and of the totals only the viewer's own is asked, to be at most the marks needed
unfoldable pub followed_sound : Followed → List ℕ → List ℕ → ℕ → Bool
followed_sound f table marks v = state_sound f.state table marks && leb (total_for f v) (needed f.state)

-- a position is one of a list
unfoldable pub is_in : Position → List Position → Bool
is_in p [] = false
is_in p (q ∷ qs) = elim (same_position p q) [ true ↦ true | false ↦ is_in p qs ]

-- 01: a cursor is fresh, ended, or stands at a position which its progression admits, with the x and y where it is met
abbrev pub place_sound : Place → List Position → Bool
place_sound Fresh ps = true
place_sound (At p) ps = is_in p ps
place_sound Ended ps = true

-- the positions of progression k of a state and its table
abbrev pub positions_for : State → List ℕ → ℕ → List Position
positions_for st table k = positions_of (sheet_at st table) (change_of st k)

-- 01: the cursor names a progression of the sheet and is one of these three; 02, P4: and it names a viewer
unfoldable pub cursor_sound : State → List ℕ → Cursor → Bool
cursor_sound st table c =
    is_viewer c.viewer && (ltb c.progression st.progressions && place_sound c.place (positions_for st table c.progression))

unfoldable pub sound : Followed → List ℕ → List ℕ → Cursor → Bool
sound f table marks c = followed_sound f table marks c.viewer && cursor_sound f.state table c
