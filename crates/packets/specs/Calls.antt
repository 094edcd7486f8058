-- The calls: for every argument, refused or not, the answer and the later contents of everything lent.
use Rattle.std.specs.Prelude.{ℕ, ◌-◌, ◌*◌, cond, ◌&&◌, List, [], ◌∷◌, map, length, replicate, ltb, leb, eqb, ℤ, pos, negsuc}
use Rattle.std.proofs.Math.Option.{some, none}
use Rattle.laws.specs.Gather.{gather}
use Rattle.laws.specs.Axis.{span}
use Rattle.laws.specs.Lists.{behind}
use Rattle.laws.specs.Marks.{cleared_to}
use Rattle.laws.specs.Runs.{Answer, Packet, Ended, seek, mark, marked}
use Rattle.laws.specs.AllRuns.{joined, dedupe}
use Rattle.types.specs.State.{empty_state, fresh_cursor, ended_cursor}
use Rattle.types.specs.Viewers.{is_viewer}
use Rattle.types.specs.Totals.{started_with, total_for, with_total}
use Rattle.words.specs.Words.{words_bytes, over}
use Rattle.packets.specs.Sheet.{read_verdict}
use Rattle.packets.specs.Tile.{precincts, rectangle, reported, needed, index_of, table_bytes}
use Rattle.packets.specs.Grid.{grid_agreed}
use Rattle.packets.specs.Table.{sheet_in, sheet_at, table_of}
use Rattle.types.specs.Answers.{SetUpSaid, OpenSaid, StepSaid, RectangleSaid}
use Rattle.packets.specs.Totals.{total}
use Rattle.packets.specs.Sound.{sheet_sound, followed_sound, sound, positions_for}
use Rattle.packets.specs.Same.{same}
use Rattle.types.specs.declared.state.State.{State}
use Rattle.types.specs.declared.followed.Followed.{Followed}
use Rattle.types.specs.declared.cursor.Position.{Position}
use Rattle.types.specs.declared.cursor.Place.{Place}
use Rattle.types.specs.declared.cursor.Place.TheVariants as place
use Rattle.types.specs.declared.cursor.Cursor.{Cursor}

-- 01: a refusal is its number, negated
abbrev pub refusal : ℕ → ℤ
refusal n = negsuc (n - 1)

-- SETUP. What it answers and leaves
pub record Setup : Type 0 where
  pub said : SetUpSaid
  pub table : List ℕ
  pub marks : List ℕ

-- 01: -1, -2, -3 as the sheet is read, then -4 to -7 in order; 0 where there is no refusal
unfoldable pub setup_verdict : List ℕ → List ℕ → List ℕ → ℕ
setup_verdict sheet table marks =
    let st : State = reported (sheet_in sheet) in
    let v = read_verdict sheet in
    let grid = grid_agreed (sheet_in sheet) in
    let many = leb (needed st) 65536 in
    cond (eqb v 0)
    (cond grid (cond many (cond (leb (needed st) (length marks)) (cond (leb (table_bytes st) (length table)) 0 7) 6) 5) 4)
    v

-- 01: setup writes the table and clears the needed marks; what stands beyond is unchanged
abbrev pub accepted : List ℕ → List ℕ → List ℕ → Setup
accepted sheet table marks =
    let st : State = reported (sheet_in sheet) in
    record {
      said = record { number = pos 0; state = st };
      table = over (table_of (sheet_in sheet)) table;
      marks = over (replicate (needed st) 0) marks;
    }

-- 01: a refusal carries only its number, and nothing lent changes
abbrev pub turned_away : ℕ → List ℕ → List ℕ → Setup
turned_away n table marks = record { said = record { number = refusal n; state = empty_state }; table = table; marks = marks }

unfoldable pub setup_of : List ℕ → List ℕ → List ℕ → Setup
setup_of sheet table marks =
    let v = setup_verdict sheet table marks in
    cond (eqb v 0) (accepted sheet table marks) (turned_away v table marks)

-- .. AND WHO FOLLOWS IT. 02, P8: setup gives every viewer the number of packets that some progression admits; with a refusal, whose state has no components, that is 0
pub record Start : Type 0 where
  pub number : ℤ
  pub followed : Followed
  pub table : List ℕ
  pub marks : List ℕ

-- that number, by a state and its table
abbrev pub total_of : State → List ℕ → ℕ
total_of st table = total (sheet_at st table)

unfoldable pub start_of : List ℕ → List ℕ → List ℕ → Start
start_of sheet table marks =
    let u : Setup = setup_of sheet table marks in
    record {
      number = u.said.number;
      followed = started_with u.said.state (total_of u.said.state u.table);
      table = u.table;
      marks = u.marks;
    }

-- JOIN. 02, P4: joining clears the viewer's bit alone, in the needed marks; -9, then -15 for a viewer over 7. P8: it gives that number anew to its viewer
pub record Join : Type 0 where
  pub number : ℤ
  pub followed : Followed
  pub marks : List ℕ

unfoldable pub join_of : Followed → List ℕ → List ℕ → ℕ → Join
join_of f table marks v =
    cond (followed_sound f table marks v)
    (cond (is_viewer v)
    (record { number = pos 0; followed = with_total f v (total_of f.state table); marks = cleared_to v (needed f.state) marks })
    (record { number = refusal 15; followed = f; marks = marks }))
    (record { number = refusal 9; followed = f; marks = marks })

-- OPEN. 01, and 02, P4: -9, -15 for a viewer over 7, -11; opening a progression again gives a fresh cursor over the marks as they are
unfoldable pub open_of : Followed → List ℕ → List ℕ → ℕ → ℕ → OpenSaid
open_of f table marks v k =
    cond (followed_sound f table marks v)
    (cond (is_viewer v)
    (cond (ltb k f.state.progressions)
    (record { number = pos 0; cursor = some (fresh_cursor v k) })
    (record { number = refusal 11; cursor = none }))
    (record { number = refusal 15; cursor = none }))
    (record { number = refusal 9; cursor = none })

-- RECTANGLE of a precinct on its resolution. 02, P2: -9 where state or table is not sound, then -14 for a component, resolution or precinct that the table has
-- not got
unfoldable pub rectangle_of : State → List ℕ → ℕ → ℕ → ℕ → RectangleSaid
rectangle_of st table c r k =
    cond (sheet_sound st table)
    (cond (ltb c st.components && ltb k (precincts (sheet_at st table) c r))
    (record { number = pos 0; area = some (rectangle (sheet_at st table) c r k) })
    (record { number = refusal 14; area = none }))
    (record { number = refusal 9; area = none })

-- STEP. 01: a step searches after its cursor, in order; 02, P4: by the bit of its viewer
abbrev pub after : Place → List Position → List Position
after place.Fresh ps = ps
after (place.At p) ps = behind same p ps
after place.Ended ps = []

pub record Step : Type 0 where
  pub said : StepSaid
  pub followed : Followed
  pub marks : List ℕ

-- 01: 1, the packet marked and returned with the moved cursor; or 0, the cursor is ended. 02, P8: a step that finds takes one from its own viewer's total, 0 staying 0
abbrev pub step_by : Followed → List ℕ → ℕ → ℕ → Answer Position → Step
step_by f marks v k (Packet p) =
    record {
      said = record { number = pos 1; packet = some p; cursor = record { viewer = v; progression = k; place = place.At p } };
      followed = with_total f v (total_for f v - 1);
      marks = mark v (index_of f.state) marks p;
    }
step_by f marks v k Ended = record { said = record { number = pos 0; packet = none; cursor = ended_cursor v k }; followed = f; marks = marks }

-- 01: a refused step answers also the cursor as given
unfoldable pub step_of : Followed → List ℕ → List ℕ → Cursor → Step
step_of f table marks c =
    let st : State = f.state in
    let v = c.viewer in
    let found = step_by f marks v c.progression (seek v (index_of st) marks (after c.place (positions_for st table c.progression))) in
    cond (sound f table marks c) found
    (record { said = record { number = refusal 9; packet = none; cursor = c }; followed = f; marks = marks })

-- WHOLE RUN. What it answers and leaves
pub record Run : Type 0 where
  pub number : ℤ
  pub table : List ℕ
  pub marks : List ℕ
  pub output : List ℕ

-- the plain loops of every progression in turn, one after the other, with a packet already listed left out
unfoldable pub listed : State → List ℕ → List Position
listed st table = dedupe (index_of st) (joined (map (positions_for st table) (span 0 st.progressions)))

-- 01: 16-byte records: layer, resolution, component, precinct, big-endian
abbrev pub packet_words : Position → List ℕ
packet_words p = p.layno ∷ p.resno ∷ p.compno ∷ p.precno ∷ []

unfoldable pub records_of : List Position → List ℕ
records_of ps = words_bytes (gather packet_words ps)

-- 01: then -8 for an output shorter than 16 bytes for each mark needed
unfoldable pub run_verdict : List ℕ → List ℕ → List ℕ → List ℕ → ℕ
run_verdict sheet table marks output =
    let v = setup_verdict sheet table marks in
    let room = leb (16 * needed (reported (sheet_in sheet))) (length output) in
    cond (eqb v 0) (cond room 0 8) v

-- 01: the whole run answers the count of its records; output beyond is unchanged. 02, P4: it is viewer 0's
unfoldable pub ran_over : Setup → List ℕ → Run
ran_over u output =
    let st : State = u.said.state in
    let ps : List Position = listed st u.table in
    record {
      number = pos (length ps);
      table = u.table;
      marks = marked 0 (index_of st) u.marks ps;
      output = over (records_of ps) output;
    }

unfoldable pub whole_run_of : List ℕ → List ℕ → List ℕ → List ℕ → Run
whole_run_of sheet table marks output =
    let v = run_verdict sheet table marks output in
    let ran = ran_over (accepted sheet table marks) output in
    cond (eqb v 0) ran (record { number = refusal v; table = table; marks = marks; output = output })
