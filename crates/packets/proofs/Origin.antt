-- Where a sound state comes from: it is what setup answers for some sheet, and what setup answers is sound; with its totals (02, P8), it is what calls after setup leave.
-- Assumes nothing.
use Rattle.std.specs.Prelude.{◌≡◌, refl, true, List, ◌++◌, ◌↔◌, ℕ, ◌≤◌, ◌<◌, length, take, drop, pos}
use Rattle.std.proofs.Common.{sym, ap, ◌∙◌, take-append-drop, take_at, lt-ltb}
use Rattle.laws.specs.Means.{leb-means, and-means}
use Rattle.words.specs.Words.{over}
use Rattle.words.specs.Laws.{Bytes}
use Rattle.packets.specs.Sheet.{fields_of}
use Rattle.packets.specs.Tile.{Sheet, reported, needed, entries_before, table_bytes}
use Rattle.packets.specs.Table.{table_of, sheet_at, sheet_in}
use Rattle.packets.specs.Sound.{state_sound, followed_sound}
use Rattle.packets.specs.Calls.{Setup, setup_verdict, accepted, setup_of, Start, start_of}
use Rattle.packets.specs.Traces.{Call, World, traced}
use Rattle.packets.specs.Accepted.{read-means}
use Rattle.packets.proofs.SetupSound.{setup-sound}
use Rattle.packets.proofs.WholeRun.{setup-passed, passed-setup, setup-verdict, setup-accepts, start_zero}
use Rattle.packets.specs.Readback.{table-length}
use Rattle.packets.specs.Meaning.{sound-means}
use Rattle.packets.specs.Written.{written}
use Rattle.packets.specs.Rebuilt.{Formed}
use Rattle.packets.proofs.Rebuilt.{reads, bytes-fit}
use Rattle.packets.proofs.Recovered.{answers, agrees, table-back}
use Rattle.packets.proofs.Counting.{counts-few}
use Rattle.packets.proofs.OwnRun.{own-counts}
use Rattle.types.specs.Totals.{total_for}
use Rattle.types.specs.declared.state.State.{State}
use Rattle.types.specs.declared.followed.Followed.{Followed}
use Rattle.packets.specs.Origin.{SetUpFrom, SetUpBy}

-- a sound state and its table are what setup answers and writes for some sheet
pub sound_from : (st : State) (table marks : List ℕ) → Formed st → Bytes table → state_sound st table marks ≡ true → (b : List ℕ) × SetUpFrom st table marks b
sound_from st table marks formed bytes e =
    let sound = (sound-means st table marks).0 e in (
      written (sheet_at st table),
      record {
        bytes = bytes-fit st table marks formed sound;
        accepted = (read-means _).1 (reads st table marks formed sound);
        agreed = agrees st table marks formed sound;
        few = sound.few;
        marks_long = sound.marks_long;
        table_long = sound.table_long;
        answered = answers st table marks formed sound;
        filled = table-back st table marks formed sound bytes;
      },
    )

-- the table written for the state's sheet has the state's length, and lies there already
module _ (st : State) (table b : List ℕ) (answered : st ≡ reported (sheet_in b)) where
  table-size : length (table_of (sheet_in b)) ≡ table_bytes st
  table-size =
      let same : table_bytes (fields_of b) ≡ table_bytes st = rw answered (unfold reported entries_before in refl) in
      table-length (sheet_in b) ∙ same

  laid : take (table_bytes st) table ≡ table_of (sheet_in b) → over (table_of (sheet_in b)) table ≡ table
  laid e =
      ap (λ (n : ℕ). table_of (sheet_in b) ++ drop n table) table-size
      ∙ ap (λ (l : List ℕ). l ++ drop (table_bytes st) table) (sym e) ∙ take-append-drop (table_bytes st) table

  lies : over (table_of (sheet_in b)) table ≡ table → take (table_bytes st) table ≡ table_of (sheet_in b)
  lies e = ap (λ (l : List ℕ). take (table_bytes st) l) (sym e) ∙ take_at (table_of (sheet_in b)) (drop (length (table_of (sheet_in b))) table) (table_bytes st) table-size

-- and what setup answers and writes is sound
pub from_sound : (st : State) (table marks b : List ℕ) → SetUpFrom st table marks b → state_sound st table marks ≡ true
from_sound st table marks b f =
    let s : Sheet = sheet_in b in
    let room : table_bytes (fields_of b) ≤ length table = rw (← (table-length s), table-size st table b f.answered) f.table_long in
    let w : state_sound (reported s) (over (table_of s) table) marks ≡ true
    = setup-sound b f.bytes ((read-means b).0 f.accepted) table room marks f.agreed (rw f.answered at f.few) (rw f.answered at f.marks_long) in
    let there = sym (laid st table b f.answered f.filled) in
    (λ i. state_sound (f.answered i) (there i) marks) ∙ w

-- A STATE AND A TABLE ARE SOUND EXACTLY IF SOME ACCEPTED SHEET'S SETUP ANSWERS THAT STATE AND WRITES THOSE WORDS
pub sound-origin : (st : State) (table marks : List ℕ) → Formed st → Bytes table → (state_sound st table marks ≡ true) ↔ ((b : List ℕ) × SetUpFrom st table marks b)
sound-origin st table marks formed bytes = (sound_from st table marks formed bytes, λ f. from_sound st table marks f.0 f.1)

module _ (st : State) (table marks b : List ℕ) where
  abbrev v : ℕ
  v = setup_verdict b table marks

  passed : SetUpFrom st table marks b → v ≡ 0
  passed f =
      let same = f.answered in
      passed-setup b table marks
      (record { read = f.accepted; grid = f.agreed; few = rw same at f.few; enough = rw same at f.marks_long; room = rw same at f.table_long })

  -- what the call says, and what is tested: each from the other
  pub from_call : SetUpBy st table marks b → SetUpFrom st table marks b
  from_call f =
      let z : v ≡ 0 = setup-verdict b table marks f.accepts in
      let p = setup-passed b table marks z in
      let e : accepted b table marks ≡ setup_of b table marks = sym (setup-accepts b table marks z) in
      let there : reported (sheet_in b) ≡ st = ap (λ (r : Setup). r.said.state) e ∙ f.answers in
      record {
        bytes = f.bytes;
        accepted = p.read;
        agreed = p.grid;
        few = rw there at p.few;
        marks_long = rw there at p.enough;
        table_long = rw there at p.room;
        answered = sym there;
        filled = lies st table b (sym there) (ap (λ (r : Setup). r.table) e ∙ f.writes);
      }

  pub call_from : SetUpFrom st table marks b → SetUpBy st table marks b
  call_from f =
      let e = setup-accepts b table marks (passed f) in
      record {
        bytes = f.bytes;
        accepts = ap (λ (r : Setup). r.said.number) e;
        answers = ap (λ (r : Setup). r.said.state) e ∙ sym f.answered;
        writes = ap (λ (r : Setup). r.table) e ∙ laid st table b f.answered f.filled;
      }

-- a state and a table are sound exactly if setup, lent that table, answers that state for some sheet and leaves the table as it is
pub sound-setup : (st : State) (table marks : List ℕ) → Formed st → Bytes table → (state_sound st table marks ≡ true) ↔ ((b : List ℕ) × SetUpBy st table marks b)
sound-setup st table marks formed bytes = (
  λ e. let f = sound_from st table marks formed bytes e in (f.0, call_from st table marks f.0 f.1),
  λ f. from_sound st table marks f.0 (from_call st table marks f.0 f.1),
)

-- THE SAME WITH THE TOTALS, of the test before joining and opening: for viewer v it is passed exactly if setup answers that state for some sheet, as above, and v's total is at most
-- the marks needed; nothing is asked of the other totals
pub followed_setup : (f : Followed) (table marks : List ℕ) (v : ℕ) → Formed f.state → Bytes table
    → (followed_sound f table marks v ≡ true) ↔ (((b : List ℕ) × SetUpBy f.state table marks b) × (total_for f v ≤ needed f.state))
unfolding followed_sound
followed_setup f table marks v formed bytes = and-means (sound-setup f.state table marks formed bytes) (leb-means (total_for f v) (needed f.state))

-- and what calls leave passes it: after setup, at every point of every trace (which is the end of a trace of fewer calls; of none, it is what setup answers), for each of the eight
pub traced-sound : (sheet table marks : List ℕ) → Bytes sheet → (let u : Start = start_of sheet table marks in u.number ≡ pos 0
    → (v : ℕ) → v < 8 → (calls : List Call) → (let w : World = (traced u.table (record { followed = u.followed; marks = u.marks }) calls).world in
    followed_sound w.followed u.table w.marks v ≡ true))
traced-sound sheet table marks bytes e =
    let (p, same) = start_zero sheet table marks e in
    rw same (λ v w calls. let viewer = lt-ltb v 8 w in counts-few _ v viewer _ (own-counts sheet table marks bytes p v viewer calls))
