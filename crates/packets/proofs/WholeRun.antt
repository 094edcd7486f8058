-- What an accepted sheet has passed; that its state is sound and its needed marks are clear; and that the whole run is setup, followed by the calls that a host
-- would make: every progression in turn until it ends. Assumes nothing.
use Rattle.std.specs.Prelude.{◌≡◌, true, List, length, get_or, drop, replicate, leb, eqb}
use Rattle.std.proofs.Math.Path.{refl, ap}
use Rattle.std.proofs.Common.{sym, ◌∙◌, arith, get_or-append-add, get_or-drop}
use Prim.Native.Nat.{ℕ, ◌+◌, ◌-◌, ◌*◌, ◌≤◌, ◌<◌}
use Rattle.std.proofs.lemmas.List.{length-replicate, get_or-replicate}
use Rattle.std.proofs.Math.ListN.{get_or-append}
use Rattle.std.proofs.Math.IntN.{pos}
use borrow.Author.Tests.{ltb-true, leb-true, le-leb, eqb-true, eqb-false, eq-eqb}
use Rattle.laws.specs.Marks.{zero_free}
use Rattle.laws.specs.Cases.{split, and_both, cond_zero}
use Rattle.laws.specs.AllRuns.{Listing}
use Rattle.words.specs.Words.{over}
use Rattle.words.specs.Laws.{Bytes, over-length}
use Rattle.packets.specs.Sheet.{read_verdict, fields_of}
use Rattle.packets.specs.Tile.{reported, needed, entries_before, table_bytes}
use Rattle.packets.specs.Grid.{grid_agreed}
use Rattle.packets.specs.Table.{sheet_in, sheet_at}
use Rattle.packets.specs.Sound.{state_sound, followed_sound}
use Rattle.packets.specs.Calls.{refusal, Setup, setup_verdict, accepted, setup_of, total_of, start_of, records_of, run_verdict, ran_over, whole_run_of}
use Rattle.packets.specs.Host.{most_steps, host_calls, answered}
use Rattle.packets.specs.Reading.{read-good}
use Rattle.packets.proofs.SetupSound.{setup-sound}
use Rattle.packets.specs.Meaning.{sound-good}
use Rattle.packets.specs.Good.{Good}
use Rattle.packets.proofs.Run.{run-listed}
use Rattle.packets.proofs.Admitted.{total-few}
use Rattle.types.specs.Viewers.{is_viewer}
use Rattle.types.specs.Totals.{started_with, total_for}
use Rattle.types.specs.declared.state.State.{State}
use Rattle.types.specs.declared.followed.Followed.{Followed}
use Rattle.types.specs.declared.cursor.Position.{Position}
use Rattle.packets.specs.WholeRun.{Passed}

pub setup-passed : (sheet table marks : List ℕ) → setup_verdict sheet table marks ≡ 0 → Passed sheet table marks
unfolding setup_verdict
setup-passed sheet table marks e =
    let st : State = reported (sheet_in sheet) in
    let read = cond_zero (eqb (read_verdict sheet) 0) _ (read_verdict sheet) (eqb-false (read_verdict sheet) 0) e in
    let grid = cond_zero (grid_agreed (sheet_in sheet)) _ 4 (λ t z. omega arith) read.1 in
    let few = cond_zero (leb (needed st) 65536) _ 5 (λ t z. omega arith) grid.1 in
    let enough = cond_zero (leb (needed st) (length marks)) _ 6 (λ t z. omega arith) few.1 in
    let room = cond_zero (leb (table_bytes st) (length table)) 0 7 (λ t z. omega arith) enough.1 in
    record { read = eqb-true _ _ read.0; grid = grid.0; few = leb-true _ _ few.0; enough = leb-true _ _ enough.0; room = leb-true _ _ room.0 }

-- and the other way
pub passed-setup : (sheet table marks : List ℕ) → Passed sheet table marks → setup_verdict sheet table marks ≡ 0
unfolding setup_verdict
passed-setup sheet table marks p = rw (p.read, p.grid, le-leb _ _ p.few, le-leb _ _ p.enough, le-leb _ _ p.room)

module _ (sheet table marks : List ℕ) where
  -- a setup that answers 0 has no refusal
  pub setup-verdict : (setup_of sheet table marks).said.number ≡ pos 0 → setup_verdict sheet table marks ≡ 0
  unfolding setup_of
  setup-verdict e =
      let v : ℕ = setup_verdict sheet table marks in
      split (eqb v 0) (λ t. eqb-true v 0 t) (λ t. let z : refusal v ≡ pos 0 = rw t at e in cc)

  -- one without a refusal is accepted
  pub setup-accepts : setup_verdict sheet table marks ≡ 0 → setup_of sheet table marks ≡ accepted sheet table marks
  unfolding setup_of
  setup-accepts e = rw (eq-eqb _ _ e)

  -- so one that answers 0 has passed all tests and is accepted
  pub setup_zero : (setup_of sheet table marks).said.number ≡ pos 0 → Passed sheet table marks × (setup_of sheet table marks ≡ accepted sheet table marks)
  setup_zero e = let v = setup-verdict e in (setup-passed sheet table marks v, setup-accepts v)

  -- the same of setup for those who follow
  pub start_zero : (start_of sheet table marks).number ≡ pos 0
      → Passed sheet table marks × (let u : Setup = accepted sheet table marks in
      start_of sheet table marks
      ≡ record { number = pos 0; followed = started_with u.said.state (total_of u.said.state u.table); table = u.table; marks = u.marks })
  unfolding start_of
  start_zero e =
      let (p, same) = setup_zero e in
      (p, ap (λ (u : Setup). record { number = u.said.number; followed = started_with u.said.state (total_of u.said.state u.table); table = u.table; marks = u.marks }) same)

  -- a whole run with a refusal leaves everything lent as it was
  pub run-refuses : (output : List ℕ) → (run_verdict sheet table marks output ≡ 0 → ⊥)
      → whole_run_of sheet table marks output ≡ record { number = refusal (run_verdict sheet table marks output); table = table; marks = marks; output = output }
  unfolding whole_run_of
  run-refuses output n = split (eqb (run_verdict sheet table marks output) 0) (λ t. absurd (n (eqb-true _ _ t))) (λ t. rw t)

-- AN ACCEPTED SHEET
module _ (sheet table marks : List ℕ) (bytes : Bytes sheet) (p : Passed sheet table marks) where
  abbrev u : Setup
  u = accepted sheet table marks

  abbrev st : State
  st = reported (sheet_in sheet)

  abbrev zeros : List ℕ
  zeros = replicate (needed st) 0

  zeros_long : length zeros ≡ needed st
  zeros_long = let z : ℕ = 0 in length-replicate (needed st) z

  pub accepted-size : length u.marks ≡ length marks
  accepted-size = over-length zeros marks (rw zeros_long p.enough)

  -- setup's state, with the table and marks that it leaves, is sound
  pub accepted-sound : state_sound st u.table u.marks ≡ true
  accepted-sound = setup-sound sheet bytes (read-good sheet p.read) table room u.marks p.grid p.few (rw accepted-size p.enough)
    where
      room : table_bytes (fields_of sheet) ≤ length table
      room = unfold reported entries_before in p.room

  -- and the needed marks are clear
  pub accepted_clear : (i : ℕ) → i < needed st → get_or u.marks i 0 ≡ 0
  accepted_clear i h =
      let z : ℕ = 0 in
      let l : i < length zeros = rw zeros_long h in
      rw (get_or-append zeros (drop (length zeros) marks) z i l) (get_or-replicate (needed st) i z z h)

  pub accepted-good : Good (sheet_at st u.table)
  accepted-good = sound-good st u.table u.marks accepted-sound

  -- the marks beyond are as lent
  pub accepted_beyond : (i : ℕ) → needed st ≤ i → get_or u.marks i 0 ≡ get_or marks i 0
  accepted_beyond i h =
      let e : i ≡ length zeros + (i - needed st) = rw zeros_long (omega arith) in
      rw e (get_or-append-add zeros (drop (length zeros) marks) (i - needed st) 0 ∙ get_or-drop (length zeros) marks (i - needed st) 0)

  -- everybody at the start
  abbrev pub start : Followed
  start = started_with st (total_of st u.table)

  pub start-total : (v : ℕ) → is_viewer v ≡ true → total_for start v ≡ total_of st u.table
  unfolding total_for
  start-total v e = rw e (get_or-replicate 8 v (total_of st u.table) 0 (ltb-true v 8 e))

  pub start_place : (v : ℕ) → is_viewer v ≡ true → v < length start.totals
  start_place v e = rw (length-replicate 8 (total_of st u.table)) (ltb-true v 8 e)

  -- which is sound for each of the eight
  pub start-sound : (v : ℕ) → is_viewer v ≡ true → followed_sound start u.table u.marks v ≡ true
  unfolding followed_sound
  start-sound v e =
      and_both accepted-sound (le-leb (total_for start v) (needed st) (rw (start-total v e) (total-few st u.table u.marks accepted-sound)))

  -- THE WHOLE RUN IS THE RUN THAT A HOST'S CALLS MAKE for viewer 0, where the output has room
  pub whole_run_calls : (output : List ℕ) → 16 * needed st ≤ length output
      → (let r = host_calls start u.table u.marks 0 in
      whole_run_of sheet table marks output
      ≡ record { number = pos (length (answered r)); table = u.table; marks = r.marks; output = over (records_of (answered r)) output })
  unfolding whole_run_of run_verdict ran_over host_calls
  whole_run_calls output room =
      let few = p.few in
      rw (passed-setup sheet table marks p, le-leb _ _ room)
      (ap (λ (r : Listing Position). record { number = pos (length r.packets); table = u.table; marks = r.marks; output = over (records_of r.packets) output })
      (sym (run-listed st u.table 0 refl start.totals u.marks (start_place 0 refl) (start-sound 0 refl) most_steps (omega arith) (λ i h. zero_free 0 u.marks i (accepted_clear i h)))))
