-- `marks_needed`: of a sound state the survey's number; else none. Assumes nothing.
use Rattle.std.specs.Prelude.{◌≡◌, List, ℕ, true, false, Some, None}
use Rattle.std.proofs.Common.{sym, ◌∙◌}
use Rattle.std.proofs.lemmas.Option.{cond_some}
use borrow.Author.Tests.{le-leb, lt-leb}
use Rattle.packets.specs.Tile.{needed}
use Rattle.packets.specs.Sound.{sheet_sound, state_sound, followed_sound}
use Rattle.types.specs.declared.state.State.{State}
use Rattle.survey.proofs.Components.{cond_none}
use Rattle.soundness.specs.Needs.{judged_of, needs_of}
use Rattle.soundness.proofs.marks_needed.Goals as goal
use Rattle.soundness.proofs.marks_needed.Goals.{else-needed-marks-via-then-needed-marks+else-total-needed, else-needed-marks-via-else-needed-marks}

bad_told : (st : State) (table : List ℕ) → None ≡ judged_of st table → sheet_sound st table ≡ false
unfolding judged_of
bad_told st table h = cond_none (sheet_sound st table) _ h

good_told : (st : State) (table : List ℕ) {n : ℕ} → Some n ≡ judged_of st table → (sheet_sound st table ≡ true) × (needed st ≡ n)
unfolding judged_of
good_told st table h = cond_some (sheet_sound st table) _ _ (sym h)

pub returns-in_err-needed : goal.returns-in_err-needed
unfolding needs_of state_sound followed_sound
returns-in_err-needed c = c.from_residual.ensures ∙ rw (bad_told _ _ c.in_err-needed.ensures)

pub returns-then-total-needed : goal.returns-then-total-needed
unfolding needs_of state_sound followed_sound
returns-then-total-needed c =
    let t = good_told _ _ c.in_ok-needed.ensures in
    rw (t.0, t.1, le-leb _ _ c.if-needed-marks.true, ← c.total.ensures, le-leb _ _ c.if-total-needed.true)

pub returns : goal.returns
unfolding needs_of state_sound followed_sound
returns c =
    let t = good_told _ _ c.in_ok-needed.ensures in
    elim c.else-needed-marks.branch [
      | else-needed-marks-via-then-needed-marks+else-total-needed w ↦
          rw (t.0, t.1, le-leb _ _ w.if-needed-marks.true, ← w.total.ensures, lt-leb _ _ w.if-total-needed.false)
      | else-needed-marks-via-else-needed-marks w ↦ rw (t.0, t.1, lt-leb _ _ w.if-needed-marks.false)
    ]
