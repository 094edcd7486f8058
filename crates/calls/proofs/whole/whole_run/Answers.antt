-- `whole_run`: a refused setup ends it; else what it left is run. Assumes nothing.
use Rattle.std.specs.Prelude.{Ok}
use lib.ListN.{length}
use native.Mathlib.Omega.{arith}
use Rattle.words.specs.Laws.{Bytes}
use Rattle.calls.proofs.SetUps.{passed_on}
use Rattle.calls.specs.Room.{SetUpLeft}
use Rattle.calls.specs.Whole.{run_refused, done-sound, run-left, run-few}
use Rattle.calls.specs.declared.output.Output.TheVariants.{Records}
use Rattle.calls.proofs.whole.whole_run.Goals as goal
use Rattle.calls.proofs.whole.whole_run.Goals.{In_ok-st}

-- what an accepted setup left
set-up : (c : In_ok-st) → (let a = c.args in
    SetUpLeft a.sheet.now a.table.now a.marks.now (Records (length a.output.now)) (Ok c.in_ok-st.st) c.setup_for.new.table c.setup_for.new.marks)
set-up c = let e = c.in_ok-st.ensures in record { said = e.says; table_is = e.written; marks_is = e.cleared }

bytes : (c : In_ok-st) → Bytes c.args.sheet.now
bytes c i = omega (arith, c.type_inv.sheet i)

pub returns-in_err-st : goal.returns-in_err-st
returns-in_err-st c =
    let e = c.in_err-st.ensures in
    let l = run_refused _ _ _ _ (record { said = e.says; table_is = e.written; marks_is = e.cleared }) in
    rw (passed_on c.from_residual.result c.from_residual.ensures.1) record { says = l.0; written = l.1.0; marked = l.1.1.0; listed = l.1.1.1; few = _ }

pub list_all-requires : goal.list_all-requires
list_all-requires c = let p = (goal.at.list_all-requires c).In_ok-st in done-sound _ _ _ _ (set-up p) (bytes p)

pub returns : goal.returns
returns c =
    let p = (goal.at.returns c).In_ok-st in
    let l = run-left _ _ _ _ (set-up p) (bytes p) c.list_all.ensures in
    record { says = l.0; written = l.1.0; marked = l.1.1.0; listed = l.1.1.1; few = run-few _ _ _ _ (set-up p) (bytes p) c.list_all.ensures }
