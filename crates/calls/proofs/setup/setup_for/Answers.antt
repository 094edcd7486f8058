-- `setup`: the refusals in their order, each with everything as it was; and else the table written and the marks cleared. Assumes nothing.
use Rattle.std.specs.Prelude.{◌≡◌, ◌≤◌, length}
use Rattle.std.proofs.Common.{arith, sym, ◌∙◌}
use Rattle.std.proofs.lemmas.Option.{none-some}
use Rattle.laws.specs.Below.{sum_below}
use Rattle.packets.specs.Tile.{res_of}
use Rattle.soundness.proofs.SoundBy.{entries_are}
use Rattle.calls.proofs.SetUps.{passed_on, Seen, read-fine, read_fields, some_findings, refused_reading, fields_good, refused_grid, refused_many, refused_marks, refused_table, refused_room, accepted-left}
use Rattle.calls.proofs.Kept.{kept-length, kept-table}
use Rattle.calls.proofs.setup.setup_for.Goals as goal
use Rattle.calls.proofs.setup.setup_for.Goals.{After-entries-count, Then-found}

-- what is known once the sheet is read and surveyed
seen : (c : Then-found) → Seen c.args.sheet.now c.in_ok-st.st c.in-Some.found
seen c = record { read = read-fine _ c.in_ok-st.ensures; fields = read_fields _ c.in_ok-st.ensures; said = c.in-Some.ensures.found }

-- the table's entries are counted
counted : (c : After-entries-count) → Seen c.args.sheet.now c.in_ok-st.st c.in-Some.found
    → (c.entries-count.result ≡ sum_below (res_of c.in_ok-st.st) c.in_ok-st.st.components) × (c.entries-count.result ≤ 528)
counted c s = entries_are c.in_ok-st.st (fields_good s c.args.table.now c.args.marks.now c.args.output) c.entries-count.result c.entries-count.ensures

pub returns-in_err-st : goal.returns-in_err-st
returns-in_err-st c =
    let l = refused_reading _ c.args.table.now c.args.marks.now c.args.output _ c.in_err-st.ensures in
    rw (passed_on c.from_residual.result c.from_residual.ensures.1) record { says = l.0; written = l.1.0; cleared = l.1.1 }

pub returns-in_default : goal.returns-in_default
returns-in_default c =
    let a = c.args in
    let s : Seen a.sheet.now c.in_ok-st.st c.in-Some.found = record { read = read-fine _ c.in_ok-st.ensures; fields = read_fields _ c.in_ok-st.ensures; said = c.in-Some.ensures.found } in
    let l = refused_grid s a.table.now a.marks.now a.output c.if-found.false in
    record { says = l.0; written = l.1.0; cleared = l.1.1 }

-- the survey of a sheet that is read finds something
pub returns-in_default-2 : goal.returns-in_default-2
returns-in_default-2 c =
    absurd (none-some _ (c.in_default.ensures.found ∙ some_findings c.args.sheet.now c.in_ok-st.st (read-fine _ c.in_ok-st.ensures) (read_fields _ c.in_ok-st.ensures)))

pub returns-in_default-needed : goal.returns-in_default-needed
returns-in_default-needed c =
    let a = c.args in
    let l = refused_many (seen (goal.at.returns-in_default-needed c).Then-found) a.table.now a.marks.now a.output c.if-found.true c.in_default-needed.is in
    record { says = l.0; written = l.1.0; cleared = l.1.1 }

pub returns-then-marks-needed : goal.returns-then-marks-needed
returns-then-marks-needed c =
    let a = c.args in
    let l = refused_marks (seen (goal.at.returns-then-marks-needed c).Then-found) a.table.now a.marks.now a.output c.if-found.true c.in-Some-needed.is c.if-marks-needed.true in
    record { says = l.0; written = l.1.0; cleared = l.1.1 }

pub overflow_mul-count : goal.overflow_mul-count
overflow_mul-count c = omega (arith, (counted c (seen (goal.at.overflow_mul-count c).Then-found)).1)

pub returns-then-table-count : goal.returns-then-table-count
returns-then-table-count c =
    let a = c.args in
    let s = seen (goal.at.returns-then-table-count c).Then-found in
    let n = (counted (goal.at.returns-then-table-count c).After-entries-count s).0 in
    let l = refused_table s a.table.now a.marks.now a.output c.if-found.true c.in-Some-needed.is c.if-marks-needed.false (rw (← n) c.if-table-count.true) in
    record { says = l.0; written = l.1.0; cleared = l.1.1 }

pub returns-then-not-has_room : goal.returns-then-not-has_room
returns-then-not-has_room c =
    let a = c.args in
    let s = seen (goal.at.returns-then-not-has_room c).Then-found in
    let n = (counted (goal.at.returns-then-not-has_room c).After-entries-count s).0 in
    let l = refused_room s a.table.now a.marks.now a.output c.if-found.true c.in-Some-needed.is c.if-marks-needed.false (rw (← n) c.if-table-count.false)
    (sym c.has_room.ensures ∙ c.if-not-has_room.true) in
    record { says = l.0; written = l.1.0; cleared = l.1.1 }

pub write-requires : goal.write-requires
write-requires c =
    let few = (counted (goal.at.write-requires c).After-entries-count (seen (goal.at.write-requires c).Then-found)).1 in
    let same : length c.survey.new.kept ≡ 2112 = omega (arith, c.survey.auto.kept, kept-length) in
    (omega (arith, few, same), omega (arith, c.if-table-count.false), few)

pub returns : goal.returns
returns c =
    let a = c.args in
    let s = seen (goal.at.returns c).Then-found in
    let n = (counted (goal.at.returns c).After-entries-count s).0 in
    let l = accepted-left s a.table.now a.marks.now a.output c.if-found.true c.in-Some-needed.is c.if-marks-needed.false (omega (arith, n, c.if-table-count.false))
    (sym c.has_room.ensures ∙ c.if-not-has_room.false) in
    record { says = l.0; written = c.write.ensures ∙ kept-table s c.survey.ensures.keeps n _ ∙ l.1.0; cleared = c.clear.ensures ∙ l.1.1 }
