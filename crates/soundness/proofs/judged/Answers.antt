-- `judged`: the fields, the room in the table, and what a survey of it finds. Assumes nothing.
use Rattle.std.specs.Prelude.{◌≡◌, ◌*◌, ◌≤◌, true, length}
use Rattle.std.proofs.Common.{sym, ◌∙◌, arith}
use Rattle.laws.specs.Below.{sum_below}
use Rattle.packets.specs.Tile.{res_of}
use Rattle.soundness.proofs.SoundBy.{fields_test, entries_are, fields_fail, table_short, judged_none, judged_grid, judged_other, judged-same}
use Rattle.soundness.proofs.judged.Goals as goal
use Rattle.soundness.proofs.judged.Goals.{After-entries, Then-entries-table, else-found-via-then-found+else-eq, else-found-via-else-found}

-- the fields are good, so that the table's entries are counted
entries : (c : After-entries) → (c.entries.result ≡ sum_below (res_of c.args.st) c.args.st.components) × (c.entries.result ≤ 528)
entries c = entries_are c.args.st (sym c.fields_sound.ensures ∙ c.if-not-fields_sound.false) c.entries.result c.entries.ensures

-- and the table has room for them
module _ (c : Then-entries-table) where
  fields : fields_test c.args.st ≡ true
  fields = sym c.fields_sound.ensures ∙ c.if-not-fields_sound.false

  room : 16 * sum_below (res_of c.args.st) c.args.st.components ≤ length c.args.table.now
  room = rw (← (entries_are c.args.st fields c.entries.result c.entries.ensures).0) c.if-entries-table.true

pub returns-then-not-fields_sound : goal.returns-then-not-fields_sound
returns-then-not-fields_sound c = fields_fail c.args.st c.args.table.now (sym c.fields_sound.ensures ∙ c.if-not-fields_sound.true)

pub overflow_mul-entries : goal.overflow_mul-entries
overflow_mul-entries c = omega (arith, (entries c).1)

pub returns-in_err-found : goal.returns-in_err-found
returns-in_err-found c =
    let t = (goal.at.returns-in_err-found c).Then-entries-table in
    c.from_residual.ensures ∙ judged_none c.args.st c.args.table.now (fields t) (room t) c.in_err-found.ensures.found

pub returns-then-eq : goal.returns-then-eq
returns-then-eq c =
    let t = (goal.at.returns-then-eq c).Then-entries-table in
    judged-same c.args.st c.args.table.now (fields t) (room t) c.in_ok-found.ensures.found c.if-found.true (sym c.eq.ensures ∙ c.if-eq.true)

pub returns-else-found : goal.returns-else-found
returns-else-found c =
    let t = (goal.at.returns-else-found c).Then-entries-table in
    elim c.else-found.branch [
      | else-found-via-then-found+else-eq w ↦ judged_other c.args.st c.args.table.now (fields t) (room t) c.in_ok-found.ensures.found (sym w.eq.ensures ∙ w.if-eq.false)
      | else-found-via-else-found w ↦ judged_grid c.args.st c.args.table.now (fields t) (room t) c.in_ok-found.ensures.found w.if-found.false
    ]

pub returns-else-entries-table : goal.returns-else-entries-table
returns-else-entries-table c =
    table_short c.args.st c.args.table.now (rw (← (entries (goal.at.returns-else-entries-table c).After-entries).0) c.if-entries-table.false)
