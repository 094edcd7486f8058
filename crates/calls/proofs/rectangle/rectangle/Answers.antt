-- `rectangle`: what the table has not got is refused; the columns and rows of a precinct that it has are the resolution's. Assumes nothing.
use mathlib.Core.Path.{◌≡◌, sym, ◌∙◌}
use mathlib.Core.Bool.{true}
use Prim.Native.Nat.{◌<◌, zero-le}
use native.Mathlib.Omega.{arith}
use borrow.Author.Tests.{lt-ltb, le-ltb}
use Rattle.packets.specs.Tile.{precincts}
use Rattle.packets.specs.Table.{sheet_at}
use Rattle.packets.specs.Sound.{sheet_sound}
use Rattle.packets.specs.Meaning.{sheet-means}
use Rattle.packets.specs.Calls.{rectangle_of}
use Rattle.soundness.specs.Reached.{Reached}
use Rattle.soundness.proofs.Resolution.{counts, count_is}
use Rattle.calls.proofs.Located.{area_is}
use Rattle.calls.proofs.rectangle.rectangle.Goals as goal
use Rattle.calls.proofs.rectangle.rectangle.Goals.{Else-not-sheet_sound, Then-resno-st}

-- the state is sound
sound : (c : Else-not-sheet_sound) → sheet_sound c.args.st c.args.table.now ≡ true
sound c = sym c.sheet_sound.ensures ∙ c.if-not-sheet_sound.false

-- and has the resolution
reached : (c : Then-resno-st) → Reached c.args.st c.args.table.now c.args.compno c.args.resno
reached c = record { fit = (sheet-means _ _).0 (sym c.sheet_sound.ensures ∙ c.if-not-sheet_sound.false); component = c.if-compno-st.true; resolution = c.if-resno-st.true }

pub returns-then-not-sheet_sound : goal.returns-then-not-sheet_sound
unfolding rectangle_of
returns-then-not-sheet_sound c = rw (sym c.sheet_sound.ensures ∙ c.if-not-sheet_sound.true)

pub bounds-st-compno : goal.bounds-st-compno
bounds-st-compno c = omega (arith, c.if-compno-st.true, ((sheet-means _ _).0 (sound (goal.at.bounds-st-compno c).Else-not-sheet_sound)).sound.tile.components.1)

pub of-sides-requires : goal.of-sides-requires
of-sides-requires c = reached c

pub overflow_mul-sides : goal.overflow_mul-sides
overflow_mul-sides c = let a = c.args in rw c.of-sides.ensures (omega (arith, (counts a.st a.table.now a.compno a.resno (reached (goal.at.overflow_mul-sides c).Then-resno-st)).few))

pub returns-then-precno-sides : goal.returns-then-precno-sides
unfolding rectangle_of
returns-then-precno-sides c =
    let a = c.args in
    let s = sheet_at a.st a.table.now in
    let k : a.precno < precincts s a.compno a.resno = rw (c.of-sides.ensures, count_is a.st a.table.now a.compno a.resno (reached (goal.at.returns-then-precno-sides c).Then-resno-st)) at c.if-precno-sides.true in
    rw (sound (goal.at.returns-then-precno-sides c).Else-not-sheet_sound, lt-ltb _ _ c.if-compno-st.true, lt-ltb _ _ k, c.area.ensures, c.of-sides.ensures, area_is a.st a.table.now a.compno a.resno a.precno k)

pub returns-else-precno-sides : goal.returns-else-precno-sides
unfolding rectangle_of
returns-else-precno-sides c =
    let a = c.args in
    let k = rw c.of-sides.ensures at c.if-precno-sides.false in
    rw (sound (goal.at.returns-else-precno-sides c).Else-not-sheet_sound, lt-ltb _ _ c.if-compno-st.true, lt-ltb _ _ c.if-resno-st.true, le-ltb _ _ k)

pub returns-else-resno-st : goal.returns-else-resno-st
unfolding rectangle_of
returns-else-resno-st c = let a = c.args in rw (sound (goal.at.returns-else-resno-st c).Else-not-sheet_sound, lt-ltb _ _ c.if-compno-st.true, le-ltb _ _ c.if-resno-st.false, le-ltb a.precno 0 zero-le)

pub returns-else-compno-st : goal.returns-else-compno-st
unfolding rectangle_of
returns-else-compno-st c = rw (sound (goal.at.returns-else-compno-st c).Else-not-sheet_sound, le-ltb _ _ c.if-compno-st.false)
