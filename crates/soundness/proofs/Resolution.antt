-- The entry of one resolution of a sound state: its numbers are those of the resolution, and few, so that the number of a precinct which is met is small.
-- Assumes nothing.
use mathlib.Core.Path.{◌≡◌, refl, sym}
use mathlib.Core.List.{List}
use mathlib.Core.Bool.{true}
use Prim.Native.Nat.{ℕ, ◌+◌, ◌*◌, ◌<◌}
use native.Mathlib.Nat.{mul_comm}
use native.Mathlib.Omega.{arith}
use lib.Arith.{digits_lt}
use lib.Dec.{ltb, leb}
use borrow.Author.Tests.{leb-true, ltb-true}
use Rattle.laws.specs.Cases.{and_true}
use Rattle.geometry.specs.Line.{Line, count, hit_at, column_of, meets_at}
use Rattle.geometry.specs.Hits.{Ordered}
use Rattle.geometry.proofs.Hits.{proper, factors, col_below}
use Rattle.packets.specs.Tile.{Sheet, line_x, line_y, width, height, precincts, entries_before}
use Rattle.types.specs.Entries.{entry_at}
use Rattle.packets.specs.Table.{entry_of, sheet_at}
use Rattle.packets.specs.Meaning.{Sound, fit-good}
use Rattle.packets.proofs.Entered.{entry-small, entry_is, few-precincts}
use Rattle.packets.proofs.MetOnce.{precincts-of, ordered_x, ordered_y}
use Rattle.types.specs.declared.state.State.{State}
use Rattle.types.specs.declared.table.Entry.{Entry}
use Rattle.types.specs.declared.cursor.Position.{Position}
use Rattle.soundness.specs.Points.{Counts}
use Rattle.soundness.specs.Reached.{Reached}

module _ (st : State) (table : List ℕ) (c r : ℕ) (h : Reached st table c r) where
  abbrev s : Sheet
  s = sheet_at st table

  abbrev sound : Sound st table h.fit.marks
  sound = h.fit.sound

  pub few_before : c < 16
  few_before = omega (arith, sound.tile.components, h.component)

  -- its entry is one of 528
  pub small : entries_before st c + r < 528
  small = entry-small st table h.fit.marks sound c r h.component h.resolution

  pub entry : entry_at table (entries_before st c + r) ≡ entry_of s c r
  entry = entry_is st table h.fit.marks sound c r h.component h.resolution

  pub count_is : width s c r * height s c r ≡ precincts s c r
  count_is = sym (precincts-of s c r h.resolution)

  pub counts : Counts (line_x s c r) (line_y s c r) (entry_of s c r)
  counts =
      record {
        wide = refl;
        high = refl;
        upward_x = ordered_x s (fit-good st table h.fit) c r h.component;
        upward_y = ordered_y s (fit-good st table h.fit) c r h.component;
        few = rw count_is (few-precincts st table h.fit.marks sound c r h.component);
      }

-- a precinct that is met along an axis is one of those counted
column_below : (l : Line) → Ordered l → 0 < count l → (z : ℕ) → meets_at l z ≡ true → column_of l z < count l
column_below l o some z h =
    let a = and_true (leb l.t0 z) _ h in
    let b = and_true (ltb z l.t1) (hit_at l z) a.1 in
    col_below l (proper l o some) z (leb-true _ _ a.0) (ltb-true _ _ b.0) b.1

-- so its number is below theirs
pub number-below : {x y : Line} {e : Entry} → Counts x y e → 0 < e.width * e.height → (p : Position) → meets_at y p.y ≡ true → meets_at x p.x ≡ true
    → column_of x p.x + column_of y p.y * e.width < e.width * e.height
number-below {x} {y} {e} k some p down across =
    let f = factors e.width e.height some in
    let column : column_of x p.x < e.width = rw k.wide (column_below x k.upward_x (rw k.wide at f.0) p.x across) in
    let row : column_of y p.y < e.height = rw k.high (column_below y k.upward_y (rw k.high at f.1) p.y down) in
    omega (arith, digits_lt row column, mul_comm e.width e.height)
