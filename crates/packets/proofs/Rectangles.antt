-- THE RECTANGLES of precincts (02, P2), as the call answers them for every sound state and table: those of a resolution are its area exactly, and the point at which
-- a walk by points meets a precinct is where its rectangle starts. Assumes nothing.
use Rattle.std.proofs.Math.Path.{◌≡◌, ap}
use Rattle.std.proofs.Common.{sym, subst, mul_comm, div-add-mod', mod-lt, div-lt_iff_lt-mul}
use Rattle.std.specs.Prelude.{true, ◌&&◌}
use mathlib.Core.List.{List, Memᴰ as In}
use Rattle.std.proofs.Math.Option.{some, none}
use Prim.Native.Nat.{ℕ, ◌+◌, ◌-◌, ◌*◌, ◌/◌, ◌%◌, ◌^◌, ◌≤◌, ◌<◌}
use native.Mathlib.Omega.{arith}
use Rattle.std.proofs.Math.Arith.{digits_lt, digits_div, digits_mod}
use Rattle.std.proofs.Math.Dec.{ltb}
use Rattle.std.proofs.Math.IntN.{pos}
use borrow.Author.Tests.{lt-ltb, ltb-true}
use Rattle.laws.specs.Cases.{split, and_true}
use Rattle.geometry.specs.Line.{low, high, count, first, column_of}
use Rattle.geometry.specs.Cells.{cell_some, sample_in, in_sample}
use Rattle.geometry.proofs.Cells.{hit-cell}
use Rattle.geometry.proofs.Hits.{factors}
use Rattle.geometry.specs.declared.tile.Area.{Area}
use Rattle.types.specs.Answers.{RectangleSaid}
use Rattle.types.specs.Orders.{by_points, order_of, range_of}
use Rattle.packets.specs.Tile.{Sheet, res_of, line_x, line_y, width, height, precincts, rectangle}
use Rattle.packets.specs.Grid.{change_of}
use Rattle.packets.specs.Table.{sheet_at}
use Rattle.packets.specs.Positions.{number_at}
use Rattle.packets.specs.Sound.{sheet_sound, positions_for}
use Rattle.packets.specs.Calls.{refusal, rectangle_of, step_of}
use Rattle.packets.specs.Good.{Good}
use Rattle.packets.specs.Met.{MetAt}
use Rattle.packets.proofs.MetOnce.{precincts-of, precincts_in, cell}
use Rattle.packets.specs.Inside.{in_met}
use Rattle.packets.proofs.Inside.{inside}
use Rattle.packets.specs.Meaning.{sheet-means, fit-good}
use Rattle.packets.proofs.Steps.{step-listed}
use Rattle.types.specs.declared.state.State.{State}
use Rattle.types.specs.Totals.{following}
use Rattle.types.specs.declared.cursor.Position.{Position}
use Rattle.types.specs.declared.cursor.Cursor.{Cursor}
use Rattle.packets.specs.Rectangles.{Sample, Holds, Answers, Exact, Corner}

-- what a rectangle that is answered says
record Asked (st : State) (table : List ℕ) (c r k : ℕ) (a : Area) : Type 0 where
  component : c < st.components
  precinct : k < precincts (sheet_at st table) c r
  area : a ≡ rectangle (sheet_at st table) c r k

-- column and row of a precinct are among the resolution's
pub column_row : (s : Sheet) (c r k : ℕ) → k < precincts s c r → (k % width s c r < width s c r) × (k / width s c r < height s c r)
column_row s c r k n =
    let e : precincts s c r ≡ width s c r * height s c r = precincts-of s c r (precincts_in s c r (omega arith)) in
    let f = factors (width s c r) (height s c r) (omega arith) in
    (mod-lt k f.0, (div-lt_iff_lt-mul f.0).1 (omega (arith, mul_comm (width s c r) (height s c r))))

module _ (st : State) (table : List ℕ) (sound : sheet_sound st table ≡ true) where
  abbrev s : Sheet
  s = sheet_at st table

  asked : (c r k : ℕ) (a : Area) → Answers st table c r k a → Asked st table c r k a
  unfolding rectangle_of
  asked c r k a e =
      split (ltb c st.components && ltb k (precincts s c r))
      (λ t.
      let f = and_true (ltb c st.components) (ltb k (precincts s c r)) t in
      let g : ◌≡◌ {A = RectangleSaid} (record { number = pos 0; area = some (rectangle s c r k) }) (record { number = pos 0; area = some a }) = rw (sound, t) at e in
      let o : some (rectangle s c r k) ≡ some a = ap (λ (z : RectangleSaid). z.area) g in
      record { component = ltb-true _ _ f.0; precinct = ltb-true _ _ f.1; area = cc })
      (λ t.
      let g : ◌≡◌ {A = RectangleSaid} (record { number = refusal 14; area = none }) (record { number = pos 0; area = some a }) = rw (sound, t) at e in
      let n : refusal 14 ≡ pos 0 = ap (λ (z : RectangleSaid). z.number) g in
      let z : ◌≡◌ {A = ℕ} 0 1 = cc in
      absurd (let no : ⊥ = omega arith in no))

  -- a precinct that there is has its rectangle
  pub answered : (c r k : ℕ) → c < st.components → k < precincts s c r → Answers st table c r k (rectangle s c r k)
  unfolding rectangle_of
  answered c r k h n = rw (sound, lt-ltb _ _ h, lt-ltb _ _ n)

  module _ (c r : ℕ) where
    abbrev w : ℕ
    w = width s c r

    -- the precinct of a column and a row
    number_of : (i j : ℕ) → r < res_of st c → i < w → j < height s c r → (j * w + i < precincts s c r) × ((j * w + i) % w ≡ i) × ((j * w + i) / w ≡ j)
    number_of i j h a b = (rw (precincts-of s c r h, mul_comm w (height s c r)) (digits_lt b a), digits_mod j a, digits_div j a)

    -- a sample in the rectangle of a precinct is one of the resolution, in the cell of its column and row
    cell-of : (k x y : ℕ) → Holds (rectangle s c r k) x y
        → ((low (line_x s c r) ≤ x) × (x < high (line_x s c r)) × (x / 2 ^ s.pdx c r ≡ first (line_x s c r) + k % w))
        × ((low (line_y s c r) ≤ y) × (y < high (line_y s c r)) × (y / 2 ^ s.pdy c r ≡ first (line_y s c r) + k / w))
    unfolding rectangle
    cell-of k x y h = (
      in_sample (low (line_x s c r)) (high (line_x s c r)) (s.pdx c r) (k % w) x h.left h.right,
      in_sample (low (line_y s c r)) (high (line_y s c r)) (s.pdy c r) (k / w) y h.top h.bottom,
    )

    covered : (x y : ℕ) → Sample s c r x y → (k : ℕ) × (a : Area) × Answers st table c r k a × Holds a x y
    unfolding rectangle count
    covered x y h =
        let u = sample_in (low (line_x s c r)) (high (line_x s c r)) (s.pdx c r) x h.left h.right in
        let v = sample_in (low (line_y s c r)) (high (line_y s c r)) (s.pdy c r) y h.top h.bottom in
        let i : ℕ = x / 2 ^ s.pdx c r - first (line_x s c r) in
        let j : ℕ = y / 2 ^ s.pdy c r - first (line_y s c r) in
        let n = number_of i j h.resolution u.0 v.0 in (
          j * w + i,
          rectangle s c r (j * w + i),
          answered c r (j * w + i) h.component n.0,
          rw (n.1, n.2) (record { left = u.1; right = u.2; top = v.1; bottom = v.2 }),
        )

    alone : (j k x y : ℕ) → Holds (rectangle s c r j) x y → Holds (rectangle s c r k) x y → j ≡ k
    alone j k x y h l =
        let a = cell-of j x y h in
        let b = cell-of k x y l in
        let col : j % w ≡ k % w = omega (arith, a.0.2, b.0.2) in
        let row : j / w ≡ k / w = omega (arith, a.1.2, b.1.2) in
        let over : j / w * w ≡ k / w * w = ap (λ (n : ℕ). n * w) row in
        omega (arith, div-add-mod' j w, div-add-mod' k w, col, over)

    corner_in : (k : ℕ) → k < precincts s c r → Holds (rectangle s c r k) (rectangle s c r k).x0 (rectangle s c r k).y0
    unfolding rectangle count
    corner_in k n =
        let p = column_row s c r k n in
        record {
          left = omega arith;
          right = cell_some (low (line_x s c r)) (high (line_x s c r)) (s.pdx c r) (k % w) p.0;
          top = omega arith;
          bottom = cell_some (low (line_y s c r)) (high (line_y s c r)) (s.pdy c r) (k / w) p.1;
        }

  -- THE RECTANGLES OF A RESOLUTION ARE ITS AREA
  pub rectangles_exact : (c r : ℕ) → Exact st table c r
  rectangles_exact c r =
      record {
        covered = covered c r;
        alone = λ j k a b x y e f h l.
            alone c r j k x y (subst (λ (a : Area). Holds a x y) (asked c r j a e).area h) (subst (λ (b : Area). Holds b x y) (asked c r k b f).area l);
        inside = λ k a x y e h.
            let q = asked c r k a e in
            let t = cell-of c r k x y (subst (λ (a : Area). Holds a x y) q.area h) in
            record {
              component = q.component;
              resolution = precincts_in s c r (omega (arith, q.precinct));
              left = t.0.0;
              right = t.0.1;
              top = t.1.0;
              bottom = t.1.1;
            };
        some_sample = λ k a e.
            let q = asked c r k a e in
            subst (λ (a : Area). Holds a a.x0 a.y0) (sym q.area) (corner_in c r k q.precinct);
      }

  -- THE POINT OF A PACKET, in a progression by points, is that corner
  pub rectangle-corner : (k : ℕ) → by_points (order_of (change_of st k).prg) ≡ true → (p : Position) → In p (positions_for st table k) → Corner st table p
  unfolding rectangle number_at
  rectangle-corner k b p i =
      let good : Good s = fit-good st table ((sheet-means st table).0 sound) in
      let q = change_of st k in
      let there = inside s (range_of st q) good (order_of q.prg) p i in
      let m : MetAt s p = in_met s (range_of st q) (order_of q.prg) b p i in
      let c : ℕ = p.compno in
      let r : ℕ = p.resno in
      let t = cell s good p there.component m in
      let n : p.precno ≡ column_of (line_y s c r) p.y * width s c r + column_of (line_x s c r) p.x = omega (arith, m.number) in (
        rectangle s c r p.precno,
        answered c r p.precno there.component there.precinct,
        rw (n, digits_mod (column_of (line_y s c r) p.y) t.column, hit-cell (line_x s c r) (good.step_x_lem c there.component) p.x m.left t.hit_x),
        rw (n, digits_div (column_of (line_y s c r) p.y) t.column, hit-cell (line_y s c r) (good.step_y_lem c there.component) p.y m.top t.hit_y),
      )

  -- and so is the point of every packet that a step answers, whatever the totals
  pub step-corner : (totals marks : List ℕ) (c : Cursor) → by_points (order_of (change_of st c.progression).prg) ≡ true → (p : Position)
      → (step_of (following st totals) table marks c).said.packet ≡ some p → Corner st table p
  step-corner totals marks c b p e = rectangle-corner c.progression b p (step-listed (following st totals) table marks c p e)
