-- The point at which a precinct is met (orders 2 to 4): its column and row are among the resolution's, and every precinct is met at one point of the tile. Assumes nothing.
use Rattle.std.specs.Prelude.{◌≡◌, true, ltb}
use Rattle.std.proofs.Common.{sym, subst, div-add-mod', mod-lt, div-lt_iff_lt-mul, arith}
use mathlib.Core.List.Memᴰ.{of_map as in_of_map}
use mathlib.Core.List.{map, Memᴰ as In}
use Prim.Native.Nat.{ℕ, ◌+◌, ◌-◌, ◌*◌, ◌/◌, ◌%◌, ◌≤◌, ◌<◌}
use Rattle.std.proofs.Math.Nat.{mul_comm}
use Rattle.std.proofs.Math.Arith.{digits_lt}
use borrow.Author.Tests.{lt-ltb, ltb-true}
use Rattle.laws.specs.Cases.{and_true, split}
use Rattle.laws.specs.Axis.{span, up, up_grows}
use Rattle.laws.specs.Axes.{axis-bounds}
use Rattle.laws.specs.Members.{in_span}
use Rattle.laws.specs.Mapped.{keep_from}
use Rattle.laws.specs.Digits.{same-high, same-low}
use Rattle.geometry.specs.Line.{Line, count, hit_at, column_of, hits}
use Rattle.geometry.specs.Hits.{Proper, Ordered}
use Rattle.geometry.proofs.Hits.{proper, factors, col_below, hit_unique, hits-columns}
use Rattle.packets.specs.Tile.{Sheet, line_x, line_y, res_of, width, height, precincts}
use Rattle.packets.specs.Positions.{met, number_at}
use Rattle.packets.specs.Good.{Good}
use Rattle.types.specs.declared.cursor.Position.{Position}
use Rattle.packets.specs.Met.{MetAt, Cell, Point}

module _ (s : Sheet) (c r : ℕ) where
  -- a resolution that the component has
  pub precincts-of : r < res_of s.st c → precincts s c r ≡ width s c r * height s c r
  precincts-of h = rw (lt-ltb r (res_of s.st c) h)

  -- a resolution with precincts is one that the component has
  pub precincts_in : 0 < precincts s c r → r < res_of s.st c
  precincts_in h = split (ltb r (res_of s.st c)) (ltb-true r _) (λ e. let z : 0 < 0 = rw e at h in omega arith)

-- the position of another layer at another point
abbrev moved : Position → ℕ → ℕ → ℕ → Position
moved p l x y = record { layno = l; resno = p.resno; compno = p.compno; precno = p.precno; x = x; y = y }

module _ (s : Sheet) (good : Good s) where
  -- the axes of a component's resolution go upward, by steps above 0
  pub ordered_x : (c r : ℕ) → c < s.st.components → Ordered (line_x s c r)
  ordered_x c r h = record { positive = good.step_x_lem c h; upward = good.upward_x }

  pub ordered_y : (c r : ℕ) → c < s.st.components → Ordered (line_y s c r)
  ordered_y c r h = record { positive = good.step_y_lem c h; upward = good.upward_y }

  -- a precinct that is met has its column and row among the resolution's
  pub cell : (p : Position) → p.compno < s.st.components → MetAt s p → Cell s p
  unfolding met
  cell p h m =
      let c : ℕ = p.compno in
      let r : ℕ = p.resno in
      let a = and_true _ _ m.meets in
      let b = and_true _ _ a.1 in
      let n : 0 < precincts s c r = ltb-true 0 _ a.0 in
      let k : r < res_of s.st c = precincts_in s c r n in
      let f = factors (width s c r) (height s c r) (rw (precincts-of s c r k) at n) in
      record {
        resolution = k;
        hit_x = b.1;
        hit_y = b.0;
        column = col_below (line_x s c r) (proper (line_x s c r) (ordered_x c r h) f.0) p.x m.left m.right b.1;
        row = col_below (line_y s c r) (proper (line_y s c r) (ordered_y c r h) f.1) p.y m.top m.bottom b.0;
      }

  -- the number of a precinct that is met is below the number of precincts
  pub met-small : (p : Position) → p.compno < s.st.components → MetAt s p → p.precno < precincts s p.compno p.resno
  unfolding number_at
  met-small p h m =
      let k = cell p h m in
      rw (m.number, precincts-of s p.compno p.resno k.resolution, mul_comm (width s p.compno p.resno) (height s p.compno p.resno))
      (omega (arith, digits_lt k.row k.column))

  -- column and row can be read off the number, and each is met at one point
  at_once : (p : Position) (l x y : ℕ) → p.compno < s.st.components → MetAt s p → MetAt s (moved p l x y) → (p.x ≡ x) × (p.y ≡ y)
  unfolding number_at
  at_once p l x y h m n =
      let a = cell p h m in
      let b = cell (moved p l x y) h n in
      let w : ℕ = width s p.compno p.resno in
      let col : ℕ → ℕ = column_of (line_x s p.compno p.resno) in
      let row : ℕ → ℕ = column_of (line_y s p.compno p.resno) in
      let e : row p.y * w + col p.x ≡ row y * w + col x = omega (arith, m.number, n.number) in (
        hit_unique (line_x s p.compno p.resno) (good.step_x_lem p.compno h) p.x x m.left n.left a.hit_x b.hit_x (same-low (row p.y) (row y) a.column b.column e),
        hit_unique (line_y s p.compno p.resno) (good.step_y_lem p.compno h) p.y y m.top n.top a.hit_y b.hit_y (same-high (row p.y) (row y) a.column b.column e),
      )

  -- so the point is determined by component, resolution and precinct
  pub met_once : (p q : Position) → p.compno < s.st.components → MetAt s p → MetAt s q → p.compno ≡ q.compno → p.resno ≡ q.resno → p.precno ≡ q.precno
      → (p.x ≡ q.x) × (p.y ≡ q.y)
  met_once p q h m n c r k =
      let e : q ≡ moved p q.layno q.x q.y
      = λ i. record { layno = q.layno; resno = sym r i; compno = sym c i; precno = sym k i; x = q.x; y = q.y } in
      at_once p q.layno q.x q.y h m (subst (MetAt s) e n)

-- THE POINT OF A COLUMN: every column of an axis with samples is met
record Hit (l : Line) (k : ℕ) : Type 0 where
  point : ℕ
  start : l.t0 ≤ point
  end : point < l.t1
  hits? : hit_at l point ≡ true
  column : column_of l point ≡ k

hit-of : (l : Line) → Proper l → (k : ℕ) → k < count l → Hit l k
unfolding hits
hit-of l h k c =
    let i : In k (map (column_of l) (hits l)) = rw (hits-columns l h) (in_span k (count l) 0 (omega arith) c) in
    let m = in_of_map (column_of l) (hits l) i in
    let t = keep_from (hit_at l) (span l.t0 l.t1) m.1 in
    let b = axis-bounds up up_grows (l.t1 - l.t0) l.t0 l.t1 m.0 (omega arith) t.0 in
    record { point = m.0; start = b.0; end = b.1; hits? = t.1; column = m.2 }

-- every precinct is met at a point of the tile
pub met_some : (s : Sheet) → Good s → (l r c k : ℕ) → c < s.st.components → k < precincts s c r → Point s l r c k
unfolding met number_at
met_some s good l r c k h n =
    let w : ℕ = width s c r in
    let a : 0 < precincts s c r = omega arith in
    let i : r < res_of s.st c = precincts_in s c r a in
    let e : precincts s c r ≡ w * height s c r = precincts-of s c r i in
    let f = factors w (height s c r) (rw e at a) in
    let low : k % w < w = mod-lt k f.0 in
    let high : k / w < height s c r = (div-lt_iff_lt-mul f.0).1 (omega (arith, mul_comm w (height s c r))) in
    let x = hit-of (line_x s c r) (proper (line_x s c r) (ordered_x s good c r h) f.0) (k % w) low in
    let y = hit-of (line_y s c r) (proper (line_y s c r) (ordered_y s good c r h) f.1) (k / w) high in
    record {
      x = x.point;
      y = y.point;
      meets =
          record {
            meets = rw (lt-ltb 0 (precincts s c r) a, x.hits?, y.hits?);
            number = rw (x.column, y.column) (omega (arith, div-add-mod' k w));
            left = x.start;
            right = x.end;
            top = y.start;
            bottom = y.end;
          };
    }
