-- What is kept of a resolution answers at a point: where an axis meets a precinct, and which it is. Assumes nothing.
use Rattle.std.specs.Prelude.{ℕ, ◌+◌, ◌*◌, ◌/◌, ◌%◌, ◌≤◌, ◌<◌, ◌≡◌, refl, Bool, true, false, cond, not, ◌&&◌, ◌||◌, ltb, eqb, Some, None}
use Rattle.std.proofs.Math.Path.{sym}
use Rattle.std.proofs.Common.{ap, ◌∙◌, arith, ltb-true, lt-ltb, ne_eqb}
use Rattle.geometry.specs.Line.{Line, step, whole, hit_at, column_of}
use Rattle.geometry.proofs.Hits.{hit_quotient, pos_step}
use Rattle.packets.specs.Tile.{Sheet, line_x, line_y, precincts}
use Rattle.packets.specs.Good.{Good}
use Rattle.packets.specs.Met.{MetAt}
use Rattle.packets.proofs.MetOnce.{met-small}
use Rattle.packets.specs.Positions.{met, number_at}
use Rattle.types.specs.declared.cursor.Position.{Position}
use Rattle.walks.specs.declared.prepared.Prepared.{Prepared}
use Rattle.walks.specs.Prepared.{Prep, kept_in, prepared_of, along_of, hit_by, column_by, Entry, AtPoint, point_of, cell_of}

-- THE HIT LAW: the point test by the step and the start inside a precinct
pub hit_law : (l : Line) (z : ℕ) → z < 4294967295 → hit_at l z ≡ hit_by (along_of l) z
unfolding hit_at
hit_law l z h = ap (λ (t : Bool). eqb (z % step l) 0 || t) (by (whole l) (eqb z l.t0) refl)
  where
    by : (t a : Bool) → eqb z l.t0 ≡ a → (a && not t) ≡ eqb z (cond t 4294967295 l.t0)
    by true true e = sym (ne_eqb z 4294967295 (λ q. omega arith))
    by true false e = sym (ne_eqb z 4294967295 (λ q. omega arith))
    by false true e = sym e
    by false false e = sym e

-- AN ENTRY
module _ (s : Sheet) (prep : Prep) (r c : ℕ) (e : Entry s prep r c) where
  -- what is kept is the sheet's, and there are precincts
  pub some : (p : Prepared) → kept_in prep r c ≡ Some p → (0 < precincts s c r) × (p ≡ prepared_of s c r)
  some p k = by (ltb 0 (precincts s c r)) refl (sym e ∙ k)
    where
      by : (t : Bool) → ltb 0 (precincts s c r) ≡ t → cond t (Some (prepared_of s c r)) None ≡ Some p → (0 < precincts s c r) × (p ≡ prepared_of s c r)
      by true t f = (ltb-true 0 _ t, cc)
      by false t f = cc

  -- where nothing is kept there are none
  pub none : kept_in prep r c ≡ None → ltb 0 (precincts s c r) ≡ false
  none k = by (ltb 0 (precincts s c r)) (sym e ∙ k)
    where
      by : (t : Bool) → cond t (Some (prepared_of s c r)) None ≡ None → t ≡ false
      by true f = cc
      by false f = refl

  module _ (p : Prepared) (k : kept_in prep r c ≡ Some p) where
    -- the point tests
    pub hit_x : (x : ℕ) → x < 4294967295 → hit_by p.x x ≡ hit_at (line_x s c r) x
    hit_x x h = rw (some p k).1 (sym (hit_law (line_x s c r) x h))

    pub hit_y : (y : ℕ) → y < 4294967295 → hit_by p.y y ≡ hit_at (line_y s c r) y
    hit_y y h = rw (some p k).1 (sym (hit_law (line_y s c r) y h))

    -- the steps are above 0
    module _ (good : Good s) (known : c < s.st.components) where
      pub pos_x : 1 ≤ p.x.step
      pos_x = rw (some p k).1 (pos_step (line_x s c r) (good.step_x_lem c known))

      pub pos_y : 1 ≤ p.y.step
      pos_y = rw (some p k).1 (pos_step (line_y s c r) (good.step_y_lem c known))

-- A POINT
module _ (s : Sheet) (prep : Prep) (r c x y : ℕ) (a : AtPoint s prep r c x y) where
  at-entry : Entry s prep r c
  at-entry = a.play.entry r c (omega arith) (omega arith) (omega arith) (omega arith)

  at_known : c < s.st.components
  at_known = omega (arith, a.play.known)

  -- where nothing is kept none is met
  pub cell_bare : kept_in prep r c ≡ None → None ≡ cell_of s r c x y
  unfolding cell_of met
  cell_bare k = rw (none s prep r c at-entry k)

  module _ (p : Prepared) (k : kept_in prep r c ≡ Some p) where
    has : 0 < precincts s c r
    has = (some s prep r c at-entry p k).0

    is : p ≡ prepared_of s c r
    is = (some s prep r c at-entry p k).1

    row-hit : hit_by p.y y ≡ hit_at (line_y s c r) y
    row-hit = hit_y s prep r c at-entry p k y (omega (arith, a.bottom, a.play.ends_y))

    column_hit : hit_by p.x x ≡ hit_at (line_x s c r) x
    column_hit = hit_x s prep r c at-entry p k x (omega (arith, a.right, a.play.ends_x))

    -- where the column meets none, none is met
    pub cell_no_column : hit_by p.y y ≡ true → hit_by p.x x ≡ false → None ≡ cell_of s r c x y
    unfolding cell_of met
    cell_no_column i z = rw (lt-ltb 0 (precincts s c r) has, sym row-hit ∙ i, sym column_hit ∙ z)

    -- where both do
    module _ (i : hit_by p.y y ≡ true) (j : hit_by p.x x ≡ true) where
      is_met : met s (point_of r c x y) ≡ true
      unfolding met
      is_met = rw (lt-ltb 0 (precincts s c r) has, sym row-hit ∙ i, sym column_hit ∙ j)

      column_is : (column_of (line_x s c r) x ≡ column_by p.x x) × (p.x.first ≤ x / p.x.step)
      column_is = rw is (hit_quotient (line_x s c r) (a.play.good.step_x_lem c at_known) x a.left (sym column_hit ∙ j))

      row_is : (column_of (line_y s c r) y ≡ column_by p.y y) × (p.y.first ≤ y / p.y.step)
      row_is = rw is (hit_quotient (line_y s c r) (a.play.good.step_y_lem c at_known) y a.top (sym row-hit ∙ i))

      -- the first column is at most the quotient
      pub column_from : p.x.first ≤ x / p.x.step
      column_from = column_is.1

      number_is : number_at s (point_of r c x y) ≡ column_by p.x x + column_by p.y y * p.width
      unfolding number_at
      number_is = rw (column_is.0, row_is.0, ap (λ (q : Prepared). q.width) is)

      -- the number fits
      pub number-small : column_by p.x x + column_by p.y y * p.width < 65536
      unfolding met number_at
      number-small =
          let at : Position = record { layno = 0; resno = r; compno = c; precno = number_at s (point_of r c x y); x = x; y = y } in
          let m : MetAt s at = record { meets = is_met; number = refl; left = a.left; right = a.right; top = a.top; bottom = a.bottom } in
          let n = met-small s a.play.good at at_known m in
          let f = a.play.few r c (omega arith) (omega arith) (omega arith) (omega arith) in
          omega (arith, number_is)

      -- the precinct that is met
      pub cell-met : Some (column_by p.x x + column_by p.y y * p.width) ≡ cell_of s r c x y
      unfolding cell_of
      cell-met = rw (is_met, number_is)
