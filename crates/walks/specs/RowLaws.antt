-- What is noted of a row: it tells what is in play there, and where its precincts start; a turn that notes one more loses none. Assumes nothing.
use Rattle.std.specs.Prelude.{ℕ, ◌+◌, ◌*◌, ◌/◌, ◌≤◌, ◌<◌, Bool, cond, ◌&&◌, ltb, Option, Some, None}
use Rattle.std.proofs.Math.Path.{◌≡◌, refl, ap}
use Rattle.std.proofs.Common.{sym, ◌∙◌, ⊎_elim, mul_comm}
use Rattle.std.proofs.Math.Bool.{true, false}
use native.Mathlib.Omega.{arith}
use Rattle.std.proofs.Math.Arith.{digits_lt}
use Rattle.laws.specs.Cases.{le_or_lt}
use Rattle.geometry.specs.Line.{hit_at, column_of}
use Rattle.geometry.proofs.Hits.{factors, proper, hit_quotient, col_below}
use Rattle.packets.specs.Tile.{Sheet, line_x, line_y, width, height, precincts}
use Rattle.packets.specs.Grid.{step_x}
use Rattle.packets.specs.InPlay.{play_x}
use Rattle.packets.proofs.MetOnce.{precincts-of, precincts_in, ordered_y}
use Rattle.packets.specs.Positions.{met}
use Rattle.walks.specs.declared.prepared.Prepared.{Prepared}
use Rattle.walks.specs.Prepared.{Prep, Firsts, kept_in, first_in, hit_by, column_by, Entry, AtPoint, at_row, prepared_of, cell_of}
use Rattle.walks.specs.Cells.{some, hit_y, cell_bare, cell_no_column, column_from, number-small, cell-met}
use Rattle.walks.specs.Nexts.{step_of, columns_out, columns-row, step-columns, play_x_lem, play_y_lem}
use Rattle.walks.specs.Turns.{play_part}
use Rattle.walks.specs.InRow.{row_of, AtRow, Row, RowStart, RowPoint, PointPlay}

-- IN PLAY, where something is noted
pub row_out : (s : Sheet) (r c y : ℕ) → row_of s r c y ≡ None → play_x s (at_row y) c r ≡ false
unfolding row_of
row_out s r c y = by (play_x s (at_row y) c r) _
  where
    by : (t : Bool) (n : ℕ) → cond t (Some n) None ≡ None → t ≡ false
    by true n e = cc
    by false n e = refl

pub row_in : (s : Sheet) (r c y n : ℕ) → row_of s r c y ≡ Some n → (play_x s (at_row y) c r ≡ true) × (n ≡ column_of (line_y s c r) y * width s c r)
unfolding row_of
row_in s r c y n = by (play_x s (at_row y) c r) _
  where
    by : (t : Bool) (m : ℕ) → cond t (Some m) None ≡ Some n → (t ≡ true) × (n ≡ m)
    by true m e = (refl, cc)
    by false m e = cc

-- one resolution of one component
pub row_part : (s : Sheet) (prep : Prep) (r0 r1 c0 c1 y r c : ℕ) → AtRow s prep r0 r1 c0 c1 y → r0 ≤ r → r < r1 → c0 ≤ c → c < c1 → AtRow s prep r (r + 1) c (c + 1) y
row_part s prep r0 r1 c0 c1 y r c a p q i j =
    record { play = play_part s prep r0 r1 c0 c1 r (r + 1) c (c + 1) a.play p (omega arith) i (omega arith); top = a.top; bottom = a.bottom }

pub point_part : (s : Sheet) (prep : Prep) (row : Firsts) (r0 r1 c0 c1 x y : ℕ) (first : Option ℕ) (r c : ℕ) → first ≡ first_in row r c
    → PointPlay s prep row r0 r1 c0 c1 x y → r0 ≤ r → r < r1 → c0 ≤ c → c < c1 → RowPoint s prep first r c x y
point_part s prep row r0 r1 c0 c1 x y first r c e h a b i j =
    record { start = record { at = row_part s prep r0 r1 c0 c1 y r c h.at a b i j; noted = e ∙ h.noted r c a b i j }; left = h.left; right = h.right }

-- A ROW, by what is prepared
module _ (s : Sheet) (prep : Prep) (r c y : ℕ) (a : AtRow s prep r (r + 1) c (c + 1) y) where
  row-entry : Entry s prep r c
  row-entry = a.play.entry r c (omega arith) (omega arith) (omega arith) (omega arith)

  row_known : c < s.st.components
  row_known = omega (arith, a.play.known)

  row-inside : y < 4294967295
  row-inside = omega (arith, a.bottom, a.play.ends_y)

  -- where nothing is kept it meets none
  pub row_none : kept_in prep r c ≡ None → None ≡ row_of s r c y
  unfolding row_of
  row_none k = rw (columns_out s prep r c row-entry y k)

  module _ (p : Prepared) (k : kept_in prep r c ≡ Some p) where
    pub row-step : 1 ≤ p.y.step
    row-step = play_y_lem s prep r c a.play p k

    -- nor where it passes between their starts
    pub row_missed : hit_by p.y y ≡ false → None ≡ row_of s r c y
    unfolding row_of
    row_missed z = rw (columns-row s prep r c row-entry p k y row-inside ∙ z)

    module _ (i : hit_by p.y y ≡ true) where
      has : 0 < precincts s c r
      has = (some s prep r c row-entry p k).0

      is : p ≡ prepared_of s c r
      is = (some s prep r c row-entry p k).1

      wide : p.width ≡ width s c r
      wide = ap (λ (q : Prepared). q.width) is

      hit : hit_at (line_y s c r) y ≡ true
      hit = sym (hit_y s prep r c row-entry p k y row-inside) ∙ i

      row_is : (column_of (line_y s c r) y ≡ column_by p.y y) × (p.y.first ≤ y / p.y.step)
      row_is = rw is (hit_quotient (line_y s c r) (a.play.good.step_y_lem c row_known) y a.top hit)

      -- the first row is at most the quotient
      pub row_from : p.y.first ≤ y / p.y.step
      row_from = row_is.1

      -- the number fits
      pub row-small : column_by p.y y * p.width ≤ 65536
      row-small =
          let m : precincts s c r ≡ width s c r * height s c r = precincts-of s c r (precincts_in s c r has) in
          let f = factors (width s c r) (height s c r) (rw m at has) in
          let b = col_below (line_y s c r) (proper (line_y s c r) (ordered_y s a.play.good c r row_known) f.1) y a.top a.bottom hit in
          let n = a.play.few r c (omega arith) (omega arith) (omega arith) (omega arith) in
          rw (← row_is.0, wide) (omega (arith, digits_lt b f.0, mul_comm (width s c r) (height s c r)))

      -- the first precinct that it meets
      pub row-met : Some (column_by p.y y * p.width) ≡ row_of s r c y
      unfolding row_of
      row-met = rw (columns-row s prep r c row-entry p k y row-inside ∙ i, row_is.0, wide)

-- WHAT IS NOTED OF A ROW
module _ (s : Sheet) (prep : Prep) (first : Option ℕ) (r c y : ℕ) (h : RowStart s prep first r c y) where
  -- nothing where it meets no precinct: nothing is in play there
  pub noted_out : first ≡ None → play_x s (at_row y) c r ≡ false
  noted_out z = row_out s r c y (sym h.noted ∙ z)

  pub columns_none : first ≡ None → None ≡ step_of (play_x s (at_row y) c r) (step_x s c r)
  columns_none z = rw (noted_out z)

  -- nor is it where nothing is kept
  pub columns_bare : kept_in prep r c ≡ None → None ≡ step_of (play_x s (at_row y) c r) (step_x s c r)
  columns_bare k = rw (columns_out s prep r c (row-entry s prep r c y h.at) y k)

  module _ (n : ℕ) (e : first ≡ Some n) where
    noted_in : play_x s (at_row y) c r ≡ true
    noted_in = (row_in s r c y n (sym h.noted ∙ e)).0

    module _ (p : Prepared) (k : kept_in prep r c ≡ Some p) where
      pub noted_hit : hit_by p.y y ≡ true
      noted_hit = sym (columns-row s prep r c (row-entry s prep r c y h.at) p k y (row-inside s prep r c y h.at)) ∙ noted_in

      pub columns_in : Some p.x.step ≡ step_of (play_x s (at_row y) c r) (step_x s c r)
      columns_in = rw (noted_in, step-columns s prep r c (row-entry s prep r c y h.at) p k)

-- A POINT of it
module _ (s : Sheet) (prep : Prep) (first : Option ℕ) (r c x y : ℕ) (h : RowPoint s prep first r c x y) where
  point : AtPoint s prep r c x y
  point = let a = h.start.at in record { play = a.play; left = h.left; right = h.right; top = a.top; bottom = a.bottom }

  -- where the row meets no precinct none is met
  pub noted_none : first ≡ None → None ≡ cell_of s r c x y
  unfolding cell_of met
  noted_none z =
      rw (by (ltb 0 (precincts s c r)) (hit_at (line_y s c r) y) (hit_at (line_x s c r) x) (noted_out s prep first r c y h.start z))
    where
      by : (a b d : Bool) → (a && b) ≡ false → (a && (b && d)) ≡ false
      by true true d e = absurd (let z : ◌≡◌ {A = ℕ} 0 1 = cc in let n : ⊥ = omega arith in n)
      by true false d e = refl
      by false b d e = refl

  -- nor where nothing is kept
  pub noted_empty : kept_in prep r c ≡ None → None ≡ cell_of s r c x y
  noted_empty k = cell_bare s prep r c x y point k

  module _ (n : ℕ) (e : first ≡ Some n) (p : Prepared) (k : kept_in prep r c ≡ Some p) where
    pub noted-step : 1 ≤ p.x.step
    noted-step = play_x_lem s prep r c h.start.at.play p k

    met_row : hit_by p.y y ≡ true
    met_row = noted_hit s prep first r c y h.start n e p k

    -- nor where the column meets none
    pub noted_missed : hit_by p.x x ≡ false → None ≡ cell_of s r c x y
    noted_missed z = cell_no_column s prep r c x y point p k met_row z

    module _ (j : hit_by p.x x ≡ true) where
      -- the first column is at most the quotient
      pub noted_from : p.x.first ≤ x / p.x.step
      noted_from = column_from s prep r c x y point p k met_row j

      start_is : n ≡ column_by p.y y * p.width
      start_is = let z : Some n ≡ Some (column_by p.y y * p.width) = sym e ∙ h.start.noted ∙ sym (row-met s prep r c y h.start.at p k met_row) in cc

      -- the number fits
      pub noted-small : column_by p.x x + n < 65536
      noted-small = rw start_is (number-small s prep r c x y point p k met_row j)

      -- the precinct that is met
      pub noted-met : Some (column_by p.x x + n) ≡ cell_of s r c x y
      noted-met = rw start_is (cell-met s prep r c x y point p k met_row j)

-- NOTING: what two loops have noted so far, of the components before c and of c itself before r
abbrev pub Noted : Sheet → Firsts → ℕ → ℕ → ℕ → ℕ → ℕ → ℕ → Type 0
Noted s row r0 r1 c0 c r y = Row s row r0 r1 c0 c y × Row s row r0 r c (c + 1) y

module _ (s : Sheet) (row : Firsts) (r0 r1 c0 c y : ℕ) where
  -- at first nothing is asked
  pub note_none : Row s row r0 r1 c0 c0 y
  note_none q i a b d e = absurd (let z : ⊥ = omega arith in z)

  pub note_enter : Row s row r0 r1 c0 c y → Noted s row r0 r1 c0 c r0 y
  note_enter h = (h, λ q i a b d e. absurd (let z : ⊥ = omega arith in z))

  -- a turn notes one more
  pub note_more : (new : Firsts) (r : ℕ) (v : Option ℕ) → first_in new r c ≡ v → ((q i : ℕ) → (q ≡ r → i ≡ c → ⊥) → first_in new q i ≡ first_in row q i)
      → v ≡ row_of s r c y → Noted s row r0 r1 c0 c r y → Noted s new r0 r1 c0 c (r + 1) y
  note_more new r v there others e h = (
    λ q i a b d k. others q i (λ x z. omega arith) ∙ h.0 q i a b d k,
    λ q i a b d k.
        let g : i ≡ c = omega arith in
        ⊎_elim
        (λ z. let f : q ≡ r = omega arith in rw (f, g) (there ∙ e))
        (λ z. others q i (λ x w. omega arith) ∙ h.1 q i a z d k)
        (le_or_lt r q),
  )

  -- where the inner loop ends a component more is noted
  pub note_leave : (r : ℕ) → r1 ≤ r → Noted s row r0 r1 c0 c r y → Row s row r0 r1 c0 (c + 1) y
  note_leave r k h q i a b d e = ⊎_elim (λ z. h.1 q i a (omega arith) z e) (λ z. h.0 q i a b d z) (le_or_lt c i)

  -- and where the outer one ends all are
  pub note_all : (c1 : ℕ) → c1 ≤ c → Row s row r0 r1 c0 c y → Row s row r0 r1 c0 c1 y
  note_all c1 k h q i a b d e = h q i a b d (omega arith)
