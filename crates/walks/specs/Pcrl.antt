-- PCRL: what is left of it from a place on is what is met at one point, and then the points after it, from one at which something in play is met to the next.
-- Assumes nothing.
use Rattle.std.specs.Prelude.{◌≡◌, ℕ, ◌+◌, ◌≤◌, ◌<◌}
use Rattle.std.proofs.Math.Path.{refl, sym, ap}
use Rattle.std.proofs.Common.{◌∙◌, arith}
use mathlib.Core.List.{List, [], ◌∷◌, ◌++◌, append_assoc, append-nil}
use Rattle.laws.specs.Axis.{up_grows}
use Rattle.laws.specs.Nest.{Loop, resumed, turn_in, turn_out}
use Rattle.laws.specs.NestMoved.{no_turn, one_and_later}
use Rattle.types.specs.State.{origin}
use Rattle.packets.specs.Tile.{Sheet}
use Rattle.types.specs.declared.order.Order.TheVariants.{Pcrl as pcrl}
use Rattle.types.specs.declared.order.Range.{Range}
use Rattle.packets.specs.Positions.{loops_of, layers, resolutions, components, rows, columns, the_precinct, number_at}
use Rattle.packets.specs.Strided.{everything}
use Rattle.packets.specs.Grid.{step_x, step_y}
use Rattle.packets.specs.Skips.{skip_rows, skip_columns}
use Rattle.packets.specs.InPlay.{next_before, next_in_play, play_x, play_y, next_x, next_y}
use Rattle.packets.proofs.InPlay.{next_x_grows, next_y_grows, next_x_ends, next_y_ends, in_play-passes}
use Rattle.types.specs.declared.cursor.Position.{Position}
use Rattle.walks.specs.Prepared.{Prep, point_of, at_row, range_by}
use Rattle.walks.specs.Walk.{Ready}
use Rattle.walks.specs.Going.{Rest}
use Rattle.walks.specs.AtPoint.{cell_from}
use Rattle.walks.specs.declared.walk.Walk.{Walk}

-- the loops inside columns, and inside components
abbrev inside_x : Sheet → Range → List (Loop Position)
inside_x s g = components g ∷ resolutions g ∷ the_precinct s ∷ layers g ∷ []

abbrev inside_c : Sheet → Range → List (Loop Position)
inside_c s g = resolutions g ∷ the_precinct s ∷ layers g ∷ []

-- what is to be searched from a place on
abbrev pub entry : ℕ → ℕ → ℕ → ℕ → ℕ → Rest
entry y x c r l s g = resumed (loops_of s g pcrl) ((λ p. y) ∷ (λ p. x) ∷ (λ p. c) ∷ (λ p. r) ∷ number_at s ∷ (λ p. l) ∷ []) origin

abbrev pub entry_at : Position → Rest
entry_at p = entry p.y p.x p.compno p.resno p.layno

-- the rows from y on, and all of them
abbrev pub on_from : Walk → ℕ → Rest
on_from w y = entry y w.tx0 w.compno0 w.resno0 0

abbrev pub wholly : Walk → Rest
wholly w = on_from w w.ty0

-- what is met at (x, y), from (c, r, l) on
abbrev pub point : ℕ → ℕ → ℕ → ℕ → ℕ → Rest
point y x c r l s g = resumed (inside_x s g) ((λ p. c) ∷ (λ p. r) ∷ number_at s ∷ (λ p. l) ∷ []) (point_of 0 0 x y)

-- .. written as component c, and then the next ones
unfoldable pub left_r : Walk → ℕ → ℕ → ℕ → ℕ → ℕ → Rest
left_r w y x c r l s g = resumed (inside_c s g) ((λ p. r) ∷ number_at s ∷ (λ p. l) ∷ []) (point_of 0 c x y) ++ point y x (c + 1) w.resno0 0 s g

-- what is left at the columns of row y
unfoldable pub left_x : Walk → ℕ → ℕ → ℕ → ℕ → ℕ → Rest
left_x w y x c r l s g =
    resumed (columns s ∷ inside_x s g) ((λ p. x) ∷ (λ p. c) ∷ (λ p. r) ∷ number_at s ∷ (λ p. l) ∷ []) (point_of 0 0 0 y) ++ on_from w (next_y s g everything origin y) s g

-- .. after the point at x
abbrev pub after_x : Walk → ℕ → ℕ → Rest
after_x w y x s g = left_x w y (next_x s g everything (point_of 0 0 0 y) x) w.compno0 w.resno0 0 s g

module _ (s : Sheet) (g : Range) (prep : Prep) (w : Walk) (marks : List ℕ) (h : Ready s g prep w marks) (y x c r l : ℕ) where
  -- AT A POINT
  pub out_c : w.compno1 ≤ c → point y x c r l s g ≡ []
  out_c e = no_turn (components g) (inside_c s g) (λ p. c) _ (point_of 0 0 x y) (rw (← h.ranged.compno1) e)

  pub in_c : c < w.compno1 → point y x c r l s g ≡ left_r w y x c r l s g
  unfolding left_r
  in_c e =
      let q = h.ranged in
      one_and_later (components g) (inside_c s g) (λ p. c) _ (point_of 0 0 x y) up_grows (rw (← q.compno1) e) (λ p. c + 1) _ refl (λ p. q.resno0, (λ p. refl, (λ p. refl, tt)))

  pub out_r : w.resno1 ≤ r → left_r w y x c r l s g ≡ point y x (c + 1) w.resno0 0 s g
  unfolding left_r
  out_r e =
      ap (λ (t : List Position). t ++ point y x (c + 1) w.resno0 0 s g)
      (no_turn (resolutions g) (the_precinct s ∷ layers g ∷ []) (λ p. r) _ (point_of 0 c x y) (rw (← h.ranged.resno1) e))

  pub in_r : r < w.resno1 → left_r w y x c r l s g ≡ cell_from r c x y l s g ++ left_r w y x c (r + 1) 0 s g
  unfolding left_r cell_from
  in_r e =
      ap (λ (t : List Position). t ++ point y x (c + 1) w.resno0 0 s g)
      (one_and_later (resolutions g) (the_precinct s ∷ layers g ∷ []) (λ p. r) _ (point_of 0 c x y) up_grows (rw (← h.ranged.resno1) e) (λ p. r + 1) _ refl
      (λ p. refl, (λ p. refl, tt)))
      ∙ append_assoc (cell_from r c x y l s g) _ _

  -- FROM ROW TO ROW, and from column to column
  pub out_y : w.ty1 ≤ y → entry y x c r l s g ≡ []
  out_y e = no_turn (rows s) (columns s ∷ inside_x s g) (λ p. y) _ origin (rw (← h.ranged.ty1) e)

  pub out_x : w.tx1 ≤ x → left_x w y x c r l s g ≡ on_from w (next_y s g everything origin y) s g
  unfolding left_x
  out_x e = turn_out (columns s) (inside_x s g) (λ p. x) _ (point_of 0 0 0 y) _ (rw (← h.ranged.tx1) e)

  module _ (top : w.ty0 ≤ y) (bottom : y < w.ty1) where
    abbrev above : s.st.ty0 ≤ y
    above = rw (← h.ranged.ty0) top

    abbrev below : y < s.st.ty1
    below = rw (← h.ranged.ty1) bottom

    pub in_y : entry y x c r l s g ≡ left_x w y x c r l s g
    unfolding left_x
    in_y =
        let q = h.ranged in
        let z = next_y s g everything origin y in
        let rest = resumed (columns s ∷ inside_x s g) ((λ p. x) ∷ (λ p. c) ∷ (λ p. r) ∷ number_at s ∷ (λ p. l) ∷ []) (point_of 0 0 0 y) in
        sym (append-nil (entry y x c r l s g))
        ∙ turn_in (rows s) (columns s ∷ inside_x s g) (λ p. y) _ origin [] up_grows below
        ∙ ap (λ (t : List Position). rest ++ t)
        (skip_rows s g everything origin tt (λ p. z) ((λ p. w.tx0) ∷ (λ p. w.compno0) ∷ (λ p. w.resno0) ∷ number_at s ∷ (λ p. 0) ∷ []) []
        (λ p. q.tx0, (λ p. q.compno0, (λ p. q.resno0, (λ p. refl, (λ p. refl, tt))))) y z above ((in_play-passes s g everything).next_row origin tt y) (omega (arith, next_y_ends s g everything origin y below))
        ∙ append-nil (on_from w z s g))

    pub in_x : w.tx0 ≤ x → x < w.tx1 → left_x w y x c r l s g ≡ point y x c r l s g ++ after_x w y x s g
    unfolding left_x
    in_x left right =
        let q = h.ranged in
        let p = point_of 0 0 0 y in
        let z = next_x s g everything p x in
        let right' : x < s.st.tx1 = rw (← q.tx1) right in
        turn_in (columns s) (inside_x s g) (λ p. x) _ p (on_from w (next_y s g everything origin y) s g) up_grows right'
        ∙ ap (λ (t : List Position). point y x c r l s g ++ t)
        (skip_columns s g everything p tt (λ p. z) ((λ p. w.compno0) ∷ (λ p. w.resno0) ∷ number_at s ∷ (λ p. 0) ∷ []) (on_from w (next_y s g everything origin y) s g)
        (λ p. q.compno0, (λ p. q.resno0, (λ p. refl, (λ p. refl, tt)))) above below x z (rw (← q.tx0) left) ((in_play-passes s g everything).next_column p tt x)
        (omega (arith, next_x_ends s g everything p x right')))

-- the next column and row in play, by the walk's own numbers; and they grow
module _ (s : Sheet) (g : Range) (prep : Prep) (w : Walk) (marks : List ℕ) (ready : Ready s g prep w marks) where
  pub column_is : (y x z : ℕ) → z ≡ next_before w.tx1 (range_by w.resno0 w.resno1 w.compno0 w.compno1) (play_x s (at_row y)) (step_x s) x
      → (z ≡ next_x s g everything (point_of 0 0 0 y) x) × (x < z)
  unfolding next_in_play
  column_is y x z e =
      let q = ready.ranged in
      let t : z ≡ next_x s g everything (point_of 0 0 0 y) x = e ∙ rw (q.tx1, q.resno0, q.resno1, q.compno0, q.compno1) in
      (t, rw t (next_x_grows s g everything (point_of 0 0 0 y) x))

  pub row_is : (y z : ℕ) → z ≡ next_before w.ty1 (range_by w.resno0 w.resno1 w.compno0 w.compno1) (play_y s) (step_y s) y
      → (z ≡ next_y s g everything origin y) × (y < z)
  unfolding next_in_play
  row_is y z e =
      let q = ready.ranged in
      let t : z ≡ next_y s g everything origin y = e ∙ rw (q.ty1, q.resno0, q.resno1, q.compno0, q.compno1) in
      (t, rw t (next_y_grows s g everything origin y))
