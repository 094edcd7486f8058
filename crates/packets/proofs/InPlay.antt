-- What is in play: the next row or column is the least next hit of the components and resolutions that can be met from here on. On any grid, agreed or not,
-- this passes over no hit, and so lists the positions (Strided). Assumes nothing.
use Rattle.std.specs.Prelude.{◌≡◌, refl, [], Bool}
use Rattle.std.proofs.Common.{sym, ◌∙◌, mul-pos, pow_pos, ltb-true, lt-ltb}
use Rattle.std.proofs.Math.Bool.{true, false, cond}
use Prim.Native.Nat.{ℕ, ◌+◌, ◌≤◌, ◌<◌, max}
use native.Mathlib.Omega.{arith}
use Rattle.laws.specs.Cases.{and_true}
use Rattle.laws.specs.Least.{least, least-start, least-at, least-below}
use Rattle.laws.specs.Stride.{stride, stride_grows}
use Rattle.laws.specs.Nest.{nest}
use Rattle.types.specs.State.{origin}
use Rattle.packets.specs.Tile.{Sheet}
use Rattle.types.specs.declared.order.Order.{Order}
use Rattle.types.specs.declared.order.Range.{Range}
use Rattle.types.specs.Orders.{components_good}
use Rattle.packets.specs.Grid.{step_x, step_y, agreed}
use Rattle.packets.specs.Positions.{loops_of, has_positions, positions_in}
use Rattle.packets.specs.Good.{Good}
use Rattle.packets.specs.AgreedStride.{stride_x, stride_y}
use Rattle.packets.proofs.AgreedStride.{stride-agreed}
use Rattle.packets.specs.Strided.{For, points_for, range_at, PassesNoHit, strided, strided_positions, strided-listed}
use Rattle.packets.proofs.NextHits.{met-has, has-precincts, row_by_steps, column_by-steps}
use Rattle.types.specs.declared.cursor.Position.{Position}
use Rattle.packets.specs.InPlay.{next_in_play, play_y, play_x, next_x, next_y}

module _ (g : Range) (play : ℕ → ℕ → Bool) (f : ℕ → ℕ → ℕ) (stop x : ℕ) where
  -- it is at most stop
  pub in_play_stops : next_in_play g play f stop x ≤ stop
  unfolding next_in_play
  in_play_stops = least-start stop _ g.compno0 g.compno1

  -- it is above x if stop is
  pub in_play_grows : x < stop → ((c r : ℕ) → play c r ≡ true → 1 ≤ f c r) → x < next_in_play g play f stop x
  unfolding next_in_play
  in_play_grows h k =
      least-below stop _ g.compno0 x g.compno1 h
      (λ c i j. least-below stop _ g.resno0 x g.resno1 h (λ r a b. by c r (play c r) refl))
    where
      by : (c r : ℕ) (t : Bool) → play c r ≡ t → x < cond t (stride (f c r) x) stop
      by c r true e = stride_grows (f c r) (k c r e) x
      by c r false e = h

  -- it is at most the next multiple of each step in play
  pub in_play_skips : (c r : ℕ) → g.compno0 ≤ c → c < g.compno1 → g.resno0 ≤ r → r < g.resno1 → play c r ≡ true → next_in_play g play f stop x ≤ stride (f c r) x
  unfolding next_in_play
  in_play_skips c r a b i j e =
      let own : ℕ → ℕ → ℕ = λ c r. cond (play c r) (stride (f c r) x) stop in
      let outer = least-at stop (λ c. least stop (own c) g.resno0 g.resno1) g.compno0 g.compno1 c a b in
      let inner = least-at stop (own c) g.resno0 g.resno1 r i j in
      let p : own c r ≡ stride (f c r) x = rw e in
      omega arith

module _ (s : Sheet) (g : Range) (w : For) where
  -- they grow, wherever the loops around stand
  pub next_x_grows : (p : Position) (x : ℕ) → x < next_x s g w p x
  next_x_grows p x =
      in_play_grows (range_at g w p.compno p.resno) (play_x s p) (step_x s) (max s.st.tx1 (x + 1)) x (omega arith)
      (λ c r e. mul-pos (has-precincts s c r (ltb-true 0 _ (and_true _ _ e).0)).1 (pow_pos _))

  pub next_y_grows : (p : Position) (y : ℕ) → y < next_y s g w p y
  next_y_grows p y =
      in_play_grows (range_at g w p.compno p.resno) (play_y s) (step_y s) (max s.st.ty1 (y + 1)) y (omega arith)
      (λ c r e. mul-pos (has-precincts s c r (ltb-true 0 _ e)).2 (pow_pos _))

  -- they do not go beyond the tile
  pub next_x_ends : (p : Position) (x : ℕ) → x < s.st.tx1 → next_x s g w p x ≤ s.st.tx1
  next_x_ends p x h = omega (arith, in_play_stops (range_at g w p.compno p.resno) (play_x s p) (step_x s) (max s.st.tx1 (x + 1)) x)

  pub next_y_ends : (p : Position) (y : ℕ) → y < s.st.ty1 → next_y s g w p y ≤ s.st.ty1
  next_y_ends p y h = omega (arith, in_play_stops (range_at g w p.compno p.resno) (play_y s) (step_y s) (max s.st.ty1 (y + 1)) y)

  -- they pass over no hit
  pub in_play-passes : PassesNoHit s g (next_x s g w) (next_y s g w) w
  in_play-passes =
      record {
        next_row = λ p i y.
            row_by_steps s g w p y (next_y s g w p y) (next_y_grows p y)
            (λ q h.
            let m = met-has s q h.is_met in
            in_play_skips (range_at g w p.compno p.resno) (play_y s) (step_y s) (max s.st.ty1 (y + 1)) y q.compno q.resno
            h.spot.comp_from h.spot.comp_to h.spot.res_from h.spot.res_to (lt-ltb 0 _ m.has));
        next_column = λ p i x.
            column_by-steps s g w p x (next_x s g w p x) (next_x_grows p x)
            (λ q h e.
            let m = met-has s q h.is_met in
            in_play_skips (range_at g w p.compno p.resno) (play_x s p) (step_x s) (max s.st.tx1 (x + 1)) x q.compno q.resno
            h.spot.comp_from h.spot.comp_to h.spot.res_from h.spot.res_to (rw (← e, lt-ltb 0 _ m.has) m.hit_y));
      }

-- so they list what the loops over every point list
pub in_play-lists : (s : Sheet) (g : Range) (o : Order)
    → nest (strided s g (next_x s g (points_for o)) (next_y s g (points_for o)) o) origin ≡ nest (loops_of s g o) origin
in_play-lists s g o = strided_positions s g (next_x s g (points_for o)) (next_y s g (points_for o)) o (in_play-passes s g (points_for o))

-- so the positions of any progression, if it has any
pub in_play-listed : (s : Sheet) (g : Range) (o : Order)
    → cond (has_positions s g o) (nest (strided s g (next_x s g (points_for o)) (next_y s g (points_for o)) o) origin) [] ≡ positions_in s g o
in_play-listed s g o = strided-listed s g (next_x s g (points_for o)) (next_y s g (points_for o)) o (λ k. in_play-lists s g o)

-- on an agreed grid, what the progression's own stride lists, of either kind: 01's smallest step, or the greatest common divisor of the steps
pub in_play_strides : (s : Sheet) → Good s → (g : Range) → components_good s.st g ≡ true → (kind : ℕ) (o : Order) → agreed s kind g o ≡ true
    → nest (strided s g (next_x s g (points_for o)) (next_y s g (points_for o)) o) origin
    ≡ nest (strided s g (stride_x s kind (points_for o)) (stride_y s kind (points_for o)) o) origin
in_play_strides s h g good kind o e = in_play-lists s g o ∙ sym (stride-agreed s h g good kind o e)
