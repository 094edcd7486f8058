-- THE THEOREM OVER THE STRIDE (02, P6): any stride that divides all the steps, on each axis, gives the list of the loops over every point; in order 4 the steps are
-- those of the one component. Assumes nothing.
use Rattle.std.specs.Prelude.{◌≡◌, refl, true, ℕ, ◌≤◌, ◌<◌, ltb}
use Rattle.std.proofs.Common.{arith, ltb-true, leb-true}
use Rattle.laws.specs.Cases.{and_true}
use Rattle.laws.specs.Stride.{stride}
use Rattle.laws.specs.Nest.{nest}
use Rattle.laws.specs.NestOnce.{Within}
use Rattle.types.specs.State.{origin}
use Rattle.types.specs.Orders.{components_good}
use Rattle.packets.specs.Tile.{Sheet, res_of}
use Rattle.types.specs.declared.order.Order.{Order}
use Rattle.types.specs.declared.order.Range.{Range}
use Rattle.packets.specs.Grid.{step_x, step_y}
use Rattle.packets.specs.Positions.{loops_of}
use Rattle.packets.specs.Strided.{For, one_resolution, one_component, everything, points_for, outer_loops, Hit, PassesNoHit, strided, strided_positions}
use Rattle.packets.proofs.NextHits.{met-has, has-precincts, divisors_pass}
use Rattle.types.specs.declared.cursor.Position.{Position}
use Rattle.packets.specs.AnyStride.{Concerned, DividesAll}

module _ (s : Sheet) (g : Range) (good : components_good s.st g ≡ true) where
  bounds : (g.compno0 < s.st.components) × (g.compno1 ≤ s.st.components)
  bounds = let a = and_true (ltb g.compno0 s.st.components) _ good in (ltb-true _ _ a.0, leb-true _ _ a.1)

  -- where the loops outside stand, some component is concerned
  some_concerned : (w : For) (p : Position) → Within (outer_loops g w) p → (c : ℕ) × Concerned s w p c
  some_concerned one_resolution p i = (g.compno0, bounds.0)
  some_concerned one_component p i = (p.compno, (refl, omega (arith, bounds)))
  some_concerned everything p i = (g.compno0, bounds.0)

  -- that of each hit is
  hit-concerned : (w : For) (p q : Position) → Hit s g w p q → Concerned s w p q.compno
  hit-concerned one_resolution p q k = omega (arith, bounds, k.spot.comp_to)
  hit-concerned one_component p q k =
      (let e : q.compno ≡ p.compno = omega (arith, k.spot.comp_from, k.spot.comp_to) in e, omega (arith, bounds, k.spot.comp_to, k.stands))
  hit-concerned everything p q k = omega (arith, bounds, k.spot.comp_to)

  hit_resolution : (w : For) (p q : Position) → Hit s g w p q → q.resno < res_of s.st q.compno
  hit_resolution w p q k = (has-precincts s q.compno q.resno (met-has s q k.is_met).has).0

  -- such strides pass over no hit ..
  dividing_pass : (w : For) (mx my : Position → ℕ) → DividesAll s w (step_x s) mx → DividesAll s w (step_y s) my
      → PassesNoHit s g (λ p. stride (mx p)) (λ p. stride (my p)) w
  dividing_pass w mx my x y =
      divisors_pass s g w mx my
      (λ p i. let (c, k) = some_concerned w p i in (x.positive p c k, y.positive p c k))
      (λ p q k.
      let c = hit-concerned w p q k in
      let r = hit_resolution w p q k in
      (x.divides p q.compno q.resno c r, y.divides p q.compno q.resno c r))

  -- .. and so give the list of the loops over every point
  pub any_stride : (o : Order) (mx my : Position → ℕ) → DividesAll s (points_for o) (step_x s) mx → DividesAll s (points_for o) (step_y s) my
      → nest (strided s g (λ p. stride (mx p)) (λ p. stride (my p)) o) origin ≡ nest (loops_of s g o) origin
  any_stride o mx my x y = strided_positions s g (λ p. stride (mx p)) (λ p. stride (my p)) o (dividing_pass (points_for o) mx my x y)
