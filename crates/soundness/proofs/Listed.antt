-- The tests of a position, in the order in which the code makes them, are true just where the progression lists it. Assumes nothing.
use mathlib.Core.Path.{◌≡◌, refl, sym, ◌∙◌}
use mathlib.Core.Bool.{Bool, true, false, ◌&&◌, true≢false}
use mathlib.Core.List.{List, Memᴰ as In}
use Prim.Native.Nat.{ℕ, ◌≤◌, ◌<◌}
use native.Mathlib.Omega.{arith}
use lib.Dec.{ltb, leb}
use Rattle.laws.specs.Cases.{and_true, and_both, split}
use Rattle.laws.specs.Means.{Means, ltb-means, leb-means, eqb-means, means_by, and-means}
use Rattle.laws.specs.Parts.{means-same, itself}
use Rattle.geometry.specs.Line.{hit_at}
use Rattle.packets.specs.Tile.{Sheet, line_x, line_y, precincts, res_of}
use Rattle.types.specs.Orders.{by_points, components_good}
use Rattle.types.specs.declared.order.Order.{Order}
use Rattle.types.specs.declared.order.Order.TheVariants.{Lrcp as lrcp, Rlcp as rlcp, Rpcl as rpcl, Pcrl as pcrl, Cprl as cprl, NoPositions as other}
use Rattle.types.specs.declared.order.Range.{Range}
use Rattle.packets.specs.Positions.{met, number_at, has_positions, positions_in}
use Rattle.packets.specs.Table.{sheet_at}
use Rattle.packets.specs.Sound.{is_in}
use Rattle.packets.specs.Meaning.{fit-good}
use Rattle.packets.specs.Good.{Good}
use Rattle.packets.specs.Met.{MetAt}
use Rattle.packets.specs.Inside.{has-good, is_in_lem, in_is, positions_none, in_positions, in_range_lem, in_met, in_still, listed-point, listed_still, InRange}
use Rattle.packets.proofs.Inside.{inside}
use Rattle.types.specs.declared.state.State.{State}
use Rattle.types.specs.declared.cursor.Position.{Position}
use Rattle.soundness.specs.Points.{in_range, counted_of, met_in, position_test}
use Rattle.soundness.specs.Reached.{Reached}

axis-means : (t0 t1 x : ℕ) (t : Bool) → Means (leb t0 x && (ltb x t1 && t)) ((t0 ≤ x) × ((x < t1) × (t ≡ true)))
axis-means t0 t1 x t = and-means (leb-means t0 x) (and-means (ltb-means x t1) (itself t))

-- the test of the ranges means that p is in range
pub range-means : (g : Range) (p : Position) → Means (in_range g p) (InRange g p)
unfolding in_range
range-means g p =
    means_by
    (and-means (ltb-means p.layno g.layno1)
    (and-means (leb-means g.resno0 p.resno)
    (and-means (ltb-means p.resno g.resno1) (and-means (leb-means g.compno0 p.compno) (ltb-means p.compno g.compno1)))))
    (λ w. record { layer = w.0; resolution_from = w.1.0; resolution_to = w.1.1.0; component_from = w.1.1.1.0; component_to = w.1.1.1.1 })
    (λ i. (i.layer, (i.resolution_from, (i.resolution_to, (i.component_from, i.component_to)))))

module _ (s : Sheet) (g : Range) (p : Position) where
  -- the positions have p
  abbrev listed_by : Order → Bool
  listed_by o = is_in p (positions_in s g o)

  not-listed : (o : Order) → (In p (positions_in s g o) → ⊥) → false ≡ listed_by o
  not-listed o n = split (listed_by o) (λ e. absurd (n (is_in_lem p (positions_in s g o) e))) (λ e. sym e)

  -- not where the components are not good, or p is out of range
  pub no_components : (o : Order) → components_good s.st g ≡ false → false ≡ listed_by o
  no_components o e = not-listed o (λ m. true≢false (sym (has-good s g o ((in_positions s g o p).0 m).0) ∙ e))

  pub out_of_range : (o : Order) → in_range g p ≡ false → false ≡ listed_by o
  out_of_range o e = not-listed o (λ m. true≢false (sym ((range-means g p).1 (in_range_lem s g o p m)) ∙ e))

  -- a position in range is of a component that there is
  pub component-there : components_good s.st g ≡ true → in_range g p ≡ true → p.compno < s.st.components
  component-there f e =
      let h = (and-means (ltb-means g.compno0 s.st.components) (leb-means g.compno1 s.st.components)).0 f in
      omega (arith, h.1, ((range-means g p).0 e).component_to)

  -- the test of the point means that the precinct is met there
  met-means : Means (met_in s p) (MetAt s p)
  unfolding met number_at
  met-means =
      let y : Bool = hit_at (line_y s p.compno p.resno) p.y in
      let x : Bool = hit_at (line_x s p.compno p.resno) p.x in
      let some : Bool = ltb 0 (precincts s p.compno p.resno) in
      means_by
      (and-means (itself some)
      (and-means (axis-means s.st.ty0 s.st.ty1 p.y y) (and-means (axis-means s.st.tx0 s.st.tx1 p.x x) (eqb-means p.precno (number_at s p)))))
      (λ w.
      let v = w.1.0 in
      let h = w.1.1.0 in
      record { meets = and_both w.0 (and_both v.1.1 h.1.1); number = w.1.1.1; left = h.0; right = h.1.0; top = v.0; bottom = v.1.0 })
      (λ m.
      let a = and_true some (y && x) m.meets in
      let d = and_true y x a.1 in
      (a.0, ((m.top, (m.bottom, d.0)), ((m.left, (m.right, d.1)), m.number))))

  module _ (good : Good s) where
    pub no_resolution : (o : Order) → res_of s.st p.compno ≤ p.resno → false ≡ listed_by o
    no_resolution o h = not-listed o (λ m. let i = inside s g good o p m in let k = i.resolution in let n : ⊥ = omega arith in n)

    -- IN RANGE. In orders 0 and 1 the test is of the precinct's number
    still_means : (o : Order) → by_points o ≡ false → has_positions s g o ≡ true → InRange g p → Means (counted_of (precincts s p.compno p.resno) p) (In p (positions_in s g o))
    still_means o b h i =
        means_by (and-means (ltb-means p.precno _) (and-means (eqb-means p.x 0) (eqb-means p.y 0)))
        (λ w. listed_still s g o b h p i w.0 w.1.0 w.1.1)
        (λ m. let z = in_still s g o b p m in ((inside s g good o p m).precinct, (z.0, z.1)))

    -- in orders 2 to 4 it is of the point
    point-means : (o : Order) → by_points o ≡ true → has_positions s g o ≡ true → InRange g p
        → Means (met_in s p) (In p (positions_in s g o))
    point-means o b h i = means_by met-means (listed-point s g o b h p i) (in_met s g o b p)

-- the test by the order, of a resolution that there is
pub in_test : (st : State) (table : List ℕ) (g : Range) (p : Position) → Reached st table p.compno p.resno → (o : Order) → components_good st g ≡ true → in_range g p ≡ true
    → position_test (sheet_at st table) o p ≡ is_in p (positions_in (sheet_at st table) g o)
unfolding is_in
in_test st table g p r o f e = of o
  where
    s : Sheet
    s = sheet_at st table

    still : (o : Order) → by_points o ≡ false → has_positions s g o ≡ true → counted_of (precincts s p.compno p.resno) p ≡ is_in p (positions_in s g o)
    still o b h = means-same (still_means s g p (fit-good st table r.fit) o b h ((range-means g p).0 e)) (is_in_lem p _, in_is p _)

    point : (o : Order) → by_points o ≡ true → has_positions s g o ≡ true → met_in s p ≡ is_in p (positions_in s g o)
    point o b h = means-same (point-means s g p (fit-good st table r.fit) o b h ((range-means g p).0 e)) (is_in_lem p _, in_is p _)

    of : (o : Order) → position_test s o p ≡ is_in p (positions_in s g o)
    of lrcp = still lrcp refl f
    of rlcp = still rlcp refl f
    of rpcl = point rpcl refl f
    of pcrl = point pcrl refl f
    of cprl = point cprl refl f
    of other = rw (positions_none s g other refl)
