-- THEOREM 2, Stride: in orders 2 to 4 the loops over rows and columns may go by any nexts that grow and pass over no hit; the positions are those of the
-- loops over every point of the tile. Assumes nothing.
use Rattle.std.specs.Prelude.{◌≡◌, Bool, ℕ, ◌+◌, ◌≤◌, ◌<◌}
use Rattle.std.proofs.Math.Path.{refl}
use Rattle.std.proofs.Common.{◌∙◌, sym, arith}
use Rattle.std.proofs.Math.Bool.{true, false, cond}
use mathlib.Core.List.{List, [], ◌∷◌, ◌++◌, Memᴰ as In}
use Rattle.laws.specs.Cases.{split}
use Rattle.laws.specs.Gather.{gather}
use Rattle.laws.specs.Axis.{up, up_grows, axis_end}
use Rattle.laws.specs.Members.{gather_none}
use Rattle.laws.specs.Nest.{Loop, nest, turns}
use Rattle.laws.specs.NestOnce.{Within, Kept, nest-within, nest-kept, turn-bounds}
use Rattle.laws.specs.NestStride.{with_next, nest-stride, nest-inner, nest-inside, nest_none}
use Rattle.types.specs.State.{origin}
use Rattle.packets.specs.Tile.{Sheet}
use Rattle.types.specs.declared.order.Order.{Order}
use Rattle.types.specs.declared.order.Order.TheVariants.{Lrcp as lrcp, Rlcp as rlcp, Rpcl as rpcl, Pcrl as pcrl, Cprl as cprl, NoPositions as other}
use Rattle.types.specs.declared.order.Range.{Range}
use Rattle.packets.specs.Positions.{met, number_at, layers, resolutions, components, rows, columns, the_precinct, loops_of, has_positions, positions_in}
use Rattle.types.specs.declared.cursor.Position.{Position}

-- THE NEST. What an order goes through all points of the tile for
pub data For : Type 0 where
  one_resolution : For
  one_component : For
  everything : For

abbrev pub points_for : Order → For
points_for lrcp = everything
points_for rlcp = everything
points_for rpcl = one_resolution
points_for pcrl = everything
points_for cprl = one_component
points_for other = everything

-- the loops around rows and columns
abbrev pub outer_loops : Range → For → List (Loop Position)
outer_loops g one_resolution = resolutions g ∷ []
outer_loops g one_component = components g ∷ []
outer_loops g everything = []

-- those inside them
abbrev pub inner_loops : Range → For → List (Loop Position)
inner_loops g one_resolution = components g ∷ []
inner_loops g one_component = resolutions g ∷ []
inner_loops g everything = components g ∷ resolutions g ∷ []

-- the precinct that is met at the point, in every layer
abbrev pub packet_loops : Sheet → Range → List (Loop Position)
packet_loops s g = the_precinct s ∷ layers g ∷ []

-- rows by ny and columns by nx; each next may go by the numbers of the loops around it
abbrev pub point_loops : Sheet → Range → (Position → ℕ → ℕ) → (Position → ℕ → ℕ) → For → List (Loop Position)
point_loops s g nx ny w = outer_loops g w ++ (with_next ny (rows s) ∷ with_next nx (columns s) ∷ (inner_loops g w ++ packet_loops s g))

-- the loops of an order, orders 2 to 4 by these nexts
abbrev pub strided : Sheet → Range → (Position → ℕ → ℕ) → (Position → ℕ → ℕ) → Order → List (Loop Position)
strided s g nx ny lrcp = loops_of s g lrcp
strided s g nx ny rlcp = loops_of s g rlcp
strided s g nx ny rpcl = point_loops s g nx ny one_resolution
strided s g nx ny pcrl = point_loops s g nx ny everything
strided s g nx ny cprl = point_loops s g nx ny one_component
strided s g nx ny other = []

-- THE CONDITION. Where the loops outside stand at component c and resolution r, those inside go through this range
abbrev pub range_at : Range → For → ℕ → ℕ → Range
range_at g one_resolution c r = record { layno1 = g.layno1; resno0 = r; resno1 = r + 1; compno0 = g.compno0; compno1 = g.compno1 }
range_at g one_component c r = record { layno1 = g.layno1; resno0 = g.resno0; resno1 = g.resno1; compno0 = c; compno1 = c + 1 }
range_at g everything c r = g

-- a component and resolution of a range, at a point of the tile
pub record Spot (s : Sheet) (g : Range) (q : Position) : Type 0 where
  pub comp_from : g.compno0 ≤ q.compno
  pub comp_to : q.compno < g.compno1
  pub res_from : g.resno0 ≤ q.resno
  pub res_to : q.resno < g.resno1
  pub x_from : s.st.tx0 ≤ q.x
  pub x_to : q.x < s.st.tx1
  pub y_from : s.st.ty0 ≤ q.y
  pub y_to : q.y < s.st.ty1

-- q is a hit of those that the loops inside go through, where the loops outside stand at p
pub record Hit (s : Sheet) (g : Range) (w : For) (p q : Position) : Type 0 where
  pub stands : Within (outer_loops g w) p
  pub spot : Spot s (range_at g w p.compno p.resno) q
  pub is_met : met s q ≡ true

-- z may be the next row after y: it is above y, and no hit is between them
pub record NextRow (s : Sheet) (g : Range) (w : For) (p : Position) (y z : ℕ) : Type 0 where
  pub grows : y < z
  pub no_hit : (q : Position) → Hit s g w p q → s.st.ty0 ≤ y → y < q.y → z ≤ q.y

-- z may be the next column after x: no hit of the row of p is between them
pub record NextColumn (s : Sheet) (g : Range) (w : For) (p : Position) (x z : ℕ) : Type 0 where
  pub grows : x < z
  pub no_hit : (q : Position) → Hit s g w p q → q.y ≡ p.y → s.st.tx0 ≤ x → x < q.x → z ≤ q.x

-- nexts that pass over no hit
pub record PassesNoHit (s : Sheet) (g : Range) (nx ny : Position → ℕ → ℕ) (w : For) : Type 0 where
  pub next_row : (p : Position) → Within (outer_loops g w) p → (y : ℕ) → NextRow s g w p y (ny p y)
  pub next_column : (p : Position) → Within (outer_loops g w) p → (x : ℕ) → NextColumn s g w p x (nx p x)

-- the position p at the point (x, y)
abbrev point : ℕ → ℕ → Position → Position
point x y p = record { layno = p.layno; resno = p.resno; compno = p.compno; precno = p.precno; x = x; y = y }

module _ (s : Sheet) (g : Range) where
  -- where nothing is met, nothing is listed
  unmet : (q : Position) → met s q ≡ false → nest (packet_loops s g) q ≡ []
  unfolding nest gather
  unmet q e = rw (e, axis_end (λ n. n + 1) (number_at s q) (number_at s q) (omega arith))

  -- where the loops outside stand is within their ranges
  pub outer_within : (w : For) (p q : Position) → In q (nest (outer_loops g w) p) → Within (outer_loops g w) q
  outer_within one_resolution p q = nest-within (outer_loops g one_resolution) (search (refl, up_grows) depth 24) (search refl depth 24) p
  outer_within one_component p q = nest-within (outer_loops g one_component) (search (refl, up_grows) depth 24) (search refl depth 24) p
  outer_within everything p q = nest-within (outer_loops g everything) tt tt p

  -- the point, and what else the loops inside leave alone
  kept : (w : For) (f : Position → ℕ) (p q : Position) → Kept f (inner_loops g w) → Kept (λ r. r.x) (inner_loops g w) → Kept (λ r. r.y) (inner_loops g w)
      → In q (nest (inner_loops g w) p) → (f q ≡ f p) × (q.x ≡ p.x) × (q.y ≡ p.y)
  kept w f p q k kx ky h = (nest-kept f (inner_loops g w) k p h, nest-kept (λ r. r.x) (inner_loops g w) kx p h, nest-kept (λ r. r.y) (inner_loops g w) ky p h)

  -- what the loops inside go through at a point
  inner-spot : (w : For) (p q : Position) → In q (nest (inner_loops g w) p) → s.st.tx0 ≤ p.x → p.x < s.st.tx1 → s.st.ty0 ≤ p.y → p.y < s.st.ty1
      → Spot s (range_at g w p.compno p.resno) q × (q.x ≡ p.x) × (q.y ≡ p.y)
  inner-spot one_resolution p q h a b c d =
      let n = nest-within (inner_loops g one_resolution) (search (refl, up_grows) depth 24) (search refl depth 24) p h in
      let k = kept one_resolution (λ r. r.resno) p q (search refl) (search refl) (search refl) h in
      search arith
  inner-spot one_component p q h a b c d =
      let n = nest-within (inner_loops g one_component) (search (refl, up_grows) depth 24) (search refl depth 24) p h in
      let k = kept one_component (λ r. r.compno) p q (search refl) (search refl) (search refl) h in
      search arith
  inner-spot everything p q h a b c d =
      let n = nest-within (inner_loops g everything) (search (refl, up_grows) depth 24) (search refl depth 24) p h in
      let k = kept everything (λ r. r.x) p q (search refl) (search refl) (search refl) h in
      search arith

  -- a point at which nothing is met lists nothing
  blank : (w : For) (p : Position) → s.st.tx0 ≤ p.x → p.x < s.st.tx1 → s.st.ty0 ≤ p.y → p.y < s.st.ty1
      → ((q : Position) → Spot s (range_at g w p.compno p.resno) q → q.x ≡ p.x → q.y ≡ p.y → met s q ≡ true → ⊥) → nest (inner_loops g w ++ packet_loops s g) p ≡ []
  blank w p a b c d none =
      nest_none (inner_loops g w) (packet_loops s g) p
      (λ q h.
      let i = inner-spot w p q h a b c d in
      unmet q (split (met s q) (λ e. absurd (none q i.0 i.1 i.2 e)) (λ e. e)))

  -- the loops outside do not look at the row
  pub row-free : (w : For) (p : Position) (y : ℕ) → Within (outer_loops g w) p → Within (outer_loops g w) ((rows s).put y p)
  row-free one_resolution p y i = i
  row-free one_component p y i = i
  row-free everything p y i = i

  module _ (w : For) (p : Position) (i : Within (outer_loops g w) p) where
    -- a row that is passed over lists nothing
    pub row-passed : (y z : ℕ) → s.st.ty0 ≤ y → NextRow s g w p y z → (k : ℕ) → y < k → k < z → k < s.st.ty1
        → nest (columns s ∷ (inner_loops g w ++ packet_loops s g)) ((rows s).put k p) ≡ []
    unfolding nest
    row-passed y z a n k b c d =
        gather_none (λ x. nest (inner_loops g w ++ packet_loops s g) (point x k p)) (turns (columns s) ((rows s).put k p))
        (λ x t.
        let e = turn-bounds (columns s) ((rows s).put k p) up_grows x t in
        blank w (point x k p) e.0 e.1 (omega arith) d
        (λ q spot ex ey m. omega (arith, n.no_hit q (record { stands = i; spot = spot; is_met = m }) a (omega arith))))

    -- a point of a row that is passed over lists nothing
    pub column_passed : s.st.ty0 ≤ p.y → p.y < s.st.ty1 → (x z : ℕ) → s.st.tx0 ≤ x → NextColumn s g w p x z → (k : ℕ) → x < k → k < z → k < s.st.tx1
        → nest (inner_loops g w ++ packet_loops s g) ((columns s).put k p) ≡ []
    column_passed e f x z a n k b c d =
        blank w ((columns s).put k p) (omega arith) d e f
        (λ q spot ex ey m. omega (arith, n.no_hit q (record { stands = i; spot = spot; is_met = m }) ey a (omega arith)))

  -- THE THEOREM, for the nest around rows and columns
  framed : (nx ny : Position → ℕ → ℕ) (w : For) → PassesNoHit s g nx ny w → nest (point_loops s g nx ny w) origin ≡ nest (point_loops s g (λ p. up) (λ p. up) w) origin
  framed nx ny w k =
      let rest : List (Loop Position) = inner_loops g w ++ packet_loops s g in
      sym
      (nest-inside (outer_loops g w) (rows s ∷ columns s ∷ rest) (with_next ny (rows s) ∷ with_next nx (columns s) ∷ rest) origin
      (λ p h.
      let i = outer_within w origin p h in
      let grows : (y : ℕ) → y < ny p y = λ y. (k.next_row p i y).grows in
      nest-stride (rows s) (columns s ∷ rest) ny p (λ y. refl) grows (λ y z a. row-passed w p i y (ny p y) a (k.next_row p i y) z)
      ∙ nest-inner (with_next ny (rows s)) (columns s ∷ rest) (with_next nx (columns s) ∷ rest) p
      (λ y t.
      let e = turn-bounds (with_next ny (rows s)) p grows y t in
      let q : Position = (rows s).put y p in
      let j = row-free w p y i in
      nest-stride (columns s) rest nx q (λ x. refl) (λ x. (k.next_column q j x).grows)
      (λ x z a. column_passed w q j e.0 e.1 x (nx q x) a (k.next_column q j x) z))))

  -- THEOREM 2. Nexts that pass over no hit list what the loops over every point list
  pub strided_positions : (nx ny : Position → ℕ → ℕ) (o : Order) → PassesNoHit s g nx ny (points_for o) → nest (strided s g nx ny o) origin ≡ nest (loops_of s g o) origin
  strided_positions nx ny lrcp k = refl
  strided_positions nx ny rlcp k = refl
  strided_positions nx ny rpcl k = framed nx ny one_resolution k
  strided_positions nx ny pcrl k = framed nx ny everything k
  strided_positions nx ny cprl k = framed nx ny one_component k
  strided_positions nx ny other k = refl

  -- so the positions of a progression are what the strided loops list, if it has any
  pub strided-listed : (nx ny : Position → ℕ → ℕ) (o : Order) → (has_positions s g o ≡ true → nest (strided s g nx ny o) origin ≡ nest (loops_of s g o) origin)
      → cond (has_positions s g o) (nest (strided s g nx ny o) origin) [] ≡ positions_in s g o
  unfolding positions_in
  strided-listed nx ny o h = by (has_positions s g o) h
    where
      by : (t : Bool) → (t ≡ true → nest (strided s g nx ny o) origin ≡ nest (loops_of s g o) origin)
          → cond t (nest (strided s g nx ny o) origin) [] ≡ cond t (nest (loops_of s g o) origin) []
      by true e = e refl
      by false e = refl
