-- The positions of a progression: the standard's plain loops (T.800 B.12.1) within 01's ranges, testing every grid point of the tile in orders 2 to 4.
use Rattle.std.specs.Prelude.{ℕ, ◌+◌, ◌*◌, Bool, false, cond, ◌&&◌, List, [], ◌∷◌, ltb}
use Rattle.laws.specs.Axis.{up}
use Rattle.laws.specs.Nest.{Loop, nest}
use Rattle.geometry.specs.Line.{hit_at, column_of}
use Rattle.types.specs.State.{origin}
use Rattle.packets.specs.Tile.{Sheet, line_x, line_y, width, precincts}
use Rattle.types.specs.Orders.{order_of, range_of, components_good}
use Rattle.types.specs.declared.order.Order.{Order}
use Rattle.types.specs.declared.order.Order.TheVariants.{Lrcp as lrcp, Rlcp as rlcp, Rpcl as rpcl, Pcrl as pcrl, Cprl as cprl, NoPositions as other}
use Rattle.types.specs.declared.order.Range.{Range}
use Rattle.types.specs.declared.state.Progression.{Progression}
use Rattle.types.specs.declared.cursor.Position.{Position}

-- 01: a precinct is met at a point that passes the test on each axis, of a resolution that the component has and that has precincts
unfoldable pub met : Sheet → Position → Bool
met s p =
    ltb 0 (precincts s p.compno p.resno)
    && (hit_at (line_y s p.compno p.resno) p.y && hit_at (line_x s p.compno p.resno) p.x)

-- 01: its number is column + row·width
unfoldable pub number_at : Sheet → Position → ℕ
number_at s p = column_of (line_x s p.compno p.resno) p.x + column_of (line_y s p.compno p.resno) p.y * width s p.compno p.resno

-- THE LOOPS. Each sets one number of a position and goes up by one.
-- l = 0 .. layers of the range
abbrev pub layers : Range → Loop Position
layers g =
    record {
      get = λ p. p.layno;
      put = λ i p. record { layno = i; resno = p.resno; compno = p.compno; precno = p.precno; x = p.x; y = p.y };
      from = λ p. 0;
      to = λ p. g.layno1;
      next = λ p. up;
    }

-- r = resno0 .. resno1
abbrev pub resolutions : Range → Loop Position
resolutions g =
    record {
      get = λ p. p.resno;
      put = λ i p. record { layno = p.layno; resno = i; compno = p.compno; precno = p.precno; x = p.x; y = p.y };
      from = λ p. g.resno0;
      to = λ p. g.resno1;
      next = λ p. up;
    }

-- i = compno0 .. compno1
abbrev pub components : Range → Loop Position
components g =
    record {
      get = λ p. p.compno;
      put = λ i p. record { layno = p.layno; resno = p.resno; compno = i; precno = p.precno; x = p.x; y = p.y };
      from = λ p. g.compno0;
      to = λ p. g.compno1;
      next = λ p. up;
    }

-- y = ty0 .. ty1
abbrev pub rows : Sheet → Loop Position
rows s =
    record {
      get = λ p. p.y;
      put = λ i p. record { layno = p.layno; resno = p.resno; compno = p.compno; precno = p.precno; x = p.x; y = i };
      from = λ p. s.st.ty0;
      to = λ p. s.st.ty1;
      next = λ p. up;
    }

-- x = tx0 .. tx1
abbrev pub columns : Sheet → Loop Position
columns s =
    record {
      get = λ p. p.x;
      put = λ i p. record { layno = p.layno; resno = p.resno; compno = p.compno; precno = p.precno; x = i; y = p.y };
      from = λ p. s.st.tx0;
      to = λ p. s.st.tx1;
      next = λ p. up;
    }

-- k, from one number up to another
abbrev pub precincts_from : (Position → ℕ) → (Position → ℕ) → Loop Position
precincts_from a b =
    record {
      get = λ p. p.precno;
      put = λ i p. record { layno = p.layno; resno = p.resno; compno = p.compno; precno = i; x = p.x; y = p.y };
      from = a;
      to = b;
      next = λ p. up;
    }

-- k = 0 .. numprecincts
abbrev pub every_precinct : Sheet → Loop Position
every_precinct s = precincts_from (λ p. 0) (λ p. precincts s p.compno p.resno)

-- the precinct that is met at the point, if one is
abbrev pub the_precinct : Sheet → Loop Position
the_precinct s = precincts_from (number_at s) (λ p. cond (met s p) (number_at s p + 1) (number_at s p))

-- T.800 B.12.1.1 to B.12.1.5: the loops of an order, outermost first
abbrev pub loops_of : Sheet → Range → Order → List (Loop Position)
loops_of s g lrcp = layers g ∷ resolutions g ∷ components g ∷ every_precinct s ∷ []
loops_of s g rlcp = resolutions g ∷ layers g ∷ components g ∷ every_precinct s ∷ []
loops_of s g rpcl = resolutions g ∷ rows s ∷ columns s ∷ components g ∷ the_precinct s ∷ layers g ∷ []
loops_of s g pcrl = rows s ∷ columns s ∷ components g ∷ resolutions g ∷ the_precinct s ∷ layers g ∷ []
loops_of s g cprl = components g ∷ rows s ∷ columns s ∷ resolutions g ∷ the_precinct s ∷ layers g ∷ []
loops_of s g other = []

-- 01: any other prg has no positions, and so has a progression whose component range is not good
abbrev pub has_positions : Sheet → Range → Order → Bool
has_positions s g lrcp = components_good s.st g
has_positions s g rlcp = components_good s.st g
has_positions s g rpcl = components_good s.st g
has_positions s g pcrl = components_good s.st g
has_positions s g cprl = components_good s.st g
has_positions s g other = false

-- the positions of a progression, in order
unfoldable pub positions_in : Sheet → Range → Order → List Position
positions_in s g o = let l = nest (loops_of s g o) origin in cond (has_positions s g o) l []

abbrev pub positions_of : Sheet → Progression → List Position
positions_of s q = positions_in s (range_of s.st q) (order_of q.prg)
