-- T.800's own loops (B.12.1.1 to B.12.1.5), which do not compute the precinct of a point but count: 'for the next precinct, k, if one exists'.
-- That they list the same packets as 01's formula is the theorem of Counts.antt.
use Rattle.std.specs.Prelude.{ℕ, Bool, cond, ◌&&◌, List, [], ◌∷◌, ltb, eqb}
use Rattle.laws.specs.Gather.{gather}
use Rattle.laws.specs.Counter.{tallied}
use Rattle.laws.specs.Nest.{Loop, nest}
use Rattle.geometry.specs.Line.{hit_at}
use Rattle.types.specs.State.{origin}
use Rattle.packets.specs.Tile.{Sheet, res_of, line_x, line_y, precincts}
use Rattle.types.specs.declared.order.Order.{Order}
use Rattle.types.specs.declared.order.Order.TheVariants.{Lrcp as lrcp, Rlcp as rlcp, Rpcl as rpcl, Pcrl as pcrl, Cprl as cprl, NoPositions as other}
use Rattle.types.specs.declared.order.Range.{Range}
use Rattle.packets.specs.Positions.{layers, resolutions, components, rows, columns, every_precinct, has_positions}
use Rattle.types.specs.declared.cursor.Position.{Position}

-- the point test of B.12.1.3 to B.12.1.5, both lines needed; a resolution that the component has not got is passed over
unfoldable pub tested : Sheet → Position → Bool
tested s p =
    ltb p.resno (res_of s.st p.compno)
    && (hit_at (line_y s p.compno p.resno) p.y && hit_at (line_x s p.compno p.resno) p.x)

-- there is a counter for each component and resolution, (i, r)
abbrev pub own_counter : Position → ℕ × ℕ
own_counter p = (p.compno, p.resno)

abbrev pub same_counter : ℕ × ℕ → ℕ × ℕ → Bool
same_counter a b = eqb a.0 b.0 && eqb a.1 b.1

-- 'for the next precinct, k, if one exists': the visits that take one, each with its k. The counters start at 0 and end at numprecincts
unfoldable pub next_precincts : Sheet → List Position → List (Position × ℕ)
next_precincts s = tallied same_counter own_counter (tested s) (λ (c : ℕ × ℕ). precincts s c.0 c.1) (λ c. 0)

-- 'for each l = 0, .., L - 1', packet for component i, resolution r, layer l and precinct k
abbrev pub layers_of : Range → Position × ℕ → List Position
layers_of g v =
    let (p, k) = v in
    nest (layers g ∷ []) (record { layno = p.layno; resno = p.resno; compno = p.compno; precno = k; x = p.x; y = p.y })

-- the loops around the point test; then, at each visit, the test, the next precinct if one exists, and its layers
abbrev pub counting : Sheet → Range → List (Loop Position) → List Position
counting s g loops = gather (layers_of g) (next_precincts s (nest loops origin))

-- the table of T.800 B.12.1, order by order, within 01's ranges
abbrev pub standard_loops : Sheet → Range → Order → List Position
standard_loops s g lrcp = nest (layers g ∷ resolutions g ∷ components g ∷ every_precinct s ∷ []) origin
standard_loops s g rlcp = nest (resolutions g ∷ layers g ∷ components g ∷ every_precinct s ∷ []) origin
standard_loops s g rpcl = counting s g (resolutions g ∷ rows s ∷ columns s ∷ components g ∷ [])
standard_loops s g pcrl = counting s g (rows s ∷ columns s ∷ components g ∷ resolutions g ∷ [])
standard_loops s g cprl = counting s g (components g ∷ rows s ∷ columns s ∷ resolutions g ∷ [])
standard_loops s g other = []

-- the packets of a progression, in order; 01: none where the component range is not good
unfoldable pub standard_in : Sheet → Range → Order → List Position
standard_in s g o = let l = standard_loops s g o in cond (has_positions s g o) l []
