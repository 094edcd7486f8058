-- Orders by number, and the ranges of a progression (01, 'Ranges and orders').
use Rattle.std.specs.Prelude.{zero, suc, min, Bool, true, false, cond, ◌&&◌, ltb, leb, eqb, ℤ, pos, negsuc}
use Rattle.types.specs.declared.state.Progression.{Progression}
use Rattle.types.specs.declared.state.State.{State}
use Rattle.types.specs.declared.order.Order.{Order}
use Rattle.types.specs.declared.order.Order.TheVariants.{Lrcp as lrcp, Rlcp as rlcp, Rpcl as rpcl, Pcrl as pcrl, Cprl as cprl, NoPositions as other}
use Rattle.types.specs.declared.order.Range.{Range}

-- AN ORDER is one of the five of T.800 B.12.1, or `other`, which has no positions. A RANGE has the ends of the loops, which are not included; layers start at 0.
-- 01: order 0 is LRCP, 1 RLCP, 2 RPCL, 3 PCRL, 4 CPRL
abbrev pub order_of : ℤ → Order
order_of (pos zero) = lrcp
order_of (pos (suc zero)) = rlcp
order_of (pos (suc (suc zero))) = rpcl
order_of (pos (suc (suc (suc zero)))) = pcrl
order_of (pos (suc (suc (suc (suc zero))))) = cprl
order_of (pos (suc (suc (suc (suc (suc n)))))) = other
order_of (negsuc n) = other

-- orders 2 to 4 go from point to point of the tile
abbrev pub by_points : Order → Bool
by_points lrcp = false
by_points rlcp = false
by_points rpcl = true
by_points pcrl = true
by_points cprl = true
by_points other = false

-- 01: kind 5 sets everything: all layers, all components, resolutions up to the largest
abbrev pub whole_tile : State → Range
whole_tile st = record { layno1 = st.layers; resno0 = 0; resno1 = st.reports.max_res; compno0 = 0; compno1 = st.components }

-- 01: kind 4 sets layers 0 to min(layno1, layers); 02, P6: so does kind 6
abbrev pub volume : State → Progression → Range
volume st q =
    record { layno1 = min q.layno1 st.layers; resno0 = q.resno0; resno1 = q.resno1; compno0 = q.compno0; compno1 = q.compno1 }

unfoldable pub range_of : State → Progression → Range
range_of st q = cond (eqb q.kind 5) (whole_tile st) (volume st q)

-- 01: a progression with compno0 ≥ components or compno1 > components has no positions
abbrev pub components_good : State → Range → Bool
components_good st g = ltb g.compno0 st.components && leb g.compno1 st.components
