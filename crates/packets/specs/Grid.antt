-- The agreed grid (01, 'Agreed grid', as 02, P5 and P6 have it; refusal -4), and the strides of a progression.
use Rattle.std.specs.Prelude.{ℕ, ◌+◌, ◌-◌, ◌%◌, Bool, true, ◌&&◌, ◌||◌, not, get_or, leb, eqb}
use Rattle.laws.specs.Below.{all_below, min_below}
use Rattle.laws.specs.Divisors.{gcd_below}
use Rattle.geometry.specs.Line.{step}
use Rattle.types.specs.State.{no_progression}
use Rattle.packets.specs.Tile.{Sheet, line_x, line_y, res_of}
use Rattle.types.specs.Orders.{order_of, range_of, components_good}
use Rattle.types.specs.declared.order.Order.{Order}
use Rattle.types.specs.declared.order.Order.TheVariants.{Lrcp as lrcp, Rlcp as rlcp, Rpcl as rpcl, Pcrl as pcrl, Cprl as cprl, NoPositions as other}
use Rattle.types.specs.declared.order.Range.{Range}
use Rattle.types.specs.declared.state.Progression.{Progression}
use Rattle.types.specs.declared.state.State.{State}

-- a test of every resolution of every component
abbrev pub everywhere : State → (ℕ → ℕ → Bool) → Bool
everywhere st f = all_below (λ c. all_below (f c) (res_of st c)) st.components

-- of every resolution of the components from c0 up to c1
abbrev pub between : State → ℕ → ℕ → (ℕ → ℕ → Bool) → Bool
between st c0 c1 f = all_below (λ i. all_below (f (c0 + i)) (res_of st (c0 + i))) (c1 - c0)

-- 01: d·2^(pd+level), on each axis
abbrev pub step_x : Sheet → ℕ → ℕ → ℕ
step_x s c r = step (line_x s c r)

abbrev pub step_y : Sheet → ℕ → ℕ → ℕ
step_y s c r = step (line_y s c r)

-- the smallest of one component, and of all: 01, 'Step is the smallest, over all components for orders 2 and 3, over the one component for 4'
abbrev pub smallest_of : (ℕ → ℕ → ℕ) → State → ℕ → ℕ
smallest_of f st c = min_below (f c 0) (f c) (res_of st c)

abbrev pub smallest : (ℕ → ℕ → ℕ) → State → ℕ
smallest f st = min_below (f 0 0) (smallest_of f st) st.components

-- the greatest common divisor of one component's, and of all: 02, P6, the stride of kind 6, in place of the smallest
abbrev pub common_of : (ℕ → ℕ → ℕ) → State → ℕ → ℕ
common_of f st c = gcd_below (f c 0) (f c) (res_of st c)

abbrev pub common : (ℕ → ℕ → ℕ) → State → ℕ
common f st = gcd_below (f 0 0) (common_of f st) st.components

-- 01: every step is at most 4,294,967,295; here of the components from c0 up to c1
unfoldable pub steps_fit : Sheet → ℕ → ℕ → Bool
steps_fit s c0 c1 = between s.st c0 c1 (λ c r. leb (step_x s c r) 4294967295 && leb (step_y s c r) 4294967295)

-- 01: for orders 2 and 3 the step also divides all of them, on each axis
unfoldable pub steps_divide : Sheet → Bool
steps_divide s =
    everywhere s.st (λ c r. eqb (step_x s c r % smallest (step_x s) s.st) 0 && eqb (step_y s c r % smallest (step_y s) s.st) 0)

-- 01: orders 2 and 3 ask it of every component. 02, P5: order 4 asks it of those from compno0 up to compno1, and of none if the progression has no positions
-- for its component range. P6: of kind 6 it is not asked that the smallest divides. 01: other orders are not tested
abbrev pub agreed : Sheet → ℕ → Range → Order → Bool
agreed s kind g lrcp = true
agreed s kind g rlcp = true
agreed s kind g rpcl = steps_fit s 0 s.st.components && (eqb kind 6 || steps_divide s)
agreed s kind g pcrl = steps_fit s 0 s.st.components && (eqb kind 6 || steps_divide s)
agreed s kind g cprl = not (components_good s.st g) || steps_fit s g.compno0 g.compno1
agreed s kind g other = true

abbrev pub agreed_for : Sheet → Progression → Bool
agreed_for s q = agreed s q.kind (range_of s.st q) (order_of q.prg)

-- progression k
abbrev pub change_of : State → ℕ → Progression
change_of st k = get_or st.changes k no_progression

-- the grid is agreed for every progression
unfoldable pub grid_agreed : Sheet → Bool
grid_agreed s = all_below (λ k. agreed_for s (change_of s.st k)) s.st.progressions
