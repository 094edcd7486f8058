-- The stride of a progression whose grid is agreed: 01's smallest step, and for kind 6 the greatest common divisor of the steps (02, P6). Either divides all the
-- steps, and so lists the positions (AnyStride). Assumes nothing.
use Rattle.std.specs.Prelude.{◌≡◌, refl, [], Bool, true, false, cond, ◌||◌, ℕ, ◌+◌, ◌*◌, ◌%◌, ◌^◌, ◌≤◌, ◌<◌, eqb}
use Rattle.std.specs.Int.{◌∣◌}
use Rattle.std.proofs.Common.{mul-pos, arith, pow_pos, eqb-true}
use Rattle.std.proofs.Math.Nat.{dvd_trans, pos_of_dvd_of_pos, mod-eq-zero_of_dvd}
use Rattle.laws.specs.Cases.{and_true, or_true}
use Rattle.laws.specs.Below.{min_below, all-at, min-at}
use Rattle.laws.specs.Least.{min-has, min-below}
use Rattle.laws.specs.Extremes.{shifted_multiple}
use Rattle.laws.specs.Divisors.{common-start, common-at}
use Rattle.laws.specs.Nest.{nest}
use Rattle.types.specs.State.{origin}
use Rattle.packets.specs.Tile.{Sheet, dx_of, dy_of, level_of, res_of}
use Rattle.types.specs.Orders.{components_good}
use Rattle.types.specs.declared.order.Order.{Order}
use Rattle.types.specs.declared.order.Order.TheVariants.{Lrcp as lrcp, Rlcp as rlcp, Rpcl as rpcl, Pcrl as pcrl, Cprl as cprl, NoPositions as other}
use Rattle.types.specs.declared.order.Range.{Range}
use Rattle.packets.specs.Grid.{step_x, step_y, smallest, smallest_of, common, common_of, steps_fit, steps_divide, agreed}
use Rattle.packets.specs.Positions.{loops_of, has_positions, positions_in}
use Rattle.packets.specs.Good.{Good}
use Rattle.packets.specs.Strided.{For, one_resolution, one_component, everything, points_for, strided, strided-listed}
use Rattle.packets.specs.AnyStride.{DividesAll}
use Rattle.packets.proofs.AnyStride.{any_stride}
use Rattle.packets.specs.Inside.{has-good}
use Rattle.packets.specs.AgreedStride.{smallest_step, common_step, stride_step, stride_x, stride_y, divided}

-- THE SMALLEST of some multiples of d by powers of two divides each
doubled_least : (d : ℕ) (e : ℕ → ℕ) (n i : ℕ) → 1 ≤ d → i < n → d * 2 ^ e i % min_below (d * 2 ^ e 0) (λ r. d * 2 ^ e r) n ≡ 0
doubled_least d e n i p h =
    let f : ℕ → ℕ = λ r. d * 2 ^ e r in
    let k = min-has (f 0) f (λ m. (k : ℕ) × (m ≡ d * 2 ^ k)) (e 0, refl) n (λ r l. (e r, refl)) in
    let l : d * 2 ^ k.0 ≤ d * 2 ^ e i = rw k.1 at (min-at (f 0) f n i h) in
    rw k.1 (shifted_multiple d k.0 (e i) p l)

-- the steps on one axis: they are positive, the smallest of a component divides the component's, and on an agreed grid the smallest of all divides all
record Steps (s : Sheet) (f : ℕ → ℕ → ℕ) : Type 0 where
  positive : (c r : ℕ) → c < s.st.components → 1 ≤ f c r
  own : (c r : ℕ) → c < s.st.components → r < res_of s.st c → f c r % smallest_of f s.st c ≡ 0
  all : steps_divide s ≡ true → (c r : ℕ) → c < s.st.components → r < res_of s.st c → f c r % smallest f s.st ≡ 0

-- what the test of the grid says
all_divide : (s : Sheet) → steps_divide s ≡ true → (c r : ℕ) → c < s.st.components → r < res_of s.st c
    → (step_x s c r % smallest (step_x s) s.st ≡ 0) × (step_y s c r % smallest (step_y s) s.st ≡ 0)
unfolding steps_divide
all_divide s e c r i j =
    let t = and_true _ _ (all-at _ (res_of s.st c) (all-at _ s.st.components e c i) r j) in
    (eqb-true _ 0 t.0, eqb-true _ 0 t.1)

module _ (s : Sheet) (h : Good s) where
  -- so they are on both axes of a good sheet
  steps_x : Steps s (step_x s)
  steps_x =
      record {
        positive = λ c r i. mul-pos (h.step_x_lem c i) (pow_pos (s.pdx c r + level_of s.st c r));
        own = λ c r i. doubled_least (dx_of s.st c) (λ r. s.pdx c r + level_of s.st c r) (res_of s.st c) r (h.step_x_lem c i);
        all = λ e c r i j. (all_divide s e c r i j).0;
      }

  steps_y : Steps s (step_y s)
  steps_y =
      record {
        positive = λ c r i. mul-pos (h.step_y_lem c i) (pow_pos (s.pdy c r + level_of s.st c r));
        own = λ c r i. doubled_least (dy_of s.st c) (λ r. s.pdy c r + level_of s.st c r) (res_of s.st c) r (h.step_y_lem c i);
        all = λ e c r i j. (all_divide s e c r i j).1;
      }

module _ (s : Sheet) (f : ℕ → ℕ → ℕ) (h : Steps s f) where
  -- smallest steps are positive
  own_pos : (c : ℕ) → c < s.st.components → 1 ≤ smallest_of f s.st c
  own_pos c i = min-below (f c 0) (f c) 0 (res_of s.st c) (h.positive c 0 i) (λ r k. h.positive c r i)

  all_pos : (c : ℕ) → c < s.st.components → 1 ≤ smallest f s.st
  all_pos c i = min-below (f 0 0) (smallest_of f s.st) 0 s.st.components (h.positive 0 0 (omega arith)) own_pos

  -- on an agreed grid 01's step is a stride that divides all the steps
  smallest_divides : (w : For) → divided s w ≡ true → DividesAll s w f (smallest_step f s.st w)
  smallest_divides one_resolution d = record { positive = λ p. all_pos; divides = λ p c r. h.all d c r }
  smallest_divides one_component d =
      record {
        positive = λ p c k. rw (← k.0) (own_pos c k.1);
        divides = λ p c r k. rw (← k.0) (h.own c r k.1);
      }
  smallest_divides everything d = record { positive = λ p. all_pos; divides = λ p c r. h.all d c r }

  -- THE GREATEST COMMON DIVISOR is one on any grid
  own-common : (c r : ℕ) → r < res_of s.st c → common_of f s.st c ∣ f c r
  own-common c r k = common-at (f c 0) (f c) (res_of s.st c) r k

  all-common : (c r : ℕ) → c < s.st.components → r < res_of s.st c → common f s.st ∣ f c r
  all-common c r i k = dvd_trans _ (common-at (f 0 0) (common_of f s.st) s.st.components c i) (own-common c r k)

  own_common_pos : (c : ℕ) → c < s.st.components → 1 ≤ common_of f s.st c
  own_common_pos c i = pos_of_dvd_of_pos (common-start (f c 0) (f c) (res_of s.st c)) (h.positive c 0 i)

  all_common_pos : (c : ℕ) → c < s.st.components → 1 ≤ common f s.st
  all_common_pos c i = pos_of_dvd_of_pos (common-start (f 0 0) (common_of f s.st) s.st.components) (h.positive 0 0 (omega arith))

  common_divides : (w : For) → DividesAll s w f (common_step f s.st w)
  common_divides one_resolution = record { positive = λ p. all_common_pos; divides = λ p c r i k. mod-eq-zero_of_dvd _ (all-common c r i k) }
  common_divides one_component =
      record {
        positive = λ p c k. rw (← k.0) (own_common_pos c k.1);
        divides = λ p c r k l. rw (← k.0) (mod-eq-zero_of_dvd _ (own-common c r l));
      }
  common_divides everything = record { positive = λ p. all_common_pos; divides = λ p c r i k. mod-eq-zero_of_dvd _ (all-common c r i k) }

  -- so the stride of a progression is, of either kind
  stride_divides : (kind : ℕ) (w : For) → (eqb kind 6 || divided s w) ≡ true → DividesAll s w f (stride_step kind f s.st w)
  stride_divides kind w e = by (eqb kind 6) e
    where
      by : (t : Bool) → (t || divided s w) ≡ true → DividesAll s w f (λ p. cond t (common_step f s.st w p) (smallest_step f s.st w p))
      by true e = common_divides w
      by false e = smallest_divides w e

module _ (s : Sheet) (h : Good s) (g : Range) (good : components_good s.st g ≡ true) (kind : ℕ) where
  agreed-lists : (o : Order) → (eqb kind 6 || divided s (points_for o)) ≡ true
      → nest (strided s g (stride_x s kind (points_for o)) (stride_y s kind (points_for o)) o) origin ≡ nest (loops_of s g o) origin
  agreed-lists o e =
      any_stride s g good o (stride_step kind (step_x s) s.st (points_for o)) (stride_step kind (step_y s) s.st (points_for o))
      (stride_divides s (step_x s) (steps_x s h) kind (points_for o) e)
      (stride_divides s (step_y s) (steps_y s h) kind (points_for o) e)

  -- and lists what the loops over every point list
  pub stride-agreed : (o : Order) → agreed s kind g o ≡ true
      → nest (strided s g (stride_x s kind (points_for o)) (stride_y s kind (points_for o)) o) origin ≡ nest (loops_of s g o) origin
  stride-agreed lrcp e = refl
  stride-agreed rlcp e = refl
  stride-agreed rpcl e = agreed-lists rpcl (and_true (steps_fit s 0 s.st.components) (eqb kind 6 || steps_divide s) e).1
  stride-agreed pcrl e = agreed-lists pcrl (and_true (steps_fit s 0 s.st.components) (eqb kind 6 || steps_divide s) e).1
  stride-agreed cprl e = agreed-lists cprl (or_true (eqb kind 6))
  stride-agreed other e = refl

-- so the positions of any progression, if it has any
pub stride-listed : (s : Sheet) → Good s → (kind : ℕ) (g : Range) (o : Order) → agreed s kind g o ≡ true
    → cond (has_positions s g o) (nest (strided s g (stride_x s kind (points_for o)) (stride_y s kind (points_for o)) o) origin) [] ≡ positions_in s g o
stride-listed s h kind g o e =
    strided-listed s g (stride_x s kind (points_for o)) (stride_y s kind (points_for o)) o (λ k. stride-agreed s h g (has-good s g o k) kind o e)
