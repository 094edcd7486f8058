-- The strides of a progression whose grid is agreed: 01's smallest step, and for kind 6 the greatest common divisor of the steps (02, P6).
use Rattle.std.specs.Prelude.{Bool, true, cond, ℕ, eqb}
use Rattle.laws.specs.Stride.{stride}
use Rattle.packets.specs.Tile.{Sheet}
use Rattle.packets.specs.Grid.{step_x, step_y, smallest, smallest_of, common, common_of, steps_divide}
use Rattle.packets.specs.Strided.{For, one_resolution, one_component, everything}
use Rattle.types.specs.declared.state.State.{State}
use Rattle.types.specs.declared.cursor.Position.{Position}

-- THE STRIDES of a progression on one axis, where the loops around rows and columns stand at p. 01: the smallest step over all components, or for CPRL over the
-- one component
abbrev pub smallest_step : (ℕ → ℕ → ℕ) → State → For → Position → ℕ
smallest_step f st one_resolution p = smallest f st
smallest_step f st one_component p = smallest_of f st p.compno
smallest_step f st everything p = smallest f st

-- 02, P6: the greatest common divisor of the same steps
abbrev pub common_step : (ℕ → ℕ → ℕ) → State → For → Position → ℕ
common_step f st one_resolution p = common f st
common_step f st one_component p = common_of f st p.compno
common_step f st everything p = common f st

-- 02, P6: kind 6 strides by the one in place of the other
abbrev pub stride_step : ℕ → (ℕ → ℕ → ℕ) → State → For → Position → ℕ
stride_step kind f st w p = cond (eqb kind 6) (common_step f st w p) (smallest_step f st w p)

-- 01: next x is x + (step - x mod step)
abbrev pub stride_x : Sheet → ℕ → For → Position → ℕ → ℕ
stride_x s kind w p = stride (stride_step kind (step_x s) s.st w p)

abbrev pub stride_y : Sheet → ℕ → For → Position → ℕ → ℕ
stride_y s kind w p = stride (stride_step kind (step_y s) s.st w p)

-- 01, 'Agreed grid': the smallest divides all, which is not asked of CPRL
abbrev pub divided : Sheet → For → Bool
divided s one_resolution = steps_divide s
divided s one_component = true
divided s everything = steps_divide s
