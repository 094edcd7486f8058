-- What the theorems ask of a sheet, which every accepted sheet and every sound state has. Assumes nothing.
use Rattle.std.specs.Prelude.{◌≡◌, ℕ, ◌≤◌, ◌<◌}
use Rattle.packets.specs.Tile.{Sheet, dx_of, dy_of, max_prec, max_res}

pub record Good (s : Sheet) : Type 0 where
  pub upward_x : s.st.tx0 ≤ s.st.tx1
  pub upward_y : s.st.ty0 ≤ s.st.ty1
  pub step_x_lem : (c : ℕ) → c < s.st.components → 1 ≤ dx_of s.st c
  pub step_y_lem : (c : ℕ) → c < s.st.components → 1 ≤ dy_of s.st c
  pub most : s.st.reports.max_prec ≡ max_prec s
  pub deepest : s.st.reports.max_res ≡ max_res s.st
