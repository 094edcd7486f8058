-- The corner of a precinct on an axis, an axis with samples, and an axis of a tile.
use Rattle.std.specs.Prelude.{ℕ, ◌*◌, ◌<◌, ◌≤◌, max}
use Rattle.geometry.specs.Line.{Line, low, high, step}

-- where the precinct k starts
abbrev pub corner_of : Line → ℕ → ℕ
corner_of s k = max s.t0 (k * step s)

-- an axis with samples
pub record Proper (s : Line) : Type 0 where
  pub positive : 1 ≤ s.d
  pub apart : low s < high s

-- an axis of a tile, with samples or none
pub record Ordered (s : Line) : Type 0 where
  pub positive : 1 ≤ s.d
  pub upward : s.t0 ≤ s.t1
