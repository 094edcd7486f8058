-- The two axes of a tile together: the points of the tile row by row, which of them pass the standard's test, and the number of the precinct met at one.
use Rattle.std.specs.Prelude.{◌≡◌, ℕ, ◌+◌, ◌*◌, Bool, ◌&&◌, List, [], ◌∷◌, map, nat_eq}
use Rattle.laws.specs.Gather.{gather, keep}
use Rattle.laws.specs.Axis.{span}
use Rattle.geometry.specs.Line.{Line, hit_at, column_of, count}

-- a point of the grid
pub record Point : Type 0 where
  pub y : ℕ
  pub x : ℕ

abbrev pub point : ℕ → ℕ → Point
point y x = record { y = y; x = x }

-- the points of the tile, row by row
unfoldable pub raster : Line → Line → List Point
raster X Y = gather (λ y. map (point y) (span X.t0 X.t1)) (span Y.t0 Y.t1)

-- T.800 B.12.1.3: the test of a point, both lines needed
abbrev pub passes : Line → Line → Point → Bool
passes X Y p = hit_at Y p.y && hit_at X p.x

-- 01: the number of the precinct met at a point, column + row·width
abbrev pub number : Line → Line → Point → ℕ
number X Y p = column_of X p.x + column_of Y p.y * count X

-- the precinct n is met exactly once: of the points that pass one alone has the number n
abbrev pub MetOnce : Line → Line → ℕ → Type 0
MetOnce X Y n = (p : Point) × (keep (λ q. nat_eq (number X Y q) n) (keep (passes X Y) (raster X Y)) ≡ p ∷ [])
