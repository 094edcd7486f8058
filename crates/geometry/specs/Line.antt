-- An axis of a tile as a resolution of a component sees it: its bounds, its precincts, and the points at which they are met.
use Rattle.std.specs.Prelude.{ℕ, ◌+◌, ◌-◌, ◌*◌, ◌/◌, ◌%◌, ◌^◌, Bool, not, ◌&&◌, ◌||◌, List, ◌==◌, nat_le, nat_lt}
use Rattle.laws.specs.Ceiling.{ceil_div}
use Rattle.laws.specs.Gather.{keep}
use Rattle.laws.specs.Axis.{span}
use Rattle.geometry.specs.Precinct.{across, cell_from, cell_to}

-- the tile from t0 to t1, the component's step d (XRsiz or YRsiz), the resolution's level (N_L - r) and the precinct exponent pd (PPx or PPy)
pub record Line : Type 0 where
  pub t0 : ℕ
  pub t1 : ℕ
  pub d : ℕ
  pub level : ℕ
  pub pd : ℕ

-- T.800 B.3 and B.5: a point of the grid as a bound of the component, and of the resolution
unfoldable pub bound_of : ℕ → ℕ → ℕ → ℕ
bound_of t d level = ceil_div (ceil_div t d) (2 ^ level)

-- T.800 B.5: trx0 and trx1
abbrev pub low : Line → ℕ
low s = bound_of s.t0 s.d s.level

abbrev pub high : Line → ℕ
high s = bound_of s.t1 s.d s.level

-- 01, 'Ranges and orders': d·2^(pd+level), from a precinct to the next in points of the grid
abbrev pub step : Line → ℕ
step s = s.d * 2 ^ (s.pd + s.level)

-- T.800 B.6: numprecinctswide
unfoldable pub count : Line → ℕ
count s = across (low s) (high s) s.pd

-- 01: floor(rx0/2^pdx), the first column
abbrev pub first : Line → ℕ
first s = low s / 2 ^ s.pd

-- T.800 B.6: the samples of precinct i, counted from the first
abbrev pub cell_low : Line → ℕ → ℕ
cell_low s i = cell_from (low s) s.pd i

abbrev pub cell_high : Line → ℕ → ℕ
cell_high s i = cell_to (low s) (high s) s.pd i

-- T.800 B.12.1.3: trx0·2^(N_L - r) is divisible by 2^(PPx + N_L - r)
abbrev pub whole : Line → Bool
whole s = low s * 2 ^ s.level % 2 ^ (s.pd + s.level) == 0

-- T.800 B.12.1.3, the point test: x is divisible by XRsiz·2^(PPx + N_L - r), or x = tx0 and the above does not hold
unfoldable pub hit_at : Line → ℕ → Bool
hit_at s x = x % step s == 0 || (x == s.t0 && not (whole s))

-- 01: a precinct is met at x, a point of the tile that passes the test
abbrev pub meets_at : Line → ℕ → Bool
meets_at s x = nat_le s.t0 x && (nat_lt x s.t1 && hit_at s x)

-- 01: the column at x is floor(ceil(x/(d·2^level))/2^pd) - floor(r0/2^pd)
unfoldable pub column_of : Line → ℕ → ℕ
column_of s x = ceil_div x (s.d * 2 ^ s.level) / 2 ^ s.pd - first s

-- the points that pass the test, upward
unfoldable pub hits : Line → List ℕ
hits s = keep (hit_at s) (span s.t0 s.t1)
