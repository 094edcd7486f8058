-- The bounds of a tile: as 01 has them ('Tile bounds'), and as T.800 has them (B.3). Where nothing wraps the two agree: on one axis here, for the tile in proofs/Standard.
use Rattle.std.specs.Prelude.{◌≡◌, ℕ, ◌+◌, ◌*◌, ◌/◌, ◌%◌, ◌^◌, ◌<◌, min, max, cond, [], ◌∷◌, nat_lt}
use Rattle.std.proofs.Common.{mod-eq_of_lt, add-mul, one-mul, arith}
use Rattle.geometry.specs.Math.{add_sat}
use Rattle.geometry.specs.Said.{Said, value, refusal}
use Rattle.geometry.specs.declared.tile.Side.{Side}
use Rattle.geometry.specs.declared.tile.Area.{Area}
use Rattle.geometry.specs.declared.tile.Grid.{Grid}

-- 01: origin + p·size; sums and products wrap at 2^32
abbrev pub start_of : ℕ → ℕ → ℕ → ℕ
start_of origin p size = (origin + (p * size) % 2 ^ 32) % 2 ^ 32

-- 01: the start is raised to the image's; the end is the smaller of the image's and the start before raising + size, with that sum saturating
abbrev pub side_of : ℕ → ℕ → ℕ → ℕ → ℕ → Side
side_of i0 i1 origin p size =
    record { start = max (start_of origin p size) i0; end = min i1 (add_sat (start_of origin p size) size) }

-- the four bounds in the order in which they are written
abbrev pub corners : Side → Side → Said
corners x y = value (x.start ∷ y.start ∷ x.end ∷ y.end ∷ [])

-- 01: column p is the number modulo tw, row q the quotient; -10 for a number not below tw·th modulo 2^32
unfoldable pub tile_bounds_of : Area → Grid → ℕ → Said
tile_bounds_of image g n =
    cond (nat_lt n ((g.tw * g.th) % 2 ^ 32))
    (corners (side_of image.x0 image.x1 g.tx0 (n % g.tw) g.tdx) (side_of image.y0 image.y1 g.ty0 (n / g.tw) g.tdy))
    (refusal 10)

-- T.800 B.3, one axis: from max(XTOsiz + p·XTsiz, XOsiz) to min(XTOsiz + (p + 1)·XTsiz, Xsiz)
abbrev pub standard_side : ℕ → ℕ → ℕ → ℕ → ℕ → Side
standard_side i0 i1 origin p size = record { start = max (origin + p * size) i0; end = min (origin + (p + 1) * size) i1 }

-- T.800 B.3: tile t is in column t mod numXtiles and row t / numXtiles
abbrev pub standard_tile : Area → Grid → ℕ → Said
standard_tile image g n =
    corners (standard_side image.x0 image.x1 g.tx0 (n % g.tw) g.tdx) (standard_side image.y0 image.y1 g.ty0 (n / g.tw) g.tdy)

-- nothing wraps for tile n: its number is one of tw·th, of which there are fewer than 2^32, and it starts below 2^32; the image does too
pub record Unwrapped (image : Area) (g : Grid) (n : ℕ) : Type 0 where
  pub few : g.tw * g.th < 2 ^ 32
  pub number : n < g.tw * g.th
  pub column : g.tx0 + n % g.tw * g.tdx < 2 ^ 32
  pub row : g.ty0 + n / g.tw * g.tdy < 2 ^ 32
  pub right : image.x1 < 2 ^ 32
  pub bottom : image.y1 < 2 ^ 32

pub side_standard : (i0 i1 origin p size : ℕ) → origin + p * size < 2 ^ 32 → i1 < 2 ^ 32 → side_of i0 i1 origin p size ≡ standard_side i0 i1 origin p size
side_standard i0 i1 origin p size h k =
    let small : p * size < 2 ^ 32 = omega arith in
    let end : min i1 (add_sat (origin + p * size) size) ≡ min (origin + (p + 1) * size) i1 = omega (arith, add-mul p 1 size, one-mul size) in
    rw (mod-eq_of_lt small, mod-eq_of_lt h, end)
