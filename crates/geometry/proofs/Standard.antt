-- Where nothing wraps, 01's tile bounds are T.800's. Assumes nothing.
use Rattle.std.specs.Prelude.{◌≡◌, ℕ, ◌*◌, ◌/◌, ◌%◌, ◌^◌, ◌<◌}
use Rattle.std.proofs.Common.{mod-eq_of_lt, lt-ltb}
use Rattle.geometry.specs.declared.tile.Area.{Area}
use Rattle.geometry.specs.declared.tile.Grid.{Grid}
use Rattle.geometry.specs.Tile.{side_of, corners, tile_bounds_of, standard_side, standard_tile, Unwrapped, side_standard}

-- where nothing wraps, 01's tile bounds are T.800's
pub tile_standard : (image : Area) (g : Grid) (n : ℕ) → Unwrapped image g n → tile_bounds_of image g n ≡ standard_tile image g n
unfolding tile_bounds_of
tile_standard image g n u =
    let below : n < g.tw * g.th % 2 ^ 32 = rw (mod-eq_of_lt u.few) u.number in
    let x : side_of image.x0 image.x1 g.tx0 (n % g.tw) g.tdx ≡ standard_side image.x0 image.x1 g.tx0 (n % g.tw) g.tdx
    = side_standard _ _ _ _ _ u.column u.right in
    let y : side_of image.y0 image.y1 g.ty0 (n / g.tw) g.tdy ≡ standard_side image.y0 image.y1 g.ty0 (n / g.tw) g.tdy
    = side_standard _ _ _ _ _ u.row u.bottom in
    rw (lt-ltb _ _ below) (λ i. corners (x i) (y i))
