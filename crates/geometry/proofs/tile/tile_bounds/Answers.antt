-- `tile_bounds`: the test of the code is that of the definition. Assumes nothing.
use Rattle.geometry.specs.Tile.{tile_bounds_of}
use Rattle.std.proofs.Common.{◌*◌, ◌%◌, ◌^◌, ◌<◌, ◌≤◌, arith, le-ltb, lt-ltb}
use Rattle.geometry.proofs.tile.tile_bounds.Goals as goal

pub returns-then-tileno-wrapping_mul : goal.returns-then-tileno-wrapping_mul
unfolding tile_bounds_of
returns-then-tileno-wrapping_mul c = let a = c.args in
    let l : a.tileno < a.grid.tw * a.grid.th % 2 ^ 32 = omega arith in
    rw (lt-ltb _ _ l, c.side_of-x.ensures, c.side_of-y.ensures)

pub returns-else-tileno-wrapping_mul : goal.returns-else-tileno-wrapping_mul
unfolding tile_bounds_of
returns-else-tileno-wrapping_mul c = let a = c.args in
    let l : a.grid.tw * a.grid.th % 2 ^ 32 ≤ a.tileno = omega arith in
    rw (le-ltb _ _ l)
