-- `uneven`: a power of 2^32 or more leaves the number. Assumes nothing.
use Rattle.std.proofs.Common.{◌^◌, ◌<◌, mod-eq_of_lt, arith, pow_mono}
use Rattle.geometry.proofs.power.uneven.Goals as goal

pub returns-else-by-lt32 : goal.returns-else-by-lt32
returns-else-by-lt32 c = let a = c.args in
    let h : a.a < 2 ^ a.by = omega (arith, pow_mono {i = 32} {j = a.by} (omega (arith, c.if-by-lt32.false))) in rw (mod-eq_of_lt h)
