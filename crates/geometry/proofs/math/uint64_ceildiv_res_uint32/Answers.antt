-- `uint64_ceildiv_res_uint32`: a sum that does not fit is refused, and a divisor 0; these are the two tests of the definition. Assumes nothing.
use Rattle.geometry.specs.Math.{ceildiv64_of}
use Rattle.std.proofs.Common.{◌+◌, ◌^◌, ◌<◌, arith, le-ltb, lt-ltb}
use Rattle.geometry.proofs.math.uint64_ceildiv_res_uint32.Goals as goal

pub returns-in_err-sum : goal.returns-in_err-sum
unfolding ceildiv64_of
returns-in_err-sum c =
    let a = c.args in
    let over : a.a + a.b < 2 ^ 64 → ⊥ = c.in_err-sum.ensures in
    rw c.from_residual.ensures (simp (lt-ltb 0 a.b (omega (arith, over)), le-ltb (a.a + a.b) (2 ^ 64) (omega (arith, over))))

pub returns-in_err-quotient : goal.returns-in_err-quotient
unfolding ceildiv64_of
returns-in_err-quotient c = rw c.from_residual-in_err-quotient.ensures (simp (le-ltb 0 c.args.b (omega (arith, c.in_err-quotient.ensures))))

pub returns : goal.returns
unfolding ceildiv64_of
returns c =
    let a = c.args in
    rw (c.in_ok-quotient.ensures.1, c.saturating_sub.ensures)
    (simp (lt-ltb 0 a.b (omega (arith, c.in_ok-quotient.ensures)), lt-ltb (a.a + a.b) (2 ^ 64) (omega (arith, c.in_ok-sum.ensures)), c.in_ok-sum.ensures.1))
