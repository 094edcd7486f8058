-- `times`: a factor of 256 or less by the other, cut off, fits 32 bits; two factors above 256 have a product above 65,537. Assumes nothing.
use mathlib.Core.Path.{◌≡◌}
use Prim.Native.Nat.{ℕ, ◌*◌, ◌≤◌}
use native.Mathlib.Nat.{mul_comm, mul-le-mul}
use native.Mathlib.Omega.{arith}
use Rattle.survey.specs.Capped.{capped, capped_factor}
use Rattle.survey.proofs.capped.times.Goals as goal

-- a factor by m, to which the other was cut off
same : (a b m : ℕ) → m ≡ capped b → capped (a * m) ≡ capped (a * b)
same a b m e = rw e (capped_factor a b)

pub overflow_mul-a : goal.overflow_mul-a
overflow_mul-a c = let high : c.min.result ≤ 65537 = omega arith in record { fits = omega (arith, mul-le-mul c.if-a-le256.true high) }

pub returns-then-a-le256 : goal.returns-then-a-le256
returns-then-a-le256 c = omega (arith, same c.args.a c.args.b c.min.result (omega arith))

pub overflow_mul-b : goal.overflow_mul-b
overflow_mul-b c = let high : c.min-then-b-le256.result ≤ 65537 = omega arith in record { fits = omega (arith, mul-le-mul c.if-b-le256.true high) }

pub returns-then-b-le256 : goal.returns-then-b-le256
returns-then-b-le256 c = omega (arith, same c.args.b c.args.a c.min-then-b-le256.result (omega arith), mul_comm c.args.a c.args.b)

pub returns : goal.returns
returns c = let p : 257 * 257 ≤ c.args.a * c.args.b = mul-le-mul c.if-a-le256.false c.if-b-le256.false in omega arith
