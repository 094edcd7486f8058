-- An order from the bits that a match on its number reads. Assumes nothing.
use mathlib.Core.Path.{◌≡◌, refl}
use Prim.Native.Nat.{ℕ, zero, suc, ◌≤◌, ◌<◌}
use native.Mathlib.Omega.{arith}
use lib.IntN.{ℤ, pos, negsuc}
use mir.Syntax.{w32}
use mir.Val.{SFits, of_z}
use Rattle.types.specs.Orders.{order_of}
use Rattle.types.specs.declared.order.Order.TheVariants.{NoPositions as other}
use Rattle.types.specs.Signed.{large}

pub order_is : (z : ℤ) → SFits w32 z → (k : ℕ) → of_z w32 z ≡ k → k < 5 → order_of (pos k) ≡ order_of z
order_is (pos n) f k e h = rw (← e)
order_is (negsuc n) f k e h = absurd (let z : ⊥ = omega (arith, large n f) in z)

other_above : (n : ℕ) → 5 ≤ n → other ≡ order_of (pos n)
other_above zero h = absurd (let z : ⊥ = omega arith in z)
other_above (suc zero) h = absurd (let z : ⊥ = omega arith in z)
other_above (suc (suc zero)) h = absurd (let z : ⊥ = omega arith in z)
other_above (suc (suc (suc zero))) h = absurd (let z : ⊥ = omega arith in z)
other_above (suc (suc (suc (suc zero)))) h = absurd (let z : ⊥ = omega arith in z)
other_above (suc (suc (suc (suc (suc n))))) h = refl

pub order_none : (z : ℤ) → SFits w32 z → 5 ≤ of_z w32 z → other ≡ order_of z
order_none (pos n) f h = other_above n h
order_none (negsuc n) f h = refl
