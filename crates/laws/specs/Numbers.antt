-- Shifts, products and quotients as the code meets them. Assumes nothing.
use Rattle.std.specs.Prelude.{ℕ, zero, suc, ◌+◌, ◌*◌, ◌%◌, ◌^◌, ◌<◌, ◌≡◌}
use Rattle.std.proofs.Common.{one-mul, mod-eq_of_lt, lt_of_le_of_lt, mul-le-mul_left, le_of_lt, mul-lt-mul_of_pos_right, zero-mul, arith, pow_pos, pow-add}
use Rattle.std.proofs.Math.Nat.{zero-mod}
use Rattle.std.proofs.Math.Pow.{pow-lt}

-- `1 << b` at a width of w bits
pub one_shl : (w b : ℕ) → b < w → 1 * 2 ^ b % 2 ^ w ≡ 2 ^ b
one_shl w b h = rw one-mul (mod-eq_of_lt (pow-lt h))

-- the product of two numbers of k bits has 2k
pub product-fits : (k : ℕ) {a b : ℕ} → a < 2 ^ k → b < 2 ^ k → a * b < 2 ^ (k + k)
product-fits k {a} {b} ha hb =
    rw (pow-add 2 k k) (lt_of_le_of_lt (mul-le-mul_left a (le_of_lt hb)) (mul-lt-mul_of_pos_right ha (pow_pos k)))

-- a number below a wrapped product: the first factor is not 0
pub factor_pos : (n a b m : ℕ) → n < a * b % m → 0 < a
factor_pos n zero b m h = absurd (not_below_zero (rw (zero-mul b, zero-mod m) at h))
  where
    not_below_zero : n < 0 → ⊥
    not_below_zero k = omega arith
factor_pos n (suc a) b m h = omega arith
