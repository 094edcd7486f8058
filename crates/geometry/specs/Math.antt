-- The arithmetic over the natural numbers (01, module 1): names from math.rs; where the Rust asserts or faults, -22.
use Rattle.std.specs.Prelude.{ℕ, ◌+◌, ◌/◌, ◌%◌, ◌^◌, min, cond, ◌&&◌, [], ◌∷◌, nat_lt}
use Rattle.laws.specs.Ceiling.{ceil_div}
use Rattle.geometry.specs.Said.{Said, value, refusal}

-- saturating add: the sum, or 2^32 - 1 where the sum is larger
abbrev pub add_sat : ℕ → ℕ → ℕ
add_sat a b = min (a + b) 4294967295

-- ceiling division: -22 for a divisor 0
unfoldable pub ceildiv_of : ℕ → ℕ → Said
ceildiv_of a b = cond (nat_lt 0 b) (value (ceil_div a b ∷ [])) (refusal 22)

-- the 64-bit ceiling division: the quotient modulo 2^32; -22 for a divisor 0 or where a + b passes 2^64 - 1
unfoldable pub ceildiv64_of : ℕ → ℕ → Said
ceildiv64_of a b = cond (nat_lt 0 b && nat_lt (a + b) (2 ^ 64)) (value (ceil_div a b % 2 ^ 32 ∷ [])) (refusal 22)

-- floor by a power of two: the Rust shifts in 32 bits
unfoldable pub floordivpow2_of : ℕ → ℕ → Said
floordivpow2_of a b = cond (nat_lt b 32) (value (a / 2 ^ b ∷ [])) (refusal 22)

-- ceiling by a power of two: the Rust shifts in 64 bits
unfoldable pub ceildivpow2_of : ℕ → ℕ → Said
ceildivpow2_of a b = cond (nat_lt b 64) (value (ceil_div a (2 ^ b) ∷ [])) (refusal 22)
