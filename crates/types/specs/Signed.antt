-- Signed numbers by the 32 bits that code reads of them.
use Rattle.std.specs.Prelude.{◌≡◌, refl, Bool, true, false, ℕ, zero, suc, ◌-◌, ◌^◌, ◌≤◌, eqb, ℤ, pos, negsuc}
use Rattle.std.proofs.Common.{arith, SFits, of_z, to_z, to_z-of_z, ne_eqb}
use Rattle.std.specs.Int.{w32}

abbrev pub is_zero : ℤ → Bool
is_zero (pos zero) = true
is_zero (pos (suc n)) = false
is_zero (negsuc n) = false

-- a negative number's bits are large
pub large : (n : ℕ) → SFits w32 (negsuc n) → 5 ≤ 2 ^ 32 - suc n
large n f = omega (arith, f.sfits)

pub negative : (n : ℕ) (z : ℤ) → z ≡ negsuc n → SFits w32 z → of_z w32 z ≡ 0 → ⊥
negative n z e f k = let h : 2 ^ 32 - suc n ≡ 0 = rw e at k in omega (arith, large n (rw e at f))

-- a number is 0 just where its bits are
pub bits_zero : (z : ℤ) → SFits w32 z → eqb (of_z w32 z) 0 ≡ is_zero z
bits_zero (pos zero) f = refl
bits_zero (pos (suc n)) f = ne_eqb (suc n) 0 (λ e. omega arith)
bits_zero (negsuc n) f = let h = large n f in ne_eqb (2 ^ 32 - suc n) 0 (λ e. omega (arith, h))

-- what is said of a number that was handed on by its bits is said of the number
pub by_bits : {A : Type 0} (f : ℤ → A) (z : ℤ) → SFits w32 z → {r : A} → r ≡ f (to_z w32 (of_z w32 z)) → r ≡ f z
by_bits f z fits e = rw (to_z-of_z fits) at e
