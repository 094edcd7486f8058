-- The ceiling of a quotient, and its laws, by what lies below it. Assumes nothing.
use Rattle.std.specs.Prelude.{◌≡◌, ℕ, zero, suc, ◌+◌, ◌-◌, ◌*◌, ◌/◌, ◌%◌, ◌≤◌, ◌<◌, min}
use Rattle.std.proofs.Common.{sym, ap, ◌∙◌, ⊎_elim, suc-mul, add-mul, mul_assoc, mul_comm, le-div_iff_mul-le, div-add-mod', mod-lt, mul-pos, mul-div_cancel, le-mul_of_pos_right, div-mul-le_self, arith}
use Rattle.std.proofs.Math.Nat.{div-zero, div-eq_of_lt, div-eq_of_lt-le, add-div_right, mul-mod_left}
use Rattle.laws.specs.Cases.{le_or_lt}

-- the smallest q with a ≤ q * b, for b above 0
abbrev pub ceil_div : ℕ → ℕ → ℕ
ceil_div a b = (a + b - 1) / b

-- two numbers with the same numbers below them
pub same-below : (a b : ℕ) → ((k : ℕ) → k < a → k < b) → ((k : ℕ) → k < b → k < a) → a ≡ b
same-below a b f g =
    ⊎_elim (λ h. ⊎_elim (λ k. omega arith) (λ k. omega (arith, g a k)) (le_or_lt b a)) (λ h. omega (arith, f b h)) (le_or_lt a b)

module _ (b : ℕ) (pos : 1 ≤ b) where
  -- k is below the ceiling of a / b just where k * b is below a
  pub ceil_below : (a k : ℕ) → k < ceil_div a b → k * b < a
  ceil_below a k h = omega (arith, (le-div_iff_mul-le pos).0 h, suc-mul k b)

  pub below_ceil : (a k : ℕ) → k * b < a → k < ceil_div a b
  below_ceil a k h = (le-div_iff_mul-le pos).1 (omega (arith, suc-mul k b))

  pub ceil_le : (a k : ℕ) → ceil_div a b ≤ k → a ≤ k * b
  ceil_le a k h = ⊎_elim (λ p. p) (λ p. omega (arith, below_ceil a k p)) (le_or_lt a (k * b))

  pub ceil_mono : (a c : ℕ) → a ≤ c → ceil_div a b ≤ ceil_div c b
  ceil_mono a c h =
      ⊎_elim (λ k. k) (λ k. let z : ceil_div c b * b < c = omega (arith, ceil_below a _ k) in omega (arith, below_ceil c _ z)) (le_or_lt (ceil_div a b) (ceil_div c b))

  pub ceil_next : (a : ℕ) → ceil_div (a + 1) b ≡ a / b + 1
  ceil_next a = ap (λ (n : ℕ). n / b) (omega arith) ∙ add-div_right a pos

  pub ceil_off : (a : ℕ) → (a % b ≡ 0 → ⊥) → ceil_div a b ≡ a / b + 1
  ceil_off a h =
      let r : a % b < b = mod-lt a pos in
      div-eq_of_lt-le b (omega (arith, add-mul (a / b) 1 b, div-add-mod' a b)) (omega (arith, add-mul (a / b) 1 b, add-mul (a / b + 1) 1 b, div-add-mod' a b))

  pub ceil_on : (a : ℕ) → a % b ≡ 0 → ceil_div a b ≡ a / b
  ceil_on a h = div-eq_of_lt-le b (omega (arith, div-add-mod' a b)) (omega (arith, add-mul (a / b) 1 b, div-add-mod' a b))

  -- of at most the divisor it is 1, or 0 of 0
  pub ceil_one : (a : ℕ) → a ≤ b → ceil_div a b ≡ min a 1
  ceil_one zero h = div-eq_of_lt (omega arith)
  ceil_one (suc a) h = let e : ceil_div (suc a) b ≡ 1 = div-eq_of_lt-le {k = 1} b (omega arith) (omega arith) in omega arith

  pub ceil_times : (q : ℕ) → ceil_div (q * b) b ≡ q
  ceil_times q = ceil_on (q * b) (mul-mod_left q b) ∙ mul-div_cancel q pos

-- the ceiling of a ceiling
pub ceil_ceil : (b m : ℕ) → 1 ≤ b → 1 ≤ m → (a : ℕ) → ceil_div (ceil_div a b) m ≡ ceil_div a (b * m)
ceil_ceil b m p q a =
    same-below _ _
    (λ k h. below_ceil (b * m) (mul-pos p q) a k (rw (turned k) (ceil_below b p a (k * m) (ceil_below m q _ k h))))
    (λ k h. below_ceil m q _ k (below_ceil b p a (k * m) (rw (turned k) at (ceil_below (b * m) (mul-pos p q) a k h))))
  where
    turned : (k : ℕ) → k * (b * m) ≡ k * m * b
    turned k = rw (mul_comm b m, ← (mul_assoc k m b))

-- the ceiling is at most what was divided
pub ceil_small : (b : ℕ) → 1 ≤ b → (a : ℕ) → ceil_div a b ≤ a
ceil_small b pos a =
    ⊎_elim (λ h. h) (λ h. omega (arith, ceil_below b pos a a h, le-mul_of_pos_right a pos)) (le_or_lt (ceil_div a b) a)

-- of r0 ≤ r1 the floor of the first is at most the ceiling of the second
pub floor_ceil : (b : ℕ) → 1 ≤ b → (r0 r1 : ℕ) → r0 ≤ r1 → r0 / b ≤ ceil_div r1 b
floor_ceil b pos r0 r1 h = (le-div_iff_mul-le pos).1 (omega (arith, div-mul-le_self r0 b))

-- by 0 it is 0
pub ceil_none : (a : ℕ) → 0 ≡ ceil_div a 0
ceil_none a = sym (div-zero (a + 0 - 1))
