-- Numbers that are 0 where they do not fit 32 bits: the multiples that such a step has among the points, and the smaller of such a number and another. Assumes nothing.
use Rattle.std.specs.Prelude.{◌≡◌, ℕ, zero, suc, ◌+◌, ◌*◌, ◌%◌, ◌^◌, ◌<◌, ◌≤◌, min, true, false, cond, not, ◌==◌, nat_le}
use Rattle.std.proofs.Common.{sym, ap, ◌∙◌, ⊎_elim, zero-mul, suc-mul, mod-eq_of_lt, arith, pow_mono, le-leb, ne_eqb}
use Rattle.std.proofs.Math.Nat.{mod-zero}
use Rattle.std.proofs.lemmas.Bool.{lt-leb}
use Rattle.laws.specs.Cases.{le_or_lt}
use Rattle.geometry.specs.Math.{add_sat}

abbrev pub fitted : ℕ → ℕ
fitted n = cond (nat_le n 4294967295) n 0

-- the smaller of a number and one that is 0 where it does not fit: then it is larger than every number
abbrev pub least_of : ℕ → ℕ → ℕ
least_of a n = cond (n == 0) a (min a n)

pub fitted-small : (n : ℕ) → n ≤ 4294967295 → fitted n ≡ n
fitted-small n h = rw (le-leb _ _ h)

pub fitted_large : (n : ℕ) → 4294967295 < n → fitted n ≡ 0
fitted_large n h = rw (lt-leb _ _ h)

-- shifted by 32 or more a number fits only if it is 0
pub fitted_far : (a by : ℕ) → 32 ≤ by → fitted (a * 2 ^ by) ≡ 0
fitted_far zero by h = rw (zero-mul (2 ^ by))
fitted_far (suc a) by h = fitted_large (suc a * 2 ^ by) (omega (arith, pow_mono {i = 32} {j = by} h, suc-mul a (2 ^ by)))

-- so a sum of exponents may stop at the largest number
pub fitted-sum : (d pd level : ℕ) → fitted (d * 2 ^ add_sat pd level) ≡ fitted (d * 2 ^ (pd + level))
fitted-sum d pd level =
    ⊎_elim
    (λ (h : pd + level ≤ 4294967295). ap (λ (n : ℕ). fitted (d * 2 ^ n)) (omega arith))
    (λ (h : 4294967295 < pd + level). fitted_far d (add_sat pd level) (omega arith) ∙ sym (fitted_far d (pd + level) (omega arith)))
    (le_or_lt (pd + level) 4294967295)

-- a step that does not fit has the multiples among the points that 0 has
pub fitted_multiple : (x n : ℕ) → x < 2 ^ 32 → x % fitted n ≡ x % n
fitted_multiple x n h =
    ⊎_elim
    (λ (l : n ≤ 4294967295). rw (fitted-small n l))
    (λ (l : 4294967295 < n). let k : x < n = omega arith in rw (fitted_large n l, mod-zero x, mod-eq_of_lt k))
    (le_or_lt n 4294967295)

-- of a number above 0, 0 tells that it does not fit
module _ (n : ℕ) (some : 1 ≤ n) where
  small : n ≤ 4294967295 → (fitted n == 0) ≡ false
  small h = rw (fitted-small n h) (ne_eqb n 0 (λ z. omega arith))

  large : 4294967295 < n → (fitted n == 0) ≡ true
  large h = rw (fitted_large n h)

  pub fitted-told : not (fitted n == 0) ≡ nat_le n 4294967295
  fitted-told = ⊎_elim (λ h. rw (small h, le-leb _ _ h)) (λ h. rw (large h, lt-leb _ _ h)) (le_or_lt n 4294967295)

  pub fitted-least : (m : ℕ) → m ≤ 4294967295 → least_of m (fitted n) ≡ min m n
  fitted-least m k =
      ⊎_elim
      (λ h. rw (small h, fitted-small n h))
      (λ (h : 4294967295 < n). rw (large h) (let e : m ≡ min m n = omega arith in e))
      (le_or_lt n 4294967295)
