-- Numbers of two digits, q * c + r with r below c: two that are equal have the same digits. Assumes nothing.
use Rattle.std.specs.Prelude.{◌≡◌, ℕ, ◌+◌, ◌*◌, ◌/◌, ◌%◌, ◌<◌}
use Rattle.std.proofs.Common.{sym, ap, ◌∙◌}
use Rattle.std.proofs.Math.Arith.{digits_div, digits_mod}

module _ (q u : ℕ) {r v c : ℕ} (h : r < c) (k : v < c) (e : q * c + r ≡ u * c + v) where
  -- the high digits
  pub same-high : q ≡ u
  same-high = sym (digits_div q h) ∙ ap (λ (n : ℕ). n / c) e ∙ digits_div u k

  -- the low digits
  pub same-low : r ≡ v
  same-low = sym (digits_mod q h) ∙ ap (λ (n : ℕ). n % c) e ∙ digits_mod u k
