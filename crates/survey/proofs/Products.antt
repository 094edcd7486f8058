-- The marks needed, where their factors and products are cut off. Assumes nothing.
use mathlib.Core.Path.{◌≡◌}
use Prim.Native.Nat.{ℕ, ◌*◌}
use native.Mathlib.Nat.{mul_assoc}
use Rattle.survey.specs.Capped.{capped, capped_factor}
use Rattle.survey.specs.Passing.{needed_of}

module _ (l r c p : ℕ) where
  -- product by product
  pub needed-capped : capped (l * capped (r * capped (c * p))) ≡ capped (needed_of l r c p)
  needed-capped = rw (capped_factor r (c * p)) (capped_factor l (r * (c * p)))

  -- the last factor before
  needed-each : (p : ℕ) → needed_of l r c p ≡ l * (r * c) * p
  needed-each p = rw (mul_assoc l (r * c) p, mul_assoc r c p)

  pub needed_cut : capped (needed_of l r c (capped p)) ≡ capped (needed_of l r c p)
  needed_cut = rw (needed-each (capped p), needed-each p) (capped_factor (l * (r * c)) p)
