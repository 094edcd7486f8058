-- A number as far as it matters: more than 65,536 marks are too many, whatever their number (01, -5), and so are more precincts. Assumes nothing.
use Rattle.std.specs.Prelude.{ℕ, zero, suc, ◌*◌, ◌≤◌, ◌<◌, min, max, ◌≡◌, cond, Option, Some, None, leb}
use Rattle.std.proofs.Common.{⊎_elim, zero-mul, suc-mul, arith}
use Rattle.std.proofs.lemmas.Bool.{lt-leb}
use Rattle.laws.specs.Cases.{le_or_lt}

abbrev pub capped : ℕ → ℕ
capped n = min n 65537

-- one that is few
abbrev pub few_of : ℕ → Option ℕ
few_of n = cond (leb n 65536) (Some n) None

-- the larger of two
pub capped-max : (a b : ℕ) → max (capped a) (capped b) ≡ capped (max a b)
capped-max a b = omega arith

-- a factor may be cut off before the product is
pub capped_factor : (a b : ℕ) → capped (a * capped b) ≡ capped (a * b)
capped_factor zero b = rw (zero-mul b, zero-mul (capped b))
capped_factor (suc a) b =
    ⊎_elim
    (λ (h : b ≤ 65537). let e : capped b ≡ b = omega arith in rw e)
    (λ (h : 65537 < b). let e : capped b ≡ 65537 = omega arith in rw e (omega (arith, suc-mul a b)))
    (le_or_lt b 65537)

-- numbers that are cut off to the same are few together, and the same where they are few
module _ (m n : ℕ) (same : capped m ≡ capped n) where
  pub same-few : few_of m ≡ few_of n
  same-few =
      ⊎_elim
      (λ (h : n ≤ 65536). let e : m ≡ n = omega arith in rw e)
      (λ (h : 65536 < n). let k : 65536 < m = omega arith in rw (lt-leb _ _ h, lt-leb _ _ k))
      (le_or_lt n 65536)
