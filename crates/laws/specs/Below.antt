-- Every number below n passes a test; the sum, the largest and the smallest of a function below n. Assumes nothing.
use Rattle.std.specs.Prelude.{◌≡◌, Bool, true, false, ◌&&◌}
use Rattle.std.proofs.Math.Path.{refl}
use Rattle.std.proofs.Common.{sym, eq-or-lt_of_le, le_of_suc-le-suc, add-one}
use Rattle.std.proofs.Math.Logic.{⊎_elim}
use Prim.Native.Nat.{ℕ, zero, suc, ◌+◌, ◌*◌, ◌≤◌, ◌<◌, min, max}
use Rattle.std.proofs.Math.Nat.{mul-add, mul-one}
use native.Mathlib.Omega.{arith}
use Rattle.laws.specs.Cases.{and_false, and_true, le_or_lt}

unfoldable pub all_below : (ℕ → Bool) → ℕ → Bool
all_below f zero = true
all_below f (suc n) = all_below f n && f n

unfoldable pub sum_below : (ℕ → ℕ) → ℕ → ℕ
sum_below f zero = 0
sum_below f (suc n) = sum_below f n + f n

pub not-below : {A : Type 0} (i : ℕ) → i < 0 → A
not-below i h = absurd (none i h)
  where
    none : (i : ℕ) → i < 0 → ⊥
    none i h = omega arith

-- a number below n + 1 is n or below it
pub last_or : {A : Type 0} {i n : ℕ} → i < suc n → (i ≡ n → A) → (i < n → A) → A
last_or h a b = ⊎_elim a b (eq-or-lt_of_le (le_of_suc-le-suc h))

module _ (f : ℕ → Bool) where
  pub all_none : all_below f 0 ≡ true
  unfolding all_below
  all_none = refl

  pub all-next : (i : ℕ) → all_below f (i + 1) ≡ (all_below f i && f i)
  unfolding all_below
  all-next i = rw (add-one i)

  pub all_more : (i : ℕ) → all_below f i ≡ true → f i ≡ true → all_below f (i + 1) ≡ true
  all_more i p q = rw (all-next i, p, q)

  pub all_fails : (n i : ℕ) → i < n → f i ≡ false → all_below f n ≡ false
  unfolding all_below
  all_fails zero i h q = not-below i h
  all_fails (suc n) i h q =
      last_or h (λ e. rw (sym e, q) (and_false (all_below f i))) (λ l. rw (all_fails n i l q))

  -- as a statement about every number
  pub all-at : (n : ℕ) → all_below f n ≡ true → (i : ℕ) → i < n → f i ≡ true
  unfolding all_below
  all-at zero p i h = not-below i h
  all-at (suc n) p i h =
      let b = and_true (all_below f n) (f n) p in
      last_or h (λ e. rw e b.1) (λ l. all-at n b.0 i l)

module _ (f : ℕ → ℕ) where
  pub sum_none : sum_below f 0 ≡ 0
  unfolding sum_below
  sum_none = refl

  pub sum_more : (i : ℕ) → sum_below f (i + 1) ≡ sum_below f i + f i
  unfolding sum_below
  sum_more i = rw (add-one i)

  -- a part of a sum is at most the sum
  pub sum_part : (n i : ℕ) → i < n → sum_below f i + f i ≤ sum_below f n
  unfolding sum_below
  sum_part zero i h = not-below i h
  sum_part (suc n) i h =
      last_or h (λ e. rw e (omega arith)) (λ l. omega (arith, sum_part n i l))

  -- a sum of n numbers that are at most m
  pub sum_most : (m n : ℕ) → ((i : ℕ) → i < n → f i ≤ m) → sum_below f n ≤ m * n
  unfolding sum_below
  sum_most m zero h = omega arith
  sum_most m (suc n) h = omega (arith, sum_most m n (λ i l. h i (omega arith)), h n (omega arith), mul-add m n 1, mul-one m)

-- the largest, and the smallest but for a, of f 0 .. f (n - 1)
unfoldable pub max_below : (ℕ → ℕ) → ℕ → ℕ
max_below f zero = 0
max_below f (suc n) = max (max_below f n) (f n)

unfoldable pub min_below : ℕ → (ℕ → ℕ) → ℕ → ℕ
min_below a f zero = a
min_below a f (suc n) = min (min_below a f n) (f n)

module _ (f : ℕ → ℕ) where
  -- turn by turn
  pub max_none : max_below f 0 ≡ 0
  unfolding max_below
  max_none = refl

  pub max_more : (i : ℕ) → max_below f (i + 1) ≡ max (max_below f i) (f i)
  unfolding max_below
  max_more i = rw (add-one i)

  -- the largest is at least each
  pub max-at : (n i : ℕ) → i < n → f i ≤ max_below f n
  unfolding max_below
  max-at zero i h = not-below i h
  max-at (suc n) i h = last_or h (λ e. rw e (omega arith)) (λ l. omega (arith, max-at n i l))

  -- and at most what each is at most
  pub max-least : (n m : ℕ) → ((i : ℕ) → i < n → f i ≤ m) → max_below f n ≤ m
  unfolding max_below
  max-least zero m h = omega arith
  max-least (suc n) m h = omega (arith, h n (omega arith), max-least n m (λ i l. h i (omega arith)))

  -- what is below the largest is below one of them
  pub max_some : (n i : ℕ) → i < max_below f n → (k : ℕ) × (k < n) × (i < f k)
  unfolding max_below
  max_some zero i h = not-below i h
  max_some (suc n) i h =
      ⊎_elim (λ l. let w = max_some n i (omega arith) in (w.0, omega (arith, w.1), w.2)) (λ l. (n, omega arith, l)) (le_or_lt (f n) i)

module _ (a : ℕ) (f : ℕ → ℕ) where
  -- turn by turn
  pub min_none : min_below a f 0 ≡ a
  unfolding min_below
  min_none = refl

  pub min_more : (i : ℕ) → min_below a f (i + 1) ≡ min (min_below a f i) (f i)
  unfolding min_below
  min_more i = rw (add-one i)

  -- the smallest is at most a and at most each
  pub min-start : (n : ℕ) → min_below a f n ≤ a
  unfolding min_below
  min-start zero = omega arith
  min-start (suc n) = omega (arith, min-start n)

  pub min-at : (n i : ℕ) → i < n → min_below a f n ≤ f i
  unfolding min_below
  min-at zero i h = not-below i h
  min-at (suc n) i h = last_or h (λ e. rw e (omega arith)) (λ l. omega (arith, min-at n i l))
