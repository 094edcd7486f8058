-- The smallest of a function below a number, or from one number up to another: it is at most each of them, and has what all of them have. Assumes nothing.
use Rattle.std.specs.Prelude.{◌≡◌, refl}
use Rattle.std.proofs.Common.{ap, le_refl}
use Rattle.std.proofs.Math.Logic.{⊎_elim}
use Prim.Native.Nat.{ℕ, zero, suc, ◌+◌, ◌-◌, ◌≤◌, ◌<◌, min, max}
use native.Mathlib.Omega.{arith}
use Rattle.laws.specs.Cases.{le_or_lt}
use Rattle.laws.specs.Below.{min_below, min_none, min_more, min-start, min-at}

module _ (a : ℕ) (f : ℕ → ℕ) where
  -- what the start and each of them have, it has
  pub min-has : (Q : ℕ → Type 0) → Q a → (n : ℕ) → ((i : ℕ) → i < n → Q (f i)) → Q (min_below a f n)
  unfolding min_below
  min-has Q q zero h = q
  min-has Q q (suc n) h =
      let m : ℕ = min_below a f n in
      ⊎_elim
      (λ l. let e : min m (f n) ≡ m = omega arith in rw e (min-has Q q n (λ i k. h i (omega arith))))
      (λ l. let e : min m (f n) ≡ f n = omega arith in rw e (h n (omega arith)))
      (le_or_lt m (f n))

  -- so what is below all is below it
  pub min-below : (x n : ℕ) → x < a → ((i : ℕ) → i < n → x < f i) → x < min_below a f n
  min-below x n h k = min-has (λ m. x < m) h n k

-- to start from the smaller of two is to take the smaller at the end
pub min_from : (a b : ℕ) (f : ℕ → ℕ) (n : ℕ) → min_below (min a b) f n ≡ min a (min_below b f n)
unfolding min_below
min_from a b f zero = refl
min_from a b f (suc n) = rw (min_from a b f n) (omega arith)

-- the smallest, but for a, of f lo .. f (hi - 1)
unfoldable pub least : ℕ → (ℕ → ℕ) → ℕ → ℕ → ℕ
least a f lo hi = min_below a (λ i. f (lo + i)) (hi - lo)

module _ (a : ℕ) (f : ℕ → ℕ) (lo : ℕ) where
  -- the same laws: of none and of one more
  pub least_none : (hi : ℕ) → hi ≤ lo → least a f lo hi ≡ a
  unfolding least
  least_none hi h = let e : hi - lo ≡ 0 = omega arith in rw e (min_none a (λ i. f (lo + i)))

  pub least_more : (hi : ℕ) → lo ≤ hi → least a f lo (hi + 1) ≡ min (least a f lo hi) (f hi)
  unfolding least
  least_more hi h =
      let e : hi + 1 - lo ≡ hi - lo + 1 = omega arith in
      let k : lo + (hi - lo) ≡ hi = omega arith in
      rw (e, min_more a (λ i. f (lo + i)) (hi - lo), k)

  -- it is at most where it starts, and at most each of them
  pub least-start : (hi : ℕ) → least a f lo hi ≤ a
  unfolding least
  least-start hi = min-start a (λ i. f (lo + i)) (hi - lo)

  pub least-at : (hi i : ℕ) → lo ≤ i → i < hi → least a f lo hi ≤ f i
  unfolding least
  least-at hi i p q =
      let e : lo + (i - lo) ≡ i = omega arith in
      rw e at (min-at a (λ j. f (lo + j)) (hi - lo) (i - lo) (omega arith))

  -- what is below all is below it
  pub least-below : (x hi : ℕ) → x < a → ((i : ℕ) → lo ≤ i → i < hi → x < f i) → x < least a f lo hi
  unfolding least
  least-below x hi h k = min-below a (λ i. f (lo + i)) x (hi - lo) h (λ i p. k (lo + i) (omega arith) (omega arith))

-- up to the larger of both ends is up to the end
pub least_to : (a : ℕ) (f : ℕ → ℕ) (lo hi i : ℕ) → lo ≤ i → i ≤ max lo hi → hi ≤ i → least a f lo i ≡ least a f lo hi
least_to a f lo hi i p q r =
    ⊎_elim
    (λ h. rw (least_none a f lo i (omega arith), least_none a f lo hi h))
    (λ h. ap (least a f lo) (omega arith))
    (le_or_lt hi lo)

-- TWO LOOPS for the smallest of f c r, for c from c0 on, and for each of these r from r0 to r1
module _ (a : ℕ) (f : ℕ → ℕ → ℕ) (r0 r1 c0 : ℕ) where
  -- the smallest of those before c
  unfoldable pub least_before : ℕ → ℕ
  least_before c = least a (λ i. least a (f i) r0 r1) c0 c

  -- and of those of c before r
  unfoldable pub least_seen : ℕ → ℕ → ℕ
  least_seen c r = min (least_before c) (least a (f c) r0 r)

  -- it starts at a
  pub seen_none : least_before c0 ≡ a
  unfolding least_before
  seen_none = least_none a _ c0 c0 (le_refl c0)

  -- the inner loop starts with what the outer one has
  pub seen_enter : (c : ℕ) → least_seen c r0 ≡ least_before c
  unfolding least_before least_seen
  seen_enter c = rw (least_none a (f c) r0 r0 (le_refl r0)) (omega (arith, least-start a (λ i. least a (f i) r0 r1) c0 c))

  -- a turn of it takes one more
  pub seen_more : (c r : ℕ) → r0 ≤ r → least_seen c (r + 1) ≡ min (least_seen c r) (f c r)
  unfolding least_seen
  seen_more c r h = rw (least_more a (f c) r0 r h) (omega arith)

  -- where it ends the outer one has taken one more
  pub seen_leave : (c r : ℕ) → c0 ≤ c → r0 ≤ r → r ≤ max r0 r1 → r1 ≤ r → least_seen c r ≡ least_before (c + 1)
  unfolding least_before least_seen
  seen_leave c r k p q e = rw (least_to a (f c) r0 r1 r p q e, least_more a (λ i. least a (f i) r0 r1) c0 c k)

  -- and where that ends it has them all
  pub seen-all : (c c1 : ℕ) → c0 ≤ c → c ≤ max c0 c1 → c1 ≤ c → least_before c ≡ least a (λ i. least a (f i) r0 r1) c0 c1
  unfolding least_before
  seen-all c c1 p q e = least_to a (λ i. least a (f i) r0 r1) c0 c1 c p q e
