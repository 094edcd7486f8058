-- Tests that are one; largest numbers up to where they end; smallest numbers from other starts; the smallest and the largest by what they grow with; multiples by powers
-- of two. Assumes nothing.
use Rattle.std.specs.Prelude.{◌≡◌, refl, Bool, true, false, ◌&&◌, leb}
use Rattle.std.proofs.Common.{sym, ap, ◌∙◌, mul_assoc, mul_comm, mul-le-mul_left, pow_mono, pow-add, le-leb, leb-true}
use Rattle.std.proofs.lemmas.Bool.{false≢true}
use Rattle.std.proofs.Math.Logic.{⊎_elim}
use Prim.Native.Nat.{ℕ, zero, suc, ◌+◌, ◌-◌, ◌*◌, ◌%◌, ◌^◌, ◌≤◌, ◌<◌, min, max}
use Rattle.std.proofs.Math.Nat.{mul-mod_left, mul-lt-mul_of_pos_left}
use native.Mathlib.Omega.{arith}
use Rattle.std.proofs.Math.Pow.{pow-lt}
use Rattle.laws.specs.Cases.{le_or_lt, and_false}
use Rattle.laws.specs.Below.{all_below, all-at, max_below, max-at, max-least, min_below, min-at}
use Rattle.laws.specs.Pointwise.{all_true}
use Rattle.laws.specs.Least.{min_from}

-- tests that are true together are one
pub same_tests : (a b : Bool) → (a ≡ true → b ≡ true) → (b ≡ true → a ≡ true) → a ≡ b
same_tests true b f g = sym (f refl)
same_tests false true f g = absurd (false≢true (g refl))
same_tests false false f g = refl

-- two tests of all, one after the other
swapped : (a b c d : Bool) → ((a && b) && (c && d)) ≡ ((a && c) && (b && d))
swapped true true c d = refl
swapped true false c d = sym (and_false c)
swapped false b c d = refl

pub all-and : (f g : ℕ → Bool) (n : ℕ) → all_below (λ i. f i && g i) n ≡ (all_below f n && all_below g n)
unfolding all_below
all-and f g zero = refl
all-and f g (suc n) = rw (all-and f g n) (swapped (all_below f n) (all_below g n) (f n) (g n))

-- a test that every number from m on passes is one of those below m
pub all_up_to : (f : ℕ → Bool) (m : ℕ) → ((k : ℕ) → m ≤ k → f k ≡ true) → (n : ℕ) → all_below f (min n m) ≡ all_below f n
all_up_to f m h n =
    same_tests _ _
    (λ t. all_true f n (λ i l. ⊎_elim (h i) (λ (k : i < m). all-at f (min n m) t i (omega arith)) (le_or_lt m i)))
    (λ t. all_true f (min n m) (λ i l. all-at f n t i (omega arith)))

-- a largest number, where those from m on are 0, is that of those below m
pub max_up_to : (f : ℕ → ℕ) (m : ℕ) → ((k : ℕ) → m ≤ k → f k ≡ 0) → (n : ℕ) → max_below f (min n m) ≡ max_below f n
max_up_to f m h n =
    let low : max_below f (min n m) ≤ max_below f n = max-least f (min n m) (max_below f n) (λ i l. max-at f n i (omega arith)) in
    let high : max_below f n ≤ max_below f (min n m)
    = max-least f n (max_below f (min n m)) (λ i l. ⊎_elim (λ k. omega (arith, h i k)) (λ (k : i < m). max-at f (min n m) i (omega arith)) (le_or_lt m i)) in
    omega arith

-- the smallest does not depend on where it starts, if that is no smaller than the first
pub min_restart : (a b : ℕ) (f : ℕ → ℕ) (n : ℕ) → 0 < n → f 0 ≤ a → a ≤ b → min_below a f n ≡ min_below b f n
min_restart a b f n some h k =
    let both : min a b ≡ a = omega arith in
    let low : min_below b f n ≤ a = omega (arith, min-at b f n 0 some) in
    rw (← both) (min_from a b f n ∙ (let e : min a (min_below b f n) ≡ min_below b f n = omega arith in e))

-- of numbers f (e i), where f grows, the smallest is that of the smallest e i, and all are at most m if that of the largest e i is
module _ (f : ℕ → ℕ) (grows : (x y : ℕ) → x ≤ y → f x ≤ f y) (e : ℕ → ℕ) where
  pub min_grown : (a k : ℕ) → a ≤ f k → (n : ℕ) → min_below a (λ i. f (e i)) n ≡ min a (f (min_below k e n))
  unfolding min_below
  min_grown a k h zero = omega arith
  min_grown a k h (suc n) =
      let x : ℕ = min_below k e n in
      rw (min_grown a k h n)
      (⊎_elim
      (λ (l : x ≤ e n). let s : min x (e n) ≡ x = omega arith in rw s (omega (arith, grows x (e n) l)))
      (λ (l : e n < x). let s : min x (e n) ≡ e n = omega arith in rw s (omega (arith, grows (e n) x (omega arith))))
      (le_or_lt x (e n)))

  most_grown : (m : ℕ) → f 0 ≤ m → (n : ℕ) → ((i : ℕ) → i < n → f (e i) ≤ m) → f (max_below e n) ≤ m
  unfolding max_below
  most_grown m h zero k = h
  most_grown m h (suc n) k =
      let x : ℕ = max_below e n in
      ⊎_elim
      (λ l. let s : max x (e n) ≡ e n = omega arith in rw s (k n (omega arith)))
      (λ l. let s : max x (e n) ≡ x = omega arith in rw s (most_grown m h n (λ i j. k i (omega arith))))
      (le_or_lt x (e n))

  pub all_grown : (m : ℕ) → f 0 ≤ m → (n : ℕ) → all_below (λ i. leb (f (e i)) m) n ≡ leb (f (max_below e n)) m
  all_grown m h n =
      same_tests _ _
      (λ t. le-leb _ _ (most_grown m h n (λ i l. leb-true _ _ (all-at (λ i. leb (f (e i)) m) n t i l))))
      (λ t. all_true (λ i. leb (f (e i)) m) n (λ i l. le-leb (f (e i)) m (omega (arith, grows (e i) (max_below e n) (max-at e n i l), leb-true (f (max_below e n)) m t))))

-- multiples of d by powers of two grow with the exponent, and of two the smaller divides the larger
pub shifted_grows : (d j k : ℕ) → j ≤ k → d * 2 ^ j ≤ d * 2 ^ k
shifted_grows d j k h = mul-le-mul_left d (pow_mono h)

pub shifted_multiple : (d j k : ℕ) → 1 ≤ d → d * 2 ^ j ≤ d * 2 ^ k → d * 2 ^ k % (d * 2 ^ j) ≡ 0
shifted_multiple d j k pos h =
    ⊎_elim
    (λ (l : j ≤ k).
    let at : k ≡ k - j + j = omega arith in
    let e : d * 2 ^ k ≡ 2 ^ (k - j) * (d * 2 ^ j)
    = ap (λ (n : ℕ). d * 2 ^ n) at ∙ rw (pow-add 2 (k - j) j, ← (mul_assoc d (2 ^ (k - j)) (2 ^ j)), mul_comm d (2 ^ (k - j)), mul_assoc (2 ^ (k - j)) d (2 ^ j)) in
    rw e (mul-mod_left (2 ^ (k - j)) (d * 2 ^ j)))
    (λ (l : k < j). absurd (let z : ⊥ = omega (arith, mul-lt-mul_of_pos_left {k = d} (pow-lt l) pos) in z))
    (le_or_lt j k)
