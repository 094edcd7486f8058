-- The greatest common divisor by Euclid's algorithm, of two numbers and of some: it divides each of them, and whatever divides all of them divides it. Assumes nothing.
use Rattle.std.specs.Prelude.{◌≡◌, cond, eqb}
use Prim.Native.Nat.{ℕ, zero, suc, ◌%◌, ◌≤◌, ◌<◌, ◌∣◌}
use Rattle.std.proofs.Common.{pos_of_ne-zero, mod-lt, arith, eqb-true}
use Rattle.std.proofs.Math.Nat.{dvd_refl, dvd-zero, dvd_trans, dvd-mod_iff}
use Rattle.std.proofs.lemmas.Bool.{eqb-false}
use Rattle.laws.specs.Cases.{split}
use Rattle.laws.specs.Below.{not-below, last_or}

-- of a and b, in at most n turns; b falls with each
unfoldable pub gcd_in : ℕ → ℕ → ℕ → ℕ
gcd_in zero a b = a
gcd_in (suc n) a b = cond (eqb b 0) a (gcd_in n b (a % b))

abbrev pub gcd : ℕ → ℕ → ℕ
gcd a b = gcd_in b a b

-- of a and f 0 .. f (n - 1)
unfoldable pub gcd_below : ℕ → (ℕ → ℕ) → ℕ → ℕ
gcd_below a f zero = a
gcd_below a f (suc n) = gcd (gcd_below a f n) (f n)

-- what is right of d as the greatest common divisor of a and b
pub record Greatest (a b d : ℕ) : Type 0 where
  pub first : d ∣ a
  pub second : d ∣ b
  pub greatest : (m : ℕ) → m ∣ a → m ∣ b → m ∣ d

-- of a and 0 it is a
last_turn : (a b : ℕ) → b ≡ 0 → Greatest a b a
last_turn a b e = record { first = dvd_refl a; second = rw e (dvd-zero a); greatest = λ m p q. p }

-- that of b and what a leaves by b is that of a and b
turn : (a b d : ℕ) → Greatest b (a % b) d → Greatest a b d
turn a b d g =
    record {
      first = (dvd-mod_iff d g.first).0 g.second;
      second = g.first;
      greatest = λ m p q. g.greatest m q ((dvd-mod_iff m q).1 p);
    }

gcd_in_lem : (n a b : ℕ) → b ≤ n → Greatest a b (gcd_in n a b)
unfolding gcd_in
gcd_in_lem zero a b h = last_turn a b (omega arith)
gcd_in_lem (suc n) a b h =
    split (eqb b 0)
    (λ e. rw e (last_turn a b (eqb-true b 0 e)))
    (λ e.
    let some : 0 < b = pos_of_ne-zero (eqb-false b 0 e) in
    rw e (turn a b (gcd_in n b (a % b)) (gcd_in_lem n b (a % b) (omega (arith, mod-lt a {m = b} some)))))

pub gcd-greatest : (a b : ℕ) → Greatest a b (gcd a b)
gcd-greatest a b = gcd_in_lem b a b (omega arith)

module _ (a : ℕ) (f : ℕ → ℕ) where
  pub common-start : (n : ℕ) → gcd_below a f n ∣ a
  unfolding gcd_below
  common-start zero = dvd_refl a
  common-start (suc n) = dvd_trans _ (gcd-greatest (gcd_below a f n) (f n)).first (common-start n)

  pub common-at : (n i : ℕ) → i < n → gcd_below a f n ∣ f i
  unfolding gcd_below
  common-at zero i h = not-below i h
  common-at (suc n) i h =
      let g = gcd-greatest (gcd_below a f n) (f n) in
      last_or h (λ e. rw e g.second) (λ l. dvd_trans _ g.first (common-at n i l))

  pub common-greatest : (m n : ℕ) → m ∣ a → ((i : ℕ) → i < n → m ∣ f i) → m ∣ gcd_below a f n
  unfolding gcd_below
  common-greatest m zero p h = p
  common-greatest m (suc n) p h = (gcd-greatest (gcd_below a f n) (f n)).greatest m (common-greatest m n p (λ i l. h i (omega arith))) (h n (omega arith))
