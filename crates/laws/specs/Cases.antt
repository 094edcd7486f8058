-- Cases of a test, of an order, of a conjunction and of a choice. Assumes nothing.
use Rattle.std.specs.Prelude.{◌≡◌, refl, Bool, true, false, cond, not, ◌&&◌, ◌||◌, ◌⊎◌, ℕ, zero, suc, ◌≤◌, ◌<◌}
use Rattle.std.proofs.Common.{sym, inl, inr, ⊎_elim, zero-le, suc-le-suc, arith}

-- one number is at most the other, or above it
pub le_or_lt : (a b : ℕ) → (a ≤ b) ⊎ (b < a)
le_or_lt zero b = inl zero-le
le_or_lt (suc a) zero = inr (suc-le-suc zero-le)
le_or_lt (suc a) (suc b) = ⊎_elim (λ p. inl (suc-le-suc p)) (λ q. inr (suc-le-suc q)) (le_or_lt a b)

-- a test is true or false, and says so
pub split : {C : Type 0} (t : Bool) → (t ≡ true → C) → (t ≡ false → C) → C
split true yes? no? = yes? refl
split false yes? no? = no? refl

pub and_false : (a : Bool) → (a && false) ≡ false
and_false true = refl
and_false false = refl

pub or_true : (a : Bool) → (a || true) ≡ true
or_true true = refl
or_true false = refl

pub and_true : (a b : Bool) → (a && b) ≡ true → (a ≡ true) × (b ≡ true)
and_true true b p = (refl, p)
and_true false b p = (p, cc)

pub and_both : {a b : Bool} → a ≡ true → b ≡ true → (a && b) ≡ true
and_both {a} {b} p q = rw (p, q)

-- a negated test
pub not_true : (a : Bool) → not a ≡ true → a ≡ false
not_true true e = sym e
not_true false e = refl

pub not_false : (a : Bool) → not a ≡ false → a ≡ true
not_false true e = refl
not_false false e = sym e

-- a test that is asked only where another is passed
pub asked-same : (a b c : Bool) → (a ≡ true → b ≡ c) → (not a || b) ≡ (not a || c)
asked-same true b c h = h refl
asked-same false b c h = refl

-- a choice that gives 0 has passed its test, where failing it gives another number
pub cond_zero : (t : Bool) (a n : ℕ) → (t ≡ false → n ≡ 0 → ⊥) → cond t a n ≡ 0 → (t ≡ true) × (a ≡ 0)
cond_zero true a n h e = (refl, e)
cond_zero false a n h e = absurd (h refl e)

-- one that gives more than a number has, where failing it gives 0
pub cond_some : {i : ℕ} (t : Bool) (n : ℕ) → i < cond t n 0 → (t ≡ true) × (i < n)
cond_some true n h = (refl, h)
cond_some false n h = absurd (let z : ⊥ = omega arith in z)

module _ {A : Type 0} where
  -- a test in which the two differ tells which was chosen
  pub cond-told : (good : A → Bool) (t : Bool) (a b : A) → good a ≡ true → good b ≡ false → good (cond t a b) ≡ t
  cond-told good true a b p q = p
  cond-told good false a b p q = q

  -- two tests that fail to the same are one
  pub cond-and : (s t : Bool) (a b : A) → cond s (cond t a b) b ≡ cond (s && t) a b
  cond-and true t a b = refl
  cond-and false t a b = refl
