-- What a test means: it is true exactly if a fact holds, and tests that are joined mean the facts joined. Assumes nothing.
use Rattle.std.specs.Prelude.{◌≡◌, refl, Bool, true, false, not, ◌&&◌, ◌||◌, ◌↔◌, ◌⊎◌, ℕ, ◌+◌, ◌-◌, ◌≤◌, ◌<◌, ltb, leb, eqb}
use Rattle.std.proofs.lemmas.Bool.{false≢true}
use Rattle.std.proofs.Common.{inl, inr, ⊎_elim, arith, ltb-true, lt-ltb, leb-true, le-leb, eqb-true, eq-eqb}
use Rattle.laws.specs.Cases.{and_true, and_both}
use Rattle.laws.specs.Below.{all_below, all-at}
use Rattle.laws.specs.Pointwise.{all_true}

-- the test t is true exactly if P holds
abbrev pub Means : Bool → Type 0 → Type 0
Means t P = (t ≡ true) ↔ P

-- two numbers compared
pub ltb-means : (a b : ℕ) → Means (ltb a b) (a < b)
ltb-means a b = (ltb-true a b, lt-ltb a b)

pub leb-means : (a b : ℕ) → Means (leb a b) (a ≤ b)
leb-means a b = (leb-true a b, le-leb a b)

pub eqb-means : (a b : ℕ) → Means (eqb a b) (a ≡ b)
eqb-means a b = (eqb-true a b, eq-eqb a b)

-- the same fact in other words
pub means_by : {t : Bool} {P Q : Type 0} → Means t P → (P → Q) → (Q → P) → Means t Q
means_by m f g = (λ e. f (m.0 e), λ q. m.1 (g q))

-- both, either, one where the other holds, and every number below n
pub and-means : {a b : Bool} {P Q : Type 0} → Means a P → Means b Q → Means (a && b) (P × Q)
and-means {a} {b} p q = (λ e. let w = and_true a b e in (p.0 w.0, q.0 w.1), λ w. and_both (p.1 w.0) (q.1 w.1))

pub or-means : {a b : Bool} {P Q : Type 0} → Means a P → Means b Q → Means (a || b) (P ⊎ Q)
or-means {a = true} p q = (λ e. inl (p.0 refl), λ w. refl)
or-means {a = false} p q = (λ e. inr (q.0 e), λ w. ⊎_elim (λ h. absurd (false≢true (p.1 h))) q.1 w)

pub if_means : {a b : Bool} {P Q : Type 0} → Means a P → Means b Q → Means (not a || b) (P → Q)
if_means {a = true} p q = (λ e h. q.0 e, λ w. q.1 (w (p.0 refl)))
if_means {a = false} p q = (λ e h. absurd (false≢true (p.1 h)), λ w. refl)

pub all-means : (f : ℕ → Bool) (n : ℕ) {P : ℕ → Type 0} → ((i : ℕ) → Means (f i) (P i)) → Means (all_below f n) ((i : ℕ) → i < n → P i)
all-means f n m = (λ e i h. (m i).0 (all-at f n e i h), λ w. all_true f n (λ i h. (m i).1 (w i h)))

-- every number from a up to n
pub from_means : (f : ℕ → Bool) (a n : ℕ) {P : ℕ → Type 0} → ((i : ℕ) → Means (f i) (P i)) → Means (all_below (λ j. f (a + j)) (n - a)) ((i : ℕ) → a ≤ i → i < n → P i)
from_means f a n {P} m =
    means_by (all-means (λ j. f (a + j)) (n - a) (λ j. m (a + j)))
    (λ w i l h. let e : i ≡ a + (i - a) = omega arith in rw e (w (i - a) (omega arith)))
    (λ w j h. w (a + j) (omega arith) (omega arith))
