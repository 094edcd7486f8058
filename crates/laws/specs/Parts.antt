-- Tests that mean the same are the same; so a test of every number below m is two tests, of the numbers below n and of those from n on. Assumes nothing.
use Rattle.std.specs.Prelude.{◌≡◌, refl, Bool, true, false, ◌&&◌, ℕ, ◌+◌, ◌-◌, ◌≤◌, ◌<◌}
use Rattle.std.proofs.Common.{sym, ◌∙◌, ⊎_elim, arith}
use Rattle.laws.specs.Cases.{le_or_lt}
use Rattle.laws.specs.Below.{all_below}
use Rattle.laws.specs.Means.{Means, means_by, and-means, all-means, from_means}

-- two tests that mean one fact
pub means-same : {a b : Bool} {P : Type 0} → Means a P → Means b P → a ≡ b
means-same {a = true} p q = sym (q.1 (p.0 refl))
means-same {a = false} {b = true} p q = p.1 (q.0 refl)
means-same {a = false} {b = false} p q = refl

-- a test means that it is true
pub itself : (t : Bool) → Means t (t ≡ true)
itself t = (λ e. e, λ e. e)

-- h is f below n and g from there on
module _ (h f g : ℕ → Bool) (n m : ℕ) (fits : n ≤ m) (below : (i : ℕ) → i < n → h i ≡ f i) (beyond : (i : ℕ) → n ≤ i → h i ≡ g i) where
  pub all-parts : all_below h m ≡ (all_below f n && all_below (λ j. g (n + j)) (m - n))
  all-parts =
      means-same
      (all-means h m (λ i. itself (h i)))
      (means_by (and-means (all-means f n (λ i. itself (f i))) (from_means g n m (λ i. itself (g i))))
      (λ w i l. ⊎_elim (λ p. beyond i p ∙ w.1 i p l) (λ p. below i p ∙ w.0 i p) (le_or_lt n i))
      (λ w. (λ i l. sym (below i l) ∙ w i (omega arith), λ i p l. sym (beyond i p) ∙ w i l)))
