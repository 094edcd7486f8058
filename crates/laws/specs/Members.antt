-- Gathering over the members of a list: functions that agree on them, members that give nothing, one alone that gives something; and the members of a span. Assumes nothing.
use Rattle.std.specs.Prelude.{◌≡◌, Bool, true, false, ℕ, ◌+◌, ◌≤◌, ◌<◌, length}
use Rattle.std.proofs.Math.Path.{refl}
use Rattle.std.proofs.Common.{sym, ap}
use mathlib.Core.List.Memᴰ.{cases_cons as in_cons}
use mathlib.Core.List.Memᴰ.{cast as in_cast}
use mathlib.Core.List.Memᴰ.{head as here}
use mathlib.Core.List.Memᴰ.{not-nil as not_in_nil}
use mathlib.Core.List.Memᴰ.{tail as there}
use mathlib.Core.List.{List, [], ◌∷◌, append-nil, Memᴰ as In}
use Rattle.std.proofs.Math.Logic.{⊎_elim}
use Rattle.std.proofs.Math.Decide.{ℕ_discrete}
use native.Mathlib.Omega.{arith}
use Rattle.laws.specs.Cases.{split}
use Rattle.laws.specs.Gather.{gather, only, keep}
use Rattle.laws.specs.Axis.{span}
use Rattle.laws.specs.Spans.{span_head, by_span}
use Rattle.laws.specs.Lists.{NoRepeats, none, more}

module _ {A B : Type 0} where
  -- functions that agree on the members give the same
  pub gather-same : (f g : A → List B) (is : List A) → ((i : A) → In i is → f i ≡ g i) → gather f is ≡ gather g is
  unfolding gather
  gather-same f g [] h = refl
  gather-same f g (i ∷ is) h = rw (h i (here refl), gather-same f g is (λ j k. h j (there k)))

  -- members that give nothing
  pub gather_none : (f : A → List B) (is : List A) → ((i : A) → In i is → f i ≡ []) → gather f is ≡ []
  unfolding gather
  gather_none f [] h = refl
  gather_none f (i ∷ is) h = rw (h i (here refl), gather_none f is (λ j k. h j (there k)))

  -- one member alone gives something
  pub gather-one : (f : A → List B) {is : List A} {i : A} → NoRepeats is → In i is → ((j : A) → (j ≡ i → ⊥) → f j ≡ []) → gather f is ≡ f i
  unfolding gather
  gather-one f none k h = absurd (not_in_nil k)
  gather-one f {i = i} (more {x = x} {xs = is} n r) k h =
      ⊎_elim
      (λ e.
      rw (gather_none f is (λ j m. h j (λ q. n (in_cast (sym e) (in_cast (sym q) m)))), append-nil)
      (ap f (sym e)))
      (λ m. rw (h x (λ e. n (in_cast e m))) (gather-one f r m h))
      (in_cons k)

module _ {A : Type 0} (t : A → Bool) where
  -- all members pass a test
  pub keep-all : (xs : List A) → ((a : A) → In a xs → t a ≡ true) → keep t xs ≡ xs
  unfolding gather
  keep-all [] h = refl
  keep-all (x ∷ xs) h = rw (h x (here refl), keep-all xs (λ a i. h a (there i)))

  -- no member does
  pub keep_none : (xs : List A) → ((a : A) → In a xs → t a ≡ false) → keep t xs ≡ []
  unfolding gather
  keep_none [] h = refl
  keep_none (x ∷ xs) h = rw (h x (here refl), keep_none xs (λ a i. h a (there i)))

  -- no more are kept than there are
  pub keep-few : (xs : List A) → length (keep t xs) ≤ length xs
  unfolding gather
  keep-few [] = omega arith
  keep-few (x ∷ xs) = let h = keep-few xs in split (t x) (λ e. rw e (omega arith)) (λ e. rw e (omega arith))

-- tests that agree on the members keep the same
pub keep-same : {A : Type 0} (s t : A → Bool) (xs : List A) → ((a : A) → In a xs → s a ≡ t a) → keep s xs ≡ keep t xs
keep-same s t xs h = gather-same (λ a. only (s a) a) (λ a. only (t a) a) xs (λ a i. rw (h a i))

-- a span has every number from a to b
pub in_span : (i b a : ℕ) → a ≤ i → i < b → In i (span a b)
in_span i b =
    by_span (λ a. a ≤ i → i < b → In i (span a b)) b
    (λ a h p q. absurd (let z : ⊥ = omega arith in z))
    (λ a h ih p q. rw (span_head a b h) (first a ih p q (ℕ_discrete i a)))
  where
    first : (a : ℕ) → (a + 1 ≤ i → i < b → In i (span (a + 1) b)) → a ≤ i → i < b → Dec (i ≡ a) → In i (a ∷ span (a + 1) b)
    first a ih p q (yes e) = here e
    first a ih p q (no n) = there (ih (omega arith) q)
