-- Tests, largest and smallest below n, and what is gathered, depend on the values below n only; an array that is filled from the front holds what was put there. Assumes nothing.
use Rattle.std.specs.Prelude.{◌≡◌, refl, Bool, true, List, [], ◌∷◌, ◌++◌, map, ℕ, zero, suc, ◌+◌, ◌-◌, ◌≤◌, ◌<◌, length, get_or, replicate}
use Rattle.std.proofs.Common.{ap, ◌∙◌, ⊎_elim, one-mul, arith, get_or-append-add}
use Rattle.std.proofs.lemmas.List.{length-replicate, get_or-replicate}
use Rattle.std.proofs.Math.ListN.{get_or-append, get_or-eq_default}
use Rattle.laws.specs.Cases.{le_or_lt}
use Rattle.laws.specs.Gather.{gather}
use Rattle.laws.specs.Axis.{span, up, up_grows}
use Rattle.laws.specs.Below.{all_below, max_below, min_below, sum_below}
use Rattle.laws.specs.Axes.{axis-bounds}
use Rattle.laws.specs.Members.{gather-same}
use Rattle.laws.specs.Indexing.{gather-at, gather-length, sum_constant}

-- a test that every number below n passes
pub all_true : (f : ℕ → Bool) (n : ℕ) → ((i : ℕ) → i < n → f i ≡ true) → all_below f n ≡ true
unfolding all_below
all_true f zero h = refl
all_true f (suc n) h = rw (all_true f n (λ i l. h i (omega arith)), h n (omega arith))

-- what depends on the values below n
pub all-same : (f g : ℕ → Bool) (n : ℕ) → ((i : ℕ) → i < n → f i ≡ g i) → all_below f n ≡ all_below g n
unfolding all_below
all-same f g zero h = refl
all-same f g (suc n) h = rw (all-same f g n (λ i l. h i (omega arith)), h n (omega arith))

pub max-same : (f g : ℕ → ℕ) (n : ℕ) → ((i : ℕ) → i < n → f i ≡ g i) → max_below f n ≡ max_below g n
unfolding max_below
max-same f g zero h = refl
max-same f g (suc n) h = rw (max-same f g n (λ i l. h i (omega arith)), h n (omega arith))

pub min-same : (a : ℕ) (f g : ℕ → ℕ) (n : ℕ) → ((i : ℕ) → i < n → f i ≡ g i) → min_below a f n ≡ min_below a g n
unfolding min_below
min-same a f g zero h = refl
min-same a f g (suc n) h = rw (min-same a f g n (λ i l. h i (omega arith)), h n (omega arith))

pub span-same : {B : Type 0} (f g : ℕ → List B) (n : ℕ) → ((i : ℕ) → i < n → f i ≡ g i) → gather f (span 0 n) ≡ gather g (span 0 n)
span-same f g n h = gather-same f g (span 0 n) (λ i m. h i (axis-bounds up up_grows n 0 n i (omega arith) m).1)

-- f 0, f 1, .. f (n - 1)
map_single : {A B : Type 0} (f : A → B) (xs : List A) → map f xs ≡ gather (λ x. f x ∷ []) xs
unfolding gather
map_single f [] = refl
map_single f (x ∷ xs) = rw (map_single f xs)

module _ {A : Type 0} (f : ℕ → A) where
  pub map-at : (n i : ℕ) (d : A) → i < n → get_or (map f (span 0 n)) i d ≡ f i
  map-at n i d h =
      let at : i ≡ sum_below (λ j. 1) i + 0 = rw (sum_constant 1 i, one-mul i) (omega arith) in
      rw (map_single f (span 0 n)) (ap (λ (k : ℕ). get_or (gather (λ x. f x ∷ []) (span 0 n)) k d) at ∙ gather-at (λ x. f x ∷ []) n i 0 d h (omega arith))

  pub map-length : (n : ℕ) → length (map f (span 0 n)) ≡ n
  map-length n = rw (map_single f (span 0 n), gather-length (λ x. f x ∷ []) n, sum_constant 1 n, one-mul n)

  -- filled from the front, and blank beyond
  module _ (m n : ℕ) (blank : A) where
    pub filled-at : (i : ℕ) → i < n → get_or (map f (span 0 n) ++ replicate (m - n) blank) i blank ≡ f i
    filled-at i h =
        let l : i < length (map f (span 0 n)) = rw (map-length n) h in
        rw (get_or-append (map f (span 0 n)) (replicate (m - n) blank) blank i l) (map-at n i blank h)

    blanks : (k j : ℕ) → get_or (replicate k blank) j blank ≡ blank
    blanks k j =
        ⊎_elim
        (λ (h : k ≤ j). get_or-eq_default (replicate k blank) blank (rw (length-replicate k blank) h))
        (λ h. get_or-replicate k j blank blank h)
        (le_or_lt k j)

    pub filled_beyond : (i : ℕ) → get_or (map f (span 0 n) ++ replicate (m - n) blank) (n + i) blank ≡ blank
    filled_beyond i =
        let at : n + i ≡ length (map f (span 0 n)) + i = rw (map-length n) refl in
        rw (at, get_or-append-add (map f (span 0 n)) (replicate (m - n) blank) i blank) (blanks (m - n) i)
