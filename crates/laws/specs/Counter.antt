-- Counters, one for each key, as in T.800's 'for the next precinct k, if one exists': of a list of visits each that passes a test takes the next number
-- of its key, if there is one; and when these are the numbers that a formula gives. Assumes nothing.
use Rattle.std.specs.Prelude.{◌≡◌, Bool, true, false, cond, ◌&&◌, ◌⊎◌, ℕ, ◌+◌, ◌≤◌, ◌<◌, eqb, ltb}
use Rattle.std.proofs.Math.Path.{refl}
use Rattle.std.proofs.Common.{sym, ap, ◌∙◌, arith, lt-ltb, le-ltb, eq-eqb, ne_eqb}
use mathlib.Core.List.{List, [], ◌∷◌, map, cons≢nil, head-eq_of_cons-eq, tail-eq_of_cons-eq}
use Rattle.std.proofs.Math.Logic.{inl, inr, ⊎_elim}
use Rattle.laws.specs.Cases.{le_or_lt}
use Rattle.laws.specs.Gather.{gather, keep}
use Rattle.laws.specs.Axis.{span}
use Rattle.laws.specs.Spans.{span_head, span_end}

-- a test decides whether two keys are the same
pub record Decides {K : Type 0} (same : K → K → Bool) : Type 0 where
  pub alike : (i : K) → same i i ≡ true
  pub equal : (i j : K) → same i j ≡ true → i ≡ j

-- the counters k once that of the key i is one further
abbrev pub raised : {K : Type 0} → (K → K → Bool) → K → (K → ℕ) → K → ℕ
raised same i k j = cond (same i j) (k j + 1) (k j)

module _ {A K : Type 0} (same : K → K → Bool) (key : A → K) where
  -- the visits of the key i
  abbrev pub of : K → List A → List A
  of i = keep (λ a. same (key a) i)

  module _ (passes : A → Bool) (n : K → ℕ) where
    -- THE COUNTERS. A visit that passes takes the number at which its key's counter stands, if that is below n, and the counter goes one further
    unfoldable pub tallied : (K → ℕ) → List A → List (A × ℕ)
    tallied k [] = []
    tallied k (a ∷ l) =
        elim (passes a && ltb (k (key a)) (n (key a))) [
          | true ↦ (a, k (key a)) ∷ tallied (raised same (key a) k) l
          | false ↦ tallied k l
        ]

-- NUMBERS IN ORDER. A span that starts with x
span-starts : (x k n : ℕ) (l : List ℕ) → x ∷ l ≡ span k n → (k < n) × (x ≡ k) × (l ≡ span (k + 1) n)
span-starts x k n l e =
    ⊎_elim
    (λ h. absurd (cons≢nil (e ∙ span_end k n h)))
    (λ h. let d : x ∷ l ≡ k ∷ span (k + 1) n = e ∙ span_head k n h in (h, head-eq_of_cons-eq d, tail-eq_of_cons-eq d))
    (le_or_lt n k)

module _ {A : Type 0} (f : A → ℕ) (m n : ℕ) where
  above : (l : List A) (k : ℕ) → map f l ≡ span k n → m < k → keep (λ a. eqb (f a) m) l ≡ []
  unfolding gather
  above [] k e h = refl
  above (a ∷ l) k e h =
      let (b, x, c) = span-starts (f a) k n (map f l) e in
      rw (ne_eqb (f a) m (λ z. omega arith), above l (k + 1) c (omega arith))

  -- where f numbers a list k, k + 1, .., n - 1, exactly one element has the number m
  pub numbered_once : (l : List A) (k : ℕ) → map f l ≡ span k n → k ≤ m → m < n → (a : A) × (keep (λ a. eqb (f a) m) l ≡ a ∷ [])
  unfolding gather
  numbered_once [] k e h g = absurd (cons≢nil (sym (e ∙ span_head k n (omega arith))))
  numbered_once (a ∷ l) k e h g =
      let (b, x, c) = span-starts (f a) k n (map f l) e in
      ⊎_elim
      (λ (z : m ≤ k). (a, rw (eq-eqb (f a) m (omega arith), above l (k + 1) c (omega arith))))
      (λ (z : k < m). let (d, w) = numbered_once l (k + 1) c (omega arith) g in (d, rw (ne_eqb (f a) m (λ q. omega arith)) w))
      (le_or_lt m k)

module _ {A K : Type 0} (same : K → K → Bool) (decides : Decides same) (key : A → K) (passes : A → Bool) (n : K → ℕ) (f : A → ℕ) where
  -- the formula gives the numbers of the key i in order, from the counter on; or the key is not visited
  abbrev pub Keyed : (K → ℕ) → List A → K → Type 0
  Keyed k l i = (of same key i l ≡ []) ⊎ (map f (keep passes (of same key i l)) ≡ span (k i) (n i))

  -- the visits that pass, of keys that have numbers at all, with the formula's numbers
  abbrev formula : List A → List (A × ℕ)
  formula l = map (λ a. (a, f a)) (keep (λ a. passes a && ltb 0 (n (key a))) l)

  module _ (a : A) (l : List A) (k : K → ℕ) (j : K) where
    other : same (key a) j ≡ false → Keyed k (a ∷ l) j → Keyed k l j
    unfolding gather
    other q (inl e) = inl (rw q at e)
    other q (inr e) = inr (rw q at e)

    passed : same (key a) j ≡ true → passes a ≡ false → Keyed k (a ∷ l) j → Keyed k l j
    unfolding gather
    passed q t (inl e) = absurd (cons≢nil (rw q at e))
    passed q t (inr e) = inr (rw (q, t) at e)

    taken : same (key a) j ≡ true → passes a ≡ true → Keyed k (a ∷ l) j
        → (k j < n j) × (f a ≡ k j) × (map f (keep passes (of same key j l)) ≡ span (k j + 1) (n j))
    unfolding gather
    taken q t (inl e) = absurd (cons≢nil (rw q at e))
    taken q t (inr e) = span-starts (f a) (k j) (n j) (map f (keep passes (of same key j l))) (rw (q, t) at e)

  turn : (a : A) (l : List A) (k : K → ℕ) → ((i : K) → 0 < n i → Keyed k (a ∷ l) i)
      → ((k : K → ℕ) → ((i : K) → 0 < n i → Keyed k l i) → tallied same key passes n k l ≡ formula l)
      → tallied same key passes n k (a ∷ l) ≡ formula (a ∷ l)
  unfolding gather tallied
  turn a l k e ih = by (passes a) refl
    where
      i : K
      i = key a

      missed : passes a ≡ false → (j : K) → 0 < n j → (t : Bool) → same i j ≡ t → Keyed k l j
      missed t j h true q = passed a l k j q t (e j h)
      missed t j h false q = other a l k j q (e j h)

      next : passes a ≡ true → (j : K) → 0 < n j → (t : Bool) → same i j ≡ t → Keyed (raised same i k) l j
      next t j h true q = inr (rw q (taken a l k j q t (e j h)).2)
      next t j h false q = rw q (other a l k j q (e j h))

      -- a key that has no number is not one that has
      barred : n i ≤ 0 → (j : K) → 0 < n j → (t : Bool) → same i j ≡ t → Keyed k l j
      barred z j h true q = let c : n i ≡ n j = ap n (decides.equal i j q) in absurd (let b : ⊥ = omega arith in b)
      barred z j h false q = other a l k j q (e j h)

      by : (t : Bool) → passes a ≡ t → tallied same key passes n k (a ∷ l) ≡ formula (a ∷ l)
      by true t =
          ⊎_elim
          (λ (z : n i ≤ 0).
          rw (tallied, t, le-ltb (k i) (n i) (omega arith), le-ltb 0 (n i) z) (ih k (λ j h. barred z j h (same i j) refl)))
          (λ (z : 0 < n i).
          let (b, x, c) = taken a l k i (decides.alike i) t (e i z) in
          rw (tallied, t, lt-ltb (k i) (n i) b, lt-ltb 0 (n i) z, ih (raised same i k) (λ j h. next t j h (same i j) refl), x))
          (le_or_lt (n i) 0)
      by false t = rw (tallied, t) (ih k (λ j h. missed t j h (same i j) refl))

  -- where a formula gives the numbers of each key in order, the counters give the same, to all that pass and have a key with numbers
  pub tally_agrees : (k : K → ℕ) (l : List A) → ((i : K) → 0 < n i → Keyed k l i)
      → tallied same key passes n k l ≡ map (λ a. (a, f a)) (keep (λ a. passes a && ltb 0 (n (key a))) l)
  unfolding gather tallied
  tally_agrees k [] e = refl
  tally_agrees k (a ∷ l) e = turn a l k e (λ k. tally_agrees k l)
