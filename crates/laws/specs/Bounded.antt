-- What holds of every element: of a gathered list, of a list of numbers below a bound, of an array filled from the front. Assumes nothing.
use Rattle.std.specs.Prelude.{◌≡◌, List, [], ◌∷◌, ◌++◌, map, length, get_or, replicate}
use Rattle.std.proofs.Common.{sym, ◌∙◌, ⊎_elim, add-one, arith, length-append, ext_get_or, get_or-append-add}
use Prim.Native.Nat.{ℕ, zero, suc, ◌+◌, ◌-◌, ◌≤◌, ◌<◌}
use Rattle.std.proofs.lemmas.List.{length-replicate}
use Rattle.std.proofs.Math.ListN.{get_or-append}
use Rattle.laws.specs.Cases.{le_or_lt}
use Rattle.laws.specs.Gather.{gather}
use Rattle.laws.specs.Axis.{span}
use Rattle.laws.specs.Spans.{span_end}
use Rattle.laws.specs.Below.{sum_below, sum_none}
use Rattle.laws.specs.Indexing.{gather_last, gather-length}
use Rattle.laws.specs.Pointwise.{map-length, filled-at, filled_beyond}

-- a fact of each element of each part, and of where it stands, is one of all that is gathered
pub gather-all : {B : Type 0} (f : ℕ → List B) (d : B) (P : ℕ → B → Type 0) (n : ℕ)
    → ((c j : ℕ) → c < n → j < length (f c) → P (sum_below (λ i. length (f i)) c + j) (get_or (f c) j d))
    → (i : ℕ) → i < length (gather f (span 0 n)) → P i (get_or (gather f (span 0 n)) i d)
gather-all f d P zero h i l = absurd (let e = gather-length f 0 in let z : ⊥ = omega (arith, sum_none (λ j. length (f j))) in z)
gather-all {B = B} f d P (suc n) h i l =
    let front : List B = gather f (span 0 n) in
    let parts : gather f (span 0 (suc n)) ≡ front ++ f n = rw (add-one n) at (gather_last f n) in
    let k : i < length front + length (f n) = rw (← (length-append front (f n)), ← parts) l in
    rw parts
    (⊎_elim
    (λ (m : length front ≤ i).
    let at : i ≡ length front + (i - length front) = omega arith in
    let j : i - length front < length (f n) = omega arith in
    let e : length front ≡ sum_below (λ c. length (f c)) n = gather-length f n in
    rw (at, get_or-append-add front (f n) (i - length front) d) (rw (← e) at (h n (i - length front) (omega arith) j)))
    (λ (m : i < length front). rw (get_or-append front (f n) d i m) (gather-all f d P n (λ c j a b. h c j (omega arith) b) i m))
    (le_or_lt (length front) i))

-- every element is below n (and so is the 0 that stands for those beyond the end)
abbrev pub Bounded : ℕ → List ℕ → Type 0
Bounded n xs = (i : ℕ) → get_or xs i 0 < n

-- the same, element by element
abbrev pub Each : ℕ → List ℕ → Type 0
Each n [] = Unit
Each n (x ∷ xs) = (x < n) × Each n xs

module _ (n : ℕ) where
  pub bounded-each : (xs : List ℕ) → 0 < n → Each n xs → Bounded n xs
  bounded-each [] h b i = h
  bounded-each (x ∷ xs) h b zero = b.0
  bounded-each (x ∷ xs) h b (suc i) = bounded-each xs h b.1 i

  pub bounded-append : (xs ys : List ℕ) → Bounded n xs → Bounded n ys → Bounded n (xs ++ ys)
  bounded-append [] ys a b i = b i
  bounded-append (x ∷ xs) ys a b zero = a 0
  bounded-append (x ∷ xs) ys a b (suc i) = bounded-append xs ys (λ j. a (suc j)) b i

  pub bounded-gather : (f : ℕ → List ℕ) (m : ℕ) → 0 < n → ((i : ℕ) → i < m → Bounded n (f i)) → Bounded n (gather f (span 0 m))
  unfolding gather
  bounded-gather f zero h b = rw (span_end 0 0 (omega arith)) (λ i. h)
  bounded-gather f (suc m) h b =
      rw (← (add-one m), gather_last f m)
      (bounded-append (gather f (span 0 m)) (f m) (bounded-gather f m h (λ i l. b i (omega arith))) (b m (omega arith)))

-- a list of m that holds f 0 .. f (n - 1) and then blanks is the array filled so
pub filled_is : {A : Type 0} (f : ℕ → A) (m n : ℕ) (blank : A) (l : List A) → length l ≡ m → n ≤ m
    → ((i : ℕ) → i < n → f i ≡ get_or l i blank) → ((i : ℕ) → n ≤ i → i < m → get_or l i blank ≡ blank) → map f (span 0 n) ++ replicate (m - n) blank ≡ l
filled_is f m n blank l e h front back =
    let long : length (map f (span 0 n) ++ replicate (m - n) blank) ≡ m = rw (length-append (map f (span 0 n)) (replicate (m - n) blank), map-length f n, length-replicate (m - n) blank) (omega arith) in
    ext_get_or blank _ l (long ∙ sym e)
    (λ i k.
    let less : i < m = rw long at k in
    ⊎_elim
    (λ (b : n ≤ i). let at : i ≡ n + (i - n) = omega arith in rw (back i b less) (rw at (filled_beyond f m n blank (i - n))))
    (λ (b : i < n). filled-at f m n blank i b ∙ front i b)
    (le_or_lt n i))
