-- Lists gathered from the elements of another list, by a pass over all of them or by one that resumes inside the first. Assumes nothing.
use Rattle.std.specs.Prelude.{◌≡◌, Bool, ◌&&◌}
use Rattle.std.proofs.Math.Path.{refl}
use Rattle.std.proofs.Math.Bool.{true, false}
use mathlib.Core.List.{List, [], ◌∷◌, ◌++◌, map, map-append, append_assoc}

module _ {A B : Type 0} where
  -- what f gives of each element, one after the other
  unfoldable pub gather : (A → List B) → List A → List B
  gather f [] = []
  gather f (x ∷ xs) = f x ++ gather f xs

  -- the same, but for the first element, which goes by g: a pass that resumes inside its first element
  unfoldable pub headed : (A → List B) → (A → List B) → List A → List B
  headed g f [] = []
  headed g f (x ∷ xs) = g x ++ gather f xs

  pub headed-same : (f : A → List B) (xs : List A) → gather f xs ≡ headed f f xs
  unfolding gather headed
  headed-same f [] = refl
  headed-same f (x ∷ xs) = refl

  pub gather-append : (f : A → List B) (xs ys : List A) → gather f (xs ++ ys) ≡ gather f xs ++ gather f ys
  unfolding gather
  gather-append f [] ys = refl
  gather-append f (x ∷ xs) ys = rw (gather-append f xs ys, append_assoc)

module _ {A : Type 0} where
  -- an element if a test is passed, or nothing
  abbrev pub only : Bool → A → List A
  only true a = a ∷ []
  only false a = []

  -- those that pass a test
  abbrev pub keep : (A → Bool) → List A → List A
  keep p = gather (λ a. only (p a) a)

  pub keep_yes : (p : A → Bool) (a : A) (l : List A) → p a ≡ true → keep p (a ∷ l) ≡ a ∷ keep p l
  unfolding gather
  keep_yes p a l e = rw e

  pub keep_no : (p : A → Bool) (a : A) (l : List A) → p a ≡ false → keep p (a ∷ l) ≡ keep p l
  unfolding gather
  keep_no p a l e = rw e

module _ {A B C : Type 0} where
  pub map-map : (f : B → C) (g : A → B) (xs : List A) → map f (map g xs) ≡ map (λ x. f (g x)) xs
  map-map f g [] = refl
  map-map f g (x ∷ xs) = rw (map-map f g xs)

  pub gather-map : (f : B → List C) (g : A → B) (xs : List A) → gather f (map g xs) ≡ gather (λ x. f (g x)) xs
  unfolding gather
  gather-map f g [] = refl
  gather-map f g (x ∷ xs) = rw (gather-map f g xs)

  pub map-gather : (f : B → C) (g : A → List B) (xs : List A) → map f (gather g xs) ≡ gather (λ x. map f (g x)) xs
  unfolding gather
  map-gather f g [] = refl
  map-gather f g (x ∷ xs) = rw (map-append, map-gather f g xs)

  pub gather-gather : (f : B → List C) (g : A → List B) (xs : List A) → gather f (gather g xs) ≡ gather (λ x. gather f (g x)) xs
  unfolding gather
  gather-gather f g [] = refl
  gather-gather f g (x ∷ xs) = rw (gather-append f (g x) (gather g xs), gather-gather f g xs)

module _ {A B C : Type 0} (p : A → Bool) (q : B → Bool) (g : A → B → C) where
  row_in : (y : A) (xs : List B) → gather (λ x. only (q x) (g y x)) xs ≡ map (g y) (keep q xs)
  unfolding gather
  row_in y [] = refl
  row_in y (x ∷ xs) = rw (row_in y xs) (by (q x))
    where
      by : (t : Bool) → only t (g y x) ++ map (g y) (keep q xs) ≡ map (g y) (only t x ++ keep q xs)
      by true = refl
      by false = refl

  row_out : (y : A) (xs : List B) → gather (λ x. only false (g y x)) xs ≡ []
  unfolding gather
  row_out y [] = refl
  row_out y (x ∷ xs) = row_out y xs

  -- the pairs that pass a test on each part
  pub pairs : (xs : List B) (ys : List A) → gather (λ y. gather (λ x. only (p y && q x) (g y x)) xs) ys ≡ gather (λ y. map (g y) (keep q xs)) (keep p ys)
  unfolding gather
  pairs xs [] = refl
  pairs xs (y ∷ ys) = rw (pairs xs ys) (by (p y))
    where
      by : (t : Bool) → gather (λ x. only (t && q x) (g y x)) xs ++ gather (λ y. map (g y) (keep q xs)) (keep p ys) ≡ gather (λ y. map (g y) (keep q xs)) (only t y ++ keep p ys)
      by true = rw (row_in y xs)
      by false = rw (row_out y xs)
