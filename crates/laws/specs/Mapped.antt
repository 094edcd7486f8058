-- Lists mapped and lists that pass a test: no repeats, and where a member comes from. Assumes nothing.
use Rattle.std.specs.Prelude.{◌≡◌, refl, Bool, true, false}
use Rattle.std.proofs.Common.{sym}
use mathlib.Core.List.Memᴰ.{cast as in_cast}
use mathlib.Core.List.Memᴰ.{eq_of_singleton as in_single}
use mathlib.Core.List.Memᴰ.{head as here}
use mathlib.Core.List.Memᴰ.{not-nil as not_in_nil}
use mathlib.Core.List.Memᴰ.{of_map as in_of_map}
use mathlib.Core.List.Memᴰ.{tail as there}
use mathlib.Core.List.{List, map, Memᴰ as In}
use Rattle.laws.specs.Gather.{only, keep}
use Rattle.laws.specs.Lists.{NoRepeats, none, more}
use Rattle.laws.specs.Gathered.{gathered_from}

module _ {A : Type 0} (t : A → Bool) where
  -- what a test keeps is a member that passes
  pub keep_from : (xs : List A) {a : A} → In a (keep t xs) → In a xs × (t a ≡ true)
  keep_from xs h = let r = gathered_from (λ a. only (t a) a) xs h in by r.0 r.1 (t r.0) refl r.2
    where
      by : (b : A) → In b xs → (v : Bool) → t b ≡ v → {a : A} → In a (only v b) → In a xs × (t a ≡ true)
      by b m true e i = let q = in_single i in (in_cast q m, rw q e)
      by b m false e i = absurd (not_in_nil i)

module _ {A B : Type 0} (f : A → B) where
  -- a list with no repeats whose members f tells apart has none mapped
  pub map-no_repeats : {xs : List A} → ((a b : A) → In a xs → In b xs → f a ≡ f b → a ≡ b) → NoRepeats xs → NoRepeats (map f xs)
  map-no_repeats h none = none
  map-no_repeats h (more {x = x} {xs = xs} n r) =
      more
      (λ i. let m = in_of_map f xs i in n (in_cast (h x m.0 (here refl) (there m.1) (sym m.2)) m.1))
      (map-no_repeats (λ a b i j. h a b (there i) (there j)) r)
