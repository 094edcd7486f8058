-- Membership in a gathered list, and what stands after an element where each part carries a key of its own. Assumes nothing.
use Rattle.std.specs.Prelude.{◌≡◌, ◌⊎◌}
use Rattle.std.proofs.Math.Path.{refl, ap}
use Rattle.std.proofs.Common.{sym, ◌∙◌, subst, inl, inr, ⊎_elim}
use mathlib.Core.List.Memᴰ.{append_cases as in_append}
use mathlib.Core.List.Memᴰ.{append_left as in_left}
use mathlib.Core.List.Memᴰ.{append_right as in_right}
use mathlib.Core.List.Memᴰ.{head as here}
use mathlib.Core.List.Memᴰ.{not-nil as not_in_nil}
use mathlib.Core.List.Memᴰ.{tail as there}
use mathlib.Core.List.{List, [], ◌∷◌, ◌++◌, Memᴰ as In}
use Rattle.laws.specs.Gather.{gather}
use Rattle.laws.specs.Lists.{NoRepeats, none, more, no_repeats-append, behind, behind_here, behind-there, behind_past, behind-within}

module _ {A B : Type 0} where
  -- membership in a gathered list
  pub gathered : (f : A → List B) {i : A} {is : List A} {b : B} → In i is → In b (f i) → In b (gather f is)
  unfolding gather
  gathered f {b = b} (here {xs = is} e) h = in_left (gather f is) (subst (λ j. In b (f j)) e h)
  gathered f (there {x = i} q) h = in_right (f i) (gathered f q h)

  pub gathered_from : (f : A → List B) (is : List A) {b : B} → In b (gather f is) → (i : A) × In i is × In b (f i)
  unfolding gather
  gathered_from f [] h = absurd (not_in_nil h)
  gathered_from f (i ∷ is) h = from (in_append (f i) h) (gathered_from f is)
    where
      from : {b : B} → In b (f i) ⊎ In b (gather f is) → (In b (gather f is) → (j : A) × In j is × In b (f j)) → (j : A) × In j (i ∷ is) × In b (f j)
      from (inl q) go = (i, here refl, q)
      from (inr q) go = let r = go q in (r.0, there r.1, r.2)

  -- what holds of each part holds of all
  pub gathered_all : (Q : B → Type 0) (f : A → List B) (is : List A) → ((i : A) (b : B) → In b (f i) → Q b) → (b : B) → In b (gather f is) → Q b
  gathered_all Q f is h b q = let r = gathered_from f is q in h r.0 b r.2

-- every element of f i carries the key i
abbrev pub Keyed : {A B : Type 0} → (B → A) → (A → List B) → Type 0
Keyed {A} {B} key f = (i : A) (b : B) → In b (f i) → key b ≡ i

module _ {A B : Type 0} (key : B → A) (f : A → List B) (keyed : Keyed key f) where
  pub keyed_from : (is : List A) (b : B) → In b (gather f is) → In (key b) is × In b (f (key b))
  keyed_from is b q =
      let r = gathered_from f is q in
      let e : key b ≡ r.0 = keyed r.0 b r.2 in
      (subst (λ i. In i is) (sym e) r.1, subst (λ i. In b (f i)) (sym e) r.2)

  -- R5: a list gathered over keys has no repeats
  pub gather-no_repeats : {is : List A} → NoRepeats is → ((i : A) → NoRepeats (f i)) → NoRepeats (gather f is)
  unfolding gather
  gather-no_repeats none u = none
  gather-no_repeats (more {x = i} {xs = is} n h) u =
      no_repeats-append (u i) (gather-no_repeats h u)
      (λ b p q. n (subst (λ j. In j is) (keyed i b p) (keyed_from is b q).0))

  -- R4: after b there is what is after b among those with its key, and then what the keys after its key give
  module _ (sameA : Discrete A) (sameB : Discrete B) where
    pub behind-gather : (b : B) (is : List A) → In b (gather f is)
        → behind sameB b (gather f is) ≡ behind sameB b (f (key b)) ++ gather f (behind sameA (key b) is)
    unfolding gather
    behind-gather b [] q = absurd (not_in_nil q)
    behind-gather b (i ∷ is) q = cases (sameA (key b) i) (behind-gather b is)
      where
        cases : Dec (key b ≡ i)
            → (In b (gather f is) → behind sameB b (gather f is) ≡ behind sameB b (f (key b)) ++ gather f (behind sameA (key b) is))
            → behind sameB b (f i ++ gather f is) ≡ behind sameB b (f (key b)) ++ gather f (behind sameA (key b) (i ∷ is))
        cases (yes e) go =
            behind-within sameB b (f i) (gather f is) (subst (λ j. In b (f j)) e (keyed_from (i ∷ is) b q).1)
            ∙ ap (λ (j : A). behind sameB b (f j) ++ gather f is) (sym e)
            ∙ ap (λ (l : List A). behind sameB b (f (key b)) ++ gather f l) (sym (behind_here sameA (key b) i is e))
        cases (no n) go =
            behind_past sameB b (f i) (gather f is) (λ p. n (keyed i b p))
            ∙ go (⊎_elim (λ p. absurd (n (keyed i b p))) (λ p. p) (in_append (f i) q))
            ∙ ap (λ (l : List A). behind sameB b (f (key b)) ++ gather f l) (sym (behind-there sameA (key b) i is n))
