-- What is listed: each index once, and the marks that are left. Assumes nothing.
use Rattle.std.specs.Prelude.{◌≡◌, true, ℕ, ◌<◌}
use Rattle.std.proofs.Math.Path.{refl, ap}
use Rattle.std.proofs.Common.{sym, ◌∙◌, ext_get_or}
use Rattle.std.proofs.Math.Bool.{true≢false}
use mathlib.Core.List.Memᴰ.{cases_cons as in_cons}
use mathlib.Core.List.Memᴰ.{cast as in_cast}
use mathlib.Core.List.Memᴰ.{head as here}
use mathlib.Core.List.Memᴰ.{not-nil as not_in_nil}
use mathlib.Core.List.Memᴰ.{tail as there}
use mathlib.Core.List.{List, [], ◌∷◌, ◌++◌, map, Memᴰ as In}
use Rattle.std.proofs.Math.Logic.{⊎_elim}
use Rattle.std.proofs.Math.Decide.{ℕ_discrete}
use Rattle.std.proofs.Math.ListN.{length, get_or}
use Rattle.laws.specs.Cases.{split}
use Rattle.laws.specs.Lists.{NoRepeats, none, more, Rearranged, same_elements, dec_in}
use Rattle.laws.specs.Marks.{marked_byte, marked_again, free_at, mark-length, mark_self, mark_other, taken_self, free_other}
use Rattle.laws.specs.Runs.{free, mark, unlisted, unlisted-free, unlisted-taken, marked}

module _ {P : Type 0} (ix : P → ℕ) where
  -- the indexes
  abbrev pub indexes : List P → List ℕ
  indexes ps = map ix ps

  -- every position has a mark
  abbrev pub Fits : List ℕ → List P → Type 0
  Fits m ps = (i : ℕ) → In i (indexes ps) → i < length m

module _ {P : Type 0} (v : ℕ) (ix : P → ℕ) where
  fits-mark : (m : List ℕ) (p : P) (ps : List P) → Fits ix m (p ∷ ps) → Fits ix (mark v ix m p) ps
  fits-mark m p ps f i h = rw (mark-length v m (ix p)) (f i (there h))

  -- marking changes a byte to the marked one, or not at all
  marks_byte : (m : List ℕ) (p : P) (i : ℕ) → i < length m → i ≡ ix p → get_or (mark v ix m p) i 0 ≡ marked_byte v (get_or m i 0)
  marks_byte m p i h e = rw e (mark_self v m (ix p) (rw e at h))

  -- a byte once marked stays
  mark-kept : (m : List ℕ) (p : P) (i b : ℕ) → i < length m → get_or m i 0 ≡ marked_byte v b → get_or (mark v ix m p) i 0 ≡ marked_byte v b
  mark-kept m p i b h e = kept (ℕ_discrete i (ix p))
    where
      kept : Dec (i ≡ ix p) → get_or (mark v ix m p) i 0 ≡ marked_byte v b
      kept (yes q) = marks_byte m p i h q ∙ ap (marked_byte v) e ∙ marked_again v b
      kept (no n) = mark_other v m (ix p) i n ∙ e

  pub length-marked : (m : List ℕ) (ps : List P) → length (marked v ix m ps) ≡ length m
  unfolding marked
  length-marked m [] = refl
  length-marked m (p ∷ ps) = length-marked (mark v ix m p) ps ∙ mark-length v m (ix p)

  marked-kept : (m : List ℕ) (ps : List P) (i b : ℕ) → i < length m → get_or m i 0 ≡ marked_byte v b → get_or (marked v ix m ps) i 0 ≡ marked_byte v b
  unfolding marked
  marked-kept m [] i b h e = e
  marked-kept m (p ∷ ps) i b h e = marked-kept (mark v ix m p) ps i b (rw (mark-length v m (ix p)) h) (mark-kept m p i b h e)

  -- the marks with those of ps set: the byte marked at the indexes ix of ps, and as before elsewhere
  pub marked_in : (m : List ℕ) (ps : List P) (i : ℕ) → i < length m → In i (indexes ix ps) → get_or (marked v ix m ps) i 0 ≡ marked_byte v (get_or m i 0)
  unfolding marked
  marked_in m [] i h q = absurd (not_in_nil q)
  marked_in m (p ∷ ps) i h q =
      let h' : i < length (mark v ix m p) = rw (mark-length v m (ix p)) h in
      now h' (ℕ_discrete i (ix p)) (marked_in (mark v ix m p) ps i h')
    where
      now : i < length (mark v ix m p) → Dec (i ≡ ix p) → (In i (indexes ix ps) → get_or (marked v ix (mark v ix m p) ps) i 0 ≡ marked_byte v (get_or (mark v ix m p) i 0))
          → get_or (marked v ix (mark v ix m p) ps) i 0 ≡ marked_byte v (get_or m i 0)
      now h' (yes e) go = marked-kept (mark v ix m p) ps i (get_or m i 0) h' (marks_byte m p i h e)
      now h' (no n) go = go (⊎_elim (λ e. absurd (n e)) (λ j. j) (in_cons q)) ∙ ap (marked_byte v) (mark_other v m (ix p) i n)

  pub marked_out : (m : List ℕ) (ps : List P) (i : ℕ) → (In i (indexes ix ps) → ⊥) → get_or (marked v ix m ps) i 0 ≡ get_or m i 0
  unfolding marked
  marked_out m [] i n = refl
  marked_out m (p ∷ ps) i n =
      marked_out (mark v ix m p) ps i (λ q. n (there q)) ∙ mark_other v m (ix p) i (λ e. n (here e))

  -- an index is listed where its mark is free, and only there
  pub listed-of : (m : List ℕ) (ps : List P) (i : ℕ) → free_at v m i ≡ true → In i (indexes ix ps) → In i (indexes ix (unlisted v ix m ps))
  listed-of m [] i z q = absurd (not_in_nil q)
  listed-of m (p ∷ ps) i z q =
      split (free v ix m p)
      (λ t. rw (unlisted-free v ix m p ps t) (now (ℕ_discrete i (ix p)) (listed-of (mark v ix m p) ps i)))
      (λ t.
      rw (unlisted-taken v ix m p ps t)
      (⊎_elim (λ e. absurd (true≢false (sym (rw e at z) ∙ t))) (listed-of m ps i z) (in_cons q)))
    where
      now : Dec (i ≡ ix p) → (free_at v (mark v ix m p) i ≡ true → In i (indexes ix ps) → In i (indexes ix (unlisted v ix (mark v ix m p) ps)))
          → In i (ix p ∷ indexes ix (unlisted v ix (mark v ix m p) ps))
      now (yes e) go = here e
      now (no n) go =
          there (go (free_other v m (ix p) i n ∙ z) (⊎_elim (λ e. absurd (n e)) (λ j. j) (in_cons q)))

  pub record Was (m : List ℕ) (ps : List P) (i : ℕ) : Type 0 where
    pub is_free : free_at v m i ≡ true
    pub member : In i (indexes ix ps)

  pub listed-was : (m : List ℕ) (ps : List P) → Fits ix m ps → (i : ℕ) → In i (indexes ix (unlisted v ix m ps)) → Was m ps i
  unfolding unlisted
  listed-was m [] f i q = absurd (not_in_nil q)
  listed-was m (p ∷ ps) f i q =
      split (free v ix m p)
      (λ t.
      let q' : In i (ix p ∷ indexes ix (unlisted v ix (mark v ix m p) ps)) = rw (unlisted-free v ix m p ps t) at q in
      ⊎_elim
      (λ e. record { is_free = rw e t; member = here e })
      (λ j. old (listed-was (mark v ix m p) ps (fits-mark m p ps f) i j))
      (in_cons q'))
      (λ t. later (listed-was m ps (λ k z. f k (there z)) i (rw (unlisted-taken v ix m p ps t) at q)))
    where
      later : Was m ps i → Was m (p ∷ ps) i
      later w = record { is_free = w.is_free; member = there w.member }

      old : Was (mark v ix m p) ps i → Was m (p ∷ ps) i
      old w = record { is_free = same-mark (ℕ_discrete i (ix p)); member = there w.member }
        where
          same-mark : Dec (i ≡ ix p) → free_at v m i ≡ true
          same-mark (yes e) = absurd (true≢false (sym w.is_free ∙ rw e (taken_self v m (ix p) (rw e at (f i (there w.member))))))
          same-mark (no n) = sym (free_other v m (ix p) i n) ∙ w.is_free

  -- each index is listed at most once
  pub listed_once : (m : List ℕ) (ps : List P) → Fits ix m ps → NoRepeats (indexes ix (unlisted v ix m ps))
  unfolding unlisted
  listed_once m [] f = none
  listed_once m (p ∷ ps) f =
      split (free v ix m p)
      (λ t. rw (unlisted-free v ix m p ps t) (more not_again (listed_once (mark v ix m p) ps (fits-mark m p ps f))))
      (λ t. rw (unlisted-taken v ix m p ps t) (listed_once m ps (λ i q. f i (there q))))
    where
      not_again : In (ix p) (indexes ix (unlisted v ix (mark v ix m p) ps)) → ⊥
      not_again q =
          let w = listed-was (mark v ix m p) ps (fits-mark m p ps f) (ix p) q in
          true≢false (sym w.is_free ∙ taken_self v m (ix p) (f (ix p) (here refl)))

  -- with no mark set and no index twice all is listed
  pub unlisted-all : (m : List ℕ) (ps : List P) → NoRepeats (indexes ix ps) → ((i : ℕ) → In i (indexes ix ps) → free_at v m i ≡ true) → unlisted v ix m ps ≡ ps
  unfolding unlisted
  unlisted-all m [] u z = refl
  unlisted-all m (p ∷ ps) (more n u) z =
      unlisted-free v ix m p ps (z (ix p) (here refl))
      ∙ ap (λ (l : List P). p ∷ l) (unlisted-all (mark v ix m p) ps u (λ i q. free_other v m (ix p) i (λ e. n (in_cast (sym e) q)) ∙ z i (there q)))

  -- listing two lists in turn is listing their join
  pub unlisted-append : (m : List ℕ) (ps qs : List P)
      → unlisted v ix m (ps ++ qs) ≡ unlisted v ix m ps ++ unlisted v ix (marked v ix m (unlisted v ix m ps)) qs
  unfolding unlisted marked
  unlisted-append m [] qs = refl
  unlisted-append m (p ∷ ps) qs =
      split (free v ix m p)
      (λ t. unlisted-free v ix m p (ps ++ qs) t ∙ ap (λ (l : List P). p ∷ l) (unlisted-append (mark v ix m p) ps qs) ∙ joined (sym (unlisted-free v ix m p ps t)))
      (λ t. unlisted-taken v ix m p (ps ++ qs) t ∙ unlisted-append m ps qs ∙ joined (sym (unlisted-taken v ix m p ps t)))
    where
      joined : {l k : List P} → l ≡ k → l ++ unlisted v ix (marked v ix m l) qs ≡ k ++ unlisted v ix (marked v ix m k) qs
      joined e = ap (λ (l : List P). l ++ unlisted v ix (marked v ix m l) qs) e

  pub marked-append : (m : List ℕ) (ps qs : List P) → marked v ix m (ps ++ qs) ≡ marked v ix (marked v ix m ps) qs
  unfolding marked
  marked-append m [] qs = refl
  marked-append m (p ∷ ps) qs = marked-append (mark v ix m p) ps qs

  pub unlisted-within : (m : List ℕ) (ps : List P) (p : P) → In p (unlisted v ix m ps) → In p ps
  unfolding unlisted
  unlisted-within m [] p q = q
  unlisted-within m (x ∷ ps) p q =
      split (free v ix m x)
      (λ t. ⊎_elim here (λ k. there (unlisted-within (mark v ix m x) ps p k)) (in_cons (rw (unlisted-free v ix m x ps t) at q)))
      (λ t. there (unlisted-within m ps p (rw (unlisted-taken v ix m x ps t) at q)))

  listed_too : (m : List ℕ) (ps qs : List P) → Fits ix m ps → ((i : ℕ) → In i (indexes ix ps) → In i (indexes ix qs))
      → (i : ℕ) → In i (indexes ix (unlisted v ix m ps)) → In i (indexes ix (unlisted v ix m qs))
  listed_too m ps qs f to i q = let w = listed-was m ps f i q in listed-of m qs i w.is_free (to i w.member)

  -- two lists of positions with the same indexes
  module _ (m : List ℕ) (ps qs : List P) (f : Fits ix m ps)
      (to : (i : ℕ) → In i (indexes ix ps) → In i (indexes ix qs)) (from : (i : ℕ) → In i (indexes ix qs) → In i (indexes ix ps)) where
    fits_too : Fits ix m qs
    fits_too i q = f i (from i q)

    -- the indexes ix listed of the one are a rearrangement of those listed of the other
    pub same-listed : Rearranged (indexes ix (unlisted v ix m ps)) (indexes ix (unlisted v ix m qs))
    same-listed =
        same_elements _ (listed_once m ps f) (listed_once m qs fits_too) (listed_too m ps qs f to) (listed_too m qs ps fits_too from)

    -- and the marks that are left are equal
    pub same-marks : marked v ix m (unlisted v ix m ps) ≡ marked v ix m (unlisted v ix m qs)
    same-marks =
        ext_get_or 0 _ _ (length-marked m (unlisted v ix m ps) ∙ sym (length-marked m (unlisted v ix m qs)))
        (λ i h. at_index i (rw (length-marked m (unlisted v ix m ps)) at h) (dec_in ℕ_discrete i (indexes ix (unlisted v ix m ps))))
      where
        at_index : (i : ℕ) → i < length m → Dec (In i (indexes ix (unlisted v ix m ps)))
            → get_or (marked v ix m (unlisted v ix m ps)) i 0 ≡ get_or (marked v ix m (unlisted v ix m qs)) i 0
        at_index i h (yes q) =
            marked_in m (unlisted v ix m ps) i h q ∙ sym (marked_in m (unlisted v ix m qs) i h (listed_too m ps qs f to i q))
        at_index i h (no n) =
            marked_out m (unlisted v ix m ps) i n
            ∙ sym (marked_out m (unlisted v ix m qs) i (λ q. n (listed_too m qs ps fits_too from i q)))
