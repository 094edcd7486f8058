-- Lists with no repeats, rearrangements, and what stands after an element. Assumes nothing.
use Rattle.std.specs.Prelude.{◌≡◌, refl, ◌⊎◌, suc, length}
use Rattle.std.proofs.Common.{sym, ◌∙◌, inl, inr, ⊎_elim}
use Rattle.std.proofs.Math.Path.{ap}
use mathlib.Core.List.Memᴰ.{append_cases as in_append}
use mathlib.Core.List.Memᴰ.{append_right as in_right}
use mathlib.Core.List.Memᴰ.{cases_cons as in_cons}
use mathlib.Core.List.Memᴰ.{cast as in_cast}
use mathlib.Core.List.Memᴰ.{head as here}
use mathlib.Core.List.Memᴰ.{not-nil as not_in_nil}
use mathlib.Core.List.Memᴰ.{tail as there}
use mathlib.Core.List.{List, [], ◌∷◌, ◌++◌, map, Memᴰ as In}
use Rattle.std.proofs.Math.Logic.{ite, if_pos, if_neg}

-- no element occurs twice
pub data NoRepeats {A : Type 0} : List A → Type 0 where
  none : NoRepeats []
  more : {x : A} {xs : List A} → (In x xs → ⊥) → NoRepeats xs → NoRepeats (x ∷ xs)

-- ys is zs with x put in somewhere
pub data Put {A : Type 0} (x : A) : List A → List A → Type 0 where
  front : {y : A} {zs : List A} → x ≡ y → Put x zs (y ∷ zs)
  later : {z : A} {zs ys : List A} → Put x zs ys → Put x (z ∷ zs) (z ∷ ys)

-- zs is a rearrangement of xs: the elements of xs put in, one after the other
pub data Rearranged {A : Type 0} : List A → List A → Type 0 where
  empty : Rearranged [] []
  put : {x : A} {xs ys zs : List A} → Put x ys zs → Rearranged xs ys → Rearranged (x ∷ xs) zs

module _ {A : Type 0} where
  pub no_repeats_before : (xs : List A) (a : A) (ys : List A) → NoRepeats (xs ++ (a ∷ ys)) → In a xs → ⊥
  no_repeats_before [] a ys h i = not_in_nil i
  no_repeats_before (x ∷ xs) a ys (more n h) i =
      ⊎_elim (λ e. n (in_right xs (here (sym e)))) (no_repeats_before xs a ys h) (in_cons i)

  pub no_repeats-append : {xs ys : List A} → NoRepeats xs → NoRepeats ys → ((a : A) → In a xs → In a ys → ⊥) → NoRepeats (xs ++ ys)
  no_repeats-append none h d = h
  no_repeats-append (more {x = x} {xs = xs} n g) h d =
      more (λ i. ⊎_elim n (d x (here refl)) (in_append xs i)) (no_repeats-append g h (λ a i. d a (there i)))

  -- putting in
  pub in_put : {x a : A} {zs ys : List A} → Put x zs ys → In a ys → (a ≡ x) ⊎ In a zs
  in_put (front e) i = ⊎_elim (λ p. inl (p ∙ sym e)) inr (in_cons i)
  in_put (later p) i = ⊎_elim (λ e. inr (here e)) (λ j. ⊎_elim inl (λ k. inr (there k)) (in_put p j)) (in_cons i)

  pub put_self : {x a : A} {zs ys : List A} → Put x zs ys → a ≡ x → In a ys
  put_self (front e) p = here (p ∙ e)
  put_self (later q) p = there (put_self q p)

  pub put_other : {x a : A} {zs ys : List A} → Put x zs ys → In a zs → In a ys
  put_other (front e) i = there i
  put_other (later q) i = ⊎_elim here (λ j. there (put_other q j)) (in_cons i)

  pub take_out : {x : A} {ys : List A} → In x ys → (zs : List A) × Put x zs ys
  take_out (here {xs = xs} e) = (xs, front e)
  take_out (there {x = y} i) = let r = take_out i in (y ∷ r.0, later r.1)

  pub put-no_repeats : {x : A} {zs ys : List A} → Put x zs ys → NoRepeats ys → (In x zs → ⊥) × NoRepeats zs
  put-no_repeats (front e) (more n h) = (λ i. n (in_cast (sym e) i), h)
  put-no_repeats (later q) (more n h) =
      let r = put-no_repeats q h in
      (λ i. ⊎_elim (λ e. n (put_self q (sym e))) r.0 (in_cons i), more (λ i. n (put_other q i)) r.1)

  -- a rearrangement has the same elements
  pub rearranged_in : {a : A} {xs zs : List A} → Rearranged xs zs → In a xs → In a zs
  rearranged_in empty i = i
  rearranged_in (put q r) i = ⊎_elim (put_self q) (λ j. put_other q (rearranged_in r j)) (in_cons i)

  pub rearranged_from : {a : A} {xs zs : List A} → Rearranged xs zs → In a zs → In a xs
  rearranged_from empty i = i
  rearranged_from (put q r) i = ⊎_elim here (λ j. there (rearranged_from r j)) (in_put q i)

  -- two lists with no repeats and the same elements are rearrangements of each other
  pub same_elements : {xs : List A} (zs : List A) → NoRepeats xs → NoRepeats zs
      → ((a : A) → In a xs → In a zs) → ((a : A) → In a zs → In a xs) → Rearranged xs zs
  same_elements [] none h f g = empty
  same_elements (z ∷ zs) none h f g = absurd (not_in_nil (g z (here refl)))
  same_elements zs (more {x = x} {xs = xs} n h) k f g =
      let r = take_out (f x (here refl)) in
      let s = put-no_repeats r.1 k in
      put r.1
      (same_elements r.0 h s.1
      (λ a i. ⊎_elim (λ e. absurd (n (in_cast (sym e) i))) (λ j. j) (in_put r.1 (f a (there i))))
      (λ a i. ⊎_elim (λ e. absurd (s.0 (in_cast (sym e) i))) (λ j. j) (in_cons (g a (put_other r.1 i)))))

-- rearrangements turned around, and one after another
module _ {A : Type 0} where
  put-left : {x : A} {ys zs xs : List A} → Put x ys zs → Rearranged ys xs → Rearranged zs (x ∷ xs)
  put-left (front e) r = put (front (sym e)) r
  put-left (later p) (put q r) = put (later q) (put-left p r)

  pub rearranged_sym : {xs zs : List A} → Rearranged xs zs → Rearranged zs xs
  rearranged_sym empty = empty
  rearranged_sym (put q r) = put-left q (rearranged_sym r)

  -- a rearrangement has the same length
  put-length : {x : A} {zs ys : List A} → Put x zs ys → length ys ≡ suc (length zs)
  put-length (front e) = refl
  put-length (later p) = ap suc (put-length p)

  pub rearranged-length : {xs zs : List A} → Rearranged xs zs → length xs ≡ length zs
  rearranged-length empty = refl
  rearranged-length (put q r) = ap suc (rearranged-length r) ∙ sym (put-length q)

  put_swap : {x y : A} {ks bs cs : List A} → Put y bs cs → Put x ks bs → (ds : List A) × Put x ds cs × Put y ks ds
  put_swap {ks = ks} (front {y = c} e) q = (c ∷ ks, later q, front e)
  put_swap (later {ys = cs} p) (front e) = (cs, front e, p)
  put_swap (later {zs = bs} p) (later {z = z} {zs = ks} q) = let r = put_swap {ks = ks} p q in (z ∷ r.0, later r.1, later r.2)

  put_cast : {x y : A} {ks bs : List A} → x ≡ y → Put y ks bs → Put x ks bs
  put_cast e (front d) = front (e ∙ d)
  put_cast e (later p) = later (put_cast e p)

  put_through : {x : A} {ks bs zs : List A} → Put x ks bs → Rearranged bs zs → (cs : List A) × Put x cs zs × Rearranged ks cs
  put_through (front e) (put {ys = ys} q r) = (ys, put_cast e q, r)
  put_through (later p) (put q r) =
      let s = put_through p r in
      let t = put_swap q s.1 in
      (t.0, t.1, put t.2 s.2)

  pub rearranged_trans : {xs ys zs : List A} → Rearranged xs ys → Rearranged ys zs → Rearranged xs zs
  rearranged_trans empty s = s
  rearranged_trans (put q r) s = let t = put_through q s in put t.1 (rearranged_trans r t.2)

-- lists whose k are a rearrangement, and where k determines f: their f are one too
module _ {A K B : Type 0} (k : A → K) (f : A → B) where
  pub record Without (a : A) (ks : List K) (ys : List A) : Type 0 where
    pub rest : List A
    pub keys : ks ≡ map k rest
    pub values : Put (f a) (map f rest) (map f ys)
    pub within : (b : A) → In b rest → In b ys

  without : (a : A) (ks : List K) (ys : List A) → ((b : A) → In b ys → k a ≡ k b → f a ≡ f b) → Put (k a) ks (map k ys) → Without a ks ys
  without a ks [] h q = absurd (not_in_nil (put_self q refl))
  without a ks (y ∷ ys) h (front e) =
      record { rest = ys; keys = refl; values = front (h y (here refl) e); within = λ b i. there i }
  without a ks (y ∷ ys) h (later {zs = zs} q) =
      let r = without a zs ys (λ b i. h b (there i)) q in
      record {
        rest = y ∷ r.rest;
        keys = ap (λ (l : List K). k y ∷ l) r.keys;
        values = later r.values;
        within = λ b i. ⊎_elim here (λ j. there (r.within b j)) (in_cons i);
      }

  pub rearranged_by : (xs ys : List A) → ((a b : A) → In a xs → In b ys → k a ≡ k b → f a ≡ f b)
      → Rearranged (map k xs) (map k ys) → Rearranged (map f xs) (map f ys)
  rearranged_by [] [] h r = empty
  rearranged_by [] (y ∷ ys) h r = absurd (not_in_nil (rearranged_from r (here refl)))
  rearranged_by (x ∷ xs) ys h (put {ys = ks} q r) =
      let w = without x ks ys (λ b. h x b (here refl)) q in
      put w.values (rearranged_by xs w.rest (λ a b i j. h a b (there i) (w.within b j)) (rw w.keys at r))

module _ {A : Type 0} (same : Discrete A) where
  pub dec_in : (a : A) (xs : List A) → Dec (In a xs)
  dec_in a [] = no not_in_nil
  dec_in a (x ∷ xs) = or (same a x) (dec_in a xs)
    where
      or : Dec (a ≡ x) → Dec (In a xs) → Dec (In a (x ∷ xs))
      or (yes e) d = yes (here e)
      or (no n) (yes i) = yes (there i)
      or (no n) (no k) = no (λ i. ⊎_elim n k (in_cons i))

  -- what follows the first occurrence of a
  unfoldable pub behind : A → List A → List A
  behind a [] = []
  behind a (x ∷ xs) = ite (same a x) xs (behind a xs)

  pub behind_here : (a x : A) (xs : List A) → a ≡ x → behind a (x ∷ xs) ≡ xs
  unfolding behind
  behind_here a x xs e = if_pos (same a x) e _ _

  pub behind-there : (a x : A) (xs : List A) → (a ≡ x → ⊥) → behind a (x ∷ xs) ≡ behind a xs
  unfolding behind
  behind-there a x xs e = if_neg (same a x) e _ _

  -- in a list made of two parts: a is not in the first, or it is
  pub behind_past : (a : A) (xs ys : List A) → (In a xs → ⊥) → behind a (xs ++ ys) ≡ behind a ys
  behind_past a [] ys n = refl
  behind_past a (x ∷ xs) ys n = behind-there a x (xs ++ ys) (λ e. n (here e)) ∙ behind_past a xs ys (λ i. n (there i))

  pub behind-within : (a : A) (xs ys : List A) → In a xs → behind a (xs ++ ys) ≡ behind a xs ++ ys
  behind-within a [] ys i = absurd (not_in_nil i)
  behind-within a (x ∷ xs) ys i = within_cons (same a x) (behind-within a xs ys)
    where
      within_cons : Dec (a ≡ x) → (In a xs → behind a (xs ++ ys) ≡ behind a xs ++ ys) → behind a (x ∷ (xs ++ ys)) ≡ behind a (x ∷ xs) ++ ys
      within_cons (yes e) f = behind_here a x (xs ++ ys) e ∙ ap (λ (l : List A). l ++ ys) (sym (behind_here a x xs e))
      within_cons (no n) f =
          behind-there a x (xs ++ ys) n
          ∙ f (⊎_elim (λ e. absurd (n e)) (λ j. j) (in_cons i))
          ∙ ap (λ (l : List A). l ++ ys) (sym (behind-there a x xs n))

  -- what is after is the end of the list
  pub behind_ends : (a : A) (xs : List A) → (before : List A) × (xs ≡ before ++ behind a xs)
  unfolding behind
  behind_ends a [] = ([], refl)
  behind_ends a (x ∷ xs) = ends_cons (same a x) (behind_ends a xs)
    where
      ends_cons : Dec (a ≡ x) → (before : List A) × (xs ≡ before ++ behind a xs) → (before : List A) × (x ∷ xs ≡ before ++ behind a (x ∷ xs))
      ends_cons (yes e) r = (x ∷ [], ap (λ (l : List A). x ∷ l) (sym (behind_here a x xs e)))
      ends_cons (no n) r = (x ∷ r.0, ap (λ (l : List A). x ∷ l) (r.1 ∙ ap (λ (l : List A). r.0 ++ l) (sym (behind-there a x xs n))))
