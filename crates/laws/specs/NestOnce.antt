-- What a nest of loops lists: each position once, those whose every number is within its loop, and those with a given number. Assumes nothing.
use Rattle.std.specs.Prelude.{◌≡◌, Bool, ◌⊎◌, ℕ, ◌+◌, ◌-◌, ◌≤◌, ◌<◌, eqb}
use Rattle.std.proofs.Math.Path.{refl, ap, fun_ext}
use Rattle.std.proofs.Common.{sym, ◌∙◌, ⊎_elim, arith, eq-eqb, ne_eqb}
use mathlib.Core.List.Memᴰ.{eq_of_singleton as in_single}
use mathlib.Core.List.Memᴰ.{head as here}
use mathlib.Core.List.Memᴰ.{not-nil as not_in_nil}
use mathlib.Core.List.{List, [], ◌∷◌, Memᴰ as In}
use Rattle.laws.specs.Gather.{gather, gather-gather, only, keep}
use Rattle.laws.specs.Axis.{axis, span}
use Rattle.laws.specs.Lists.{NoRepeats, none, more}
use Rattle.laws.specs.Gathered.{gathered, gathered_from, Keyed, keyed_from, gather-no_repeats}
use Rattle.laws.specs.Axes.{axis-bounds, axis-no_repeats}
use Rattle.laws.specs.Members.{gather-one, keep-all, keep_none, in_span}
use Rattle.laws.specs.Nest.{Loop, turns, nest}

module _ {P : Type 0} where
  -- no loop of ls changes f
  abbrev pub Kept : {B : Type 0} → (P → B) → List (Loop P) → Type 0
  Kept f [] = Unit {0}
  Kept f (m ∷ ls) = ((j : ℕ) (p : P) → f (m.put j p) ≡ f p) × Kept f ls

  -- every loop sets a number of its own, which grows and which no inner loop changes
  abbrev pub Apart : List (Loop P) → Type 0
  Apart [] = Unit {0}
  Apart (l ∷ ls) =
      ((i : ℕ) (p : P) → l.get (l.put i p) ≡ i) × ((p : P) (x : ℕ) → x < l.next p x) × Kept l.get ls × Apart ls

  -- every number of q is within its loop
  abbrev pub Within : List (Loop P) → P → Type 0
  Within [] q = Unit {0}
  Within (l ∷ ls) q = (l.from q ≤ l.get q) × (l.get q < l.to q) × Within ls q

  -- every loop starts and ends by the loops around it alone
  abbrev pub Steady : List (Loop P) → Type 0
  Steady [] = Unit {0}
  Steady (l ∷ ls) = Kept l.from (l ∷ ls) × Kept l.to (l ∷ ls) × Steady ls

  -- every loop goes up by one
  abbrev pub Plain : List (Loop P) → Type 0
  Plain [] = Unit {0}
  Plain (l ∷ ls) = ((p : P) (x : ℕ) → l.next p x ≡ x + 1) × Plain ls

  -- to set a number to what it is changes nothing
  abbrev pub Back : List (Loop P) → Type 0
  Back [] = Unit {0}
  Back (l ∷ ls) = ((q : P) → l.put (l.get q) q ≡ q) × Back ls

  -- what no loop changes is as at the start in every position listed
  pub nest-kept : {B : Type 0} (f : P → B) (ls : List (Loop P)) → Kept f ls → (p : P) {q : P} → In q (nest ls p) → f q ≡ f p
  unfolding nest
  nest-kept f [] k p h = ap f (in_single h)
  nest-kept f (l ∷ ls) k p h =
      let r = gathered_from (λ i. nest ls (l.put i p)) (turns l p) h in
      nest-kept f ls k.1 (l.put r.0 p) r.2 ∙ k.0 r.0 p

  -- what a turn lists has the turn's number
  pub nest-keyed : (l : Loop P) (ls : List (Loop P)) → Apart (l ∷ ls) → (p : P) → Keyed l.get (λ i. nest ls (l.put i p))
  nest-keyed l ls a p i b h = nest-kept l.get ls a.2 (l.put i p) h ∙ a.0 i p

  -- no position is listed twice
  pub nest_once : (ls : List (Loop P)) → Apart ls → (p : P) → NoRepeats (nest ls p)
  unfolding nest
  nest_once [] a p = more not_in_nil none
  nest_once (l ∷ ls) a p =
      gather-no_repeats l.get (λ i. nest ls (l.put i p)) (nest-keyed l ls a p) (axis-no_repeats (l.next p) (a.1 p) (l.from p) (l.to p))
      (λ i. nest_once ls a.3 (l.put i p))

  -- a position listed is listed in the turn at its number
  pub nest-turn : (l : Loop P) (ls : List (Loop P)) → Apart (l ∷ ls) → (p : P) {q : P} → In q (nest (l ∷ ls) p)
      → In (l.get q) (turns l p) × In q (nest ls (l.put (l.get q) p))
  unfolding nest
  nest-turn l ls a p {q} h = keyed_from l.get (λ i. nest ls (l.put i p)) (nest-keyed l ls a p) (turns l p) q h

  -- the numbers that a loop takes are from the loop's start to its end
  pub turn-bounds : (l : Loop P) (p : P) → ((x : ℕ) → x < l.next p x) → (i : ℕ) → In i (turns l p) → (l.from p ≤ i) × (i < l.to p)
  turn-bounds l p grows i = axis-bounds (l.next p) grows (l.to p - l.from p) (l.from p) (l.to p) i (omega arith)

  -- the numbers of a position listed are within the loops
  pub nest-within : (ls : List (Loop P)) → Apart ls → Steady ls → (p : P) {q : P} → In q (nest ls p) → Within ls q
  nest-within [] a s p h = tt
  nest-within (l ∷ ls) a s p {q} h =
      let r = nest-turn l ls a p h in
      let w = turn-bounds l p (a.1 p) (l.get q) r.0 in
      let f : l.from q ≡ l.from p = nest-kept l.from (l ∷ ls) s.0 p h in
      let t : l.to q ≡ l.to p = nest-kept l.to (l ∷ ls) s.1 p h in
      (omega arith, omega arith, nest-within ls a.3 s.2 (l.put (l.get q) p) r.1)

  -- a loop that goes up by one takes every number from its start to its end
  pub turns-plain : (l : Loop P) (p : P) → ((x : ℕ) → l.next p x ≡ x + 1) → turns l p ≡ span (l.from p) (l.to p)
  turns-plain l p e = ap (λ (nx : ℕ → ℕ). axis nx (l.from p) (l.to p)) (fun_ext e)

  -- so a number from its start to its end is one of its turns
  pub in_turns : (l : Loop P) (p : P) → ((x : ℕ) → l.next p x ≡ x + 1) → (i : ℕ) → l.from p ≤ i → i < l.to p → In i (turns l p)
  in_turns l p e i h k = rw (turns-plain l p e) (in_span i (l.to p) (l.from p) h k)

  -- a position whose numbers are within the loops is listed
  pub within-nest : (ls : List (Loop P)) → Plain ls → Back ls → (q : P) → Within ls q → In q (nest ls q)
  unfolding nest
  within-nest [] e b q w = here refl
  within-nest (l ∷ ls) e b q w =
      gathered (λ i. nest ls (l.put i q)) (in_turns l q (e.0 q) (l.get q) w.0 w.1)
      (rw (b.0 q) (within-nest ls e.1 b.1 q w.2))

-- THE POSITIONS WITH A GIVEN NUMBER, by which visits are counted
module _ {P : Type 0} where
  -- of what a loop lists a test keeps what it keeps of each turn
  pub keep-inner : (t : P → Bool) (m : Loop P) (ls : List (Loop P)) (p : P) → keep t (nest (m ∷ ls) p) ≡ gather (λ j. keep t (nest ls (m.put j p))) (turns m p)
  unfolding nest
  keep-inner t m ls p = gather-gather (λ q. only (t q) q) (λ j. nest ls (m.put j p)) (turns m p)

  module _ (l : Loop P) (ls : List (Loop P)) (a : Apart (l ∷ ls)) (p : P) (i : ℕ) where
    -- those with a loop's number at i are those of its turn at i
    pub keep-turn : In i (turns l p) → keep (λ q. eqb (l.get q) i) (nest (l ∷ ls) p) ≡ nest ls (l.put i p)
    keep-turn h =
        let t : P → Bool = λ q. eqb (l.get q) i in
        let keyed = nest-keyed l ls a p in
        keep-inner t l ls p
        ∙ gather-one (λ j. keep t (nest ls (l.put j p))) (axis-no_repeats (l.next p) (a.1 p) (l.from p) (l.to p)) h
        (λ j n. keep_none t (nest ls (l.put j p)) (λ q k. ne_eqb (l.get q) i (λ e. n (sym (keyed j q k) ∙ e))))
        ∙ keep-all t (nest ls (l.put i p)) (λ q k. eq-eqb (l.get q) i (keyed i q k))

    -- the same of a loop that goes up by one
    pub keep_outer : ((x : ℕ) → l.next p x ≡ x + 1) → l.from p ≤ i → i < l.to p → keep (λ q. eqb (l.get q) i) (nest (l ∷ ls) p) ≡ nest ls (l.put i p)
    keep_outer e h k = keep-turn (in_turns l p e i h k)

    -- no position has a number outside the loop
    pub keep_outer_none : (i < l.from p) ⊎ (l.to p ≤ i) → keep (λ q. eqb (l.get q) i) (nest (l ∷ ls) p) ≡ []
    keep_outer_none h =
        keep_none (λ q. eqb (l.get q) i) (nest (l ∷ ls) p)
        (λ q k.
        let w = turn-bounds l p (a.1 p) (l.get q) (nest-turn l ls a p k).0 in
        ne_eqb (l.get q) i (λ e. ⊎_elim (λ b. omega arith) (λ b. omega arith) h))
