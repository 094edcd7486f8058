-- The positions of a nest of loops at which one loop stands at a given number: what the nest lists without that loop. Assumes nothing.
use Rattle.std.specs.Prelude.{◌≡◌, Bool, ◌&&◌, ◌⊎◌, ℕ, ◌+◌, ◌≤◌, ◌<◌}
use Rattle.std.proofs.Math.Path.{refl, sym, ap, fun_ext}
use Rattle.std.proofs.Common.{◌∙◌, ⊎_elim, arith}
use Rattle.std.proofs.Math.Bool.{true, false}
use mathlib.Core.List.{List, [], ◌∷◌, ◌++◌, append-nil}
use Rattle.std.proofs.Math.Logic.{inl, inr}
use Rattle.std.proofs.Math.Dec.{eqb}
use Rattle.laws.specs.Cases.{le_or_lt}
use Rattle.laws.specs.Gather.{gather, gather-gather, only, keep}
use Rattle.laws.specs.Members.{gather_none}
use Rattle.laws.specs.Nest.{Loop, turns, nest}
use Rattle.laws.specs.NestOnce.{Apart, keep-inner, keep_outer, keep_outer_none}

module _ {P : Type 0} where
  -- the loops of ms do not see the number that l sets, and set others
  abbrev pub Blind : Loop P → List (Loop P) → Type 0
  Blind l [] = Unit {0}
  Blind l (m ∷ ms) = ((i : ℕ) (p : P) → turns m (l.put i p) ≡ turns m p) × ((i j : ℕ) (p : P) → m.put j (l.put i p) ≡ l.put i (m.put j p)) × Blind l ms

  -- of what the loops ms, then l from a to b, then ls list, those with l's number at i: none; or i is from a to b and they are what the nest without l lists
  abbrev pub Fixed : List (Loop P) → Loop P → List (Loop P) → ℕ → ℕ → ℕ → P → Type 0
  Fixed ms l ls a b i p =
      (keep (λ q. eqb (l.get q) i) (nest (ms ++ (l ∷ ls)) p) ≡ [])
      ⊎ (((a ≤ i) × (i < b)) × (keep (λ q. eqb (l.get q) i) (nest (ms ++ (l ∷ ls)) p) ≡ nest (ms ++ ls) (l.put i p)))

module _ {P : Type 0} (l : Loop P) (ls : List (Loop P)) (apart : Apart (l ∷ ls)) (i : ℕ) where
  inside : (ms : List (Loop P)) → Blind l ms → ((p : P) (x : ℕ) → l.next p x ≡ x + 1) → ((p : P) → l.from p ≤ i) → ((p : P) → i < l.to p) → (p : P)
      → keep (λ q. eqb (l.get q) i) (nest (ms ++ (l ∷ ls)) p) ≡ nest (ms ++ ls) (l.put i p)
  unfolding nest
  inside [] blind plain a b p = keep_outer l ls apart p i (plain p) (a p) (b p)
  inside (m ∷ ms) blind plain a b p =
      keep-inner (λ q. eqb (l.get q) i) m (ms ++ (l ∷ ls)) p
      ∙ ap (λ f. gather f (turns m p)) (fun_ext (λ j. inside ms blind.2 plain a b (m.put j p) ∙ ap (nest (ms ++ ls)) (sym (blind.1 i j p))))
      ∙ ap (gather (λ j. nest (ms ++ ls) (m.put j (l.put i p)))) (sym (blind.0 i p))

  outside : (ms : List (Loop P)) → ((p : P) → (i < l.from p) ⊎ (l.to p ≤ i)) → (p : P) → keep (λ q. eqb (l.get q) i) (nest (ms ++ (l ∷ ls)) p) ≡ []
  outside [] h p = keep_outer_none l ls apart p i (h p)
  outside (m ∷ ms) h p =
      keep-inner (λ q. eqb (l.get q) i) m (ms ++ (l ∷ ls)) p
      ∙ gather_none (λ j. keep (λ q. eqb (l.get q) i) (nest (ms ++ (l ∷ ls)) (m.put j p))) (turns m p) (λ j k. outside ms h (m.put j p))

  -- a loop that goes up by one from a to b, between loops that do not see it and loops that set other numbers
  pub nest-fixed : (ms : List (Loop P)) → Blind l ms → ((p : P) (x : ℕ) → l.next p x ≡ x + 1)
      → (a b : ℕ) → ((p : P) → l.from p ≡ a) → ((p : P) → l.to p ≡ b) → (p : P) → Fixed ms l ls a b i p
  nest-fixed ms blind plain a b from to p =
      ⊎_elim
      (λ (h : b ≤ i). inl (outside ms (λ q. inr (omega (arith, to q))) p))
      (λ (h : i < b).
      ⊎_elim
      (λ (k : a ≤ i). inr ((k, h), inside ms blind plain (λ q. omega (arith, from q)) (λ q. omega (arith, to q)) p))
      (λ (k : i < a). inl (outside ms (λ q. inl (omega (arith, from q))) p))
      (le_or_lt a i))
      (le_or_lt b i)

module _ {P : Type 0} (t u : P → Bool) (l : List P) where
  keep_both : keep (λ q. t q && u q) l ≡ keep u (keep t l)
  unfolding gather
  keep_both = ap (λ f. gather f l) (fun_ext (λ q. by q (t q))) ∙ sym (gather-gather (λ q. only (u q) q) (λ q. only (t q) q) l)
    where
      by : (q : P) (b : Bool) → only (b && u q) q ≡ gather (λ r. only (u r) r) (only b q)
      by q true = sym (append-nil (only (u q) q))
      by q false = refl

  -- TWO LOOPS: those that pass a test are none or m, and of m those that pass another are none or n; so those that pass both are none or n
  pub fixed_two : {A B : Type 0} (m n : List P) → (keep t l ≡ []) ⊎ (A × (keep t l ≡ m)) → (keep u m ≡ []) ⊎ (B × (keep u m ≡ n))
      → (keep (λ q. t q && u q) l ≡ []) ⊎ (A × (keep (λ q. t q && u q) l ≡ n))
  unfolding gather
  fixed_two m n (inl e) h = inl (keep_both ∙ rw e)
  fixed_two m n (inr e) (inl h) = inl (keep_both ∙ rw e.1 h)
  fixed_two m n (inr e) (inr h) = inr (e.0, keep_both ∙ rw e.1 h.1)
