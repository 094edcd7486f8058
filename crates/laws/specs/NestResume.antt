-- What stands after a position in what a nest of loops lists: what is left of the nest when its loops start from that position's numbers. Assumes nothing.
use Rattle.std.specs.Prelude.{◌≡◌}
use Rattle.std.proofs.Common.{◌∙◌}
use mathlib.Core.List.Memᴰ.{eq_of_singleton as in_single}
use mathlib.Core.List.{List, [], ◌∷◌, Memᴰ as In}
use Prim.Native.Nat.{ℕ}
use Rattle.std.proofs.Math.Decide.{ℕ_discrete}
use Rattle.laws.specs.Gather.{headed-same}
use Rattle.laws.specs.Axis.{axis}
use Rattle.laws.specs.Lists.{behind, behind_here}
use Rattle.laws.specs.Gathered.{behind-gather}
use Rattle.laws.specs.Axes.{behind-axis, behind-level}
use Rattle.laws.specs.Nest.{Loop, turns, nest, resumed}
use Rattle.laws.specs.NestOnce.{Apart, nest-keyed, nest-turn}

module _ {P : Type 0} where
  -- the loops start from the numbers of q, and the innermost from the one next to its number
  abbrev pub Resumes : List (Loop P) → List (P → ℕ) → P → P → Type 0
  Resumes [] ss p q = ⊥
  Resumes (l ∷ ls) [] p q = ⊥
  Resumes (l ∷ []) (s ∷ []) p q = s p ≡ l.next p (l.get q)
  Resumes (l ∷ []) (s ∷ t ∷ ss) p q = ⊥
  Resumes (l ∷ m ∷ ls) (s ∷ ss) p q = (s p ≡ l.get q) × Resumes (m ∷ ls) ss (l.put (l.get q) p) q

  module _ (same : Discrete P) where
    -- of one loop
    behind_last : (l : Loop P) (s : P → ℕ) → Apart (l ∷ []) → (p : P) {q : P} → In q (nest (l ∷ []) p) → s p ≡ l.next p (l.get q)
        → behind same q (nest (l ∷ []) p) ≡ resumed (l ∷ []) (s ∷ []) p
    unfolding nest resumed
    behind_last l s a p {q} h e =
        let f : ℕ → List P = λ i. l.put i p ∷ [] in
        let r = nest-turn l [] a p h in
        behind-gather l.get f (nest-keyed l [] a p) ℕ_discrete same q (turns l p) h
        ∙ rw (behind_here same q (l.put (l.get q) p) [] (in_single r.1), behind-axis (l.next p) (a.1 p) (l.from p) (l.to p) (l.get q) r.0, e)
        (headed-same f (axis (l.next p) (l.next p (l.get q)) (l.to p)))

    -- what is after a position is what is left from its numbers on
    pub behind-nest : (ls : List (Loop P)) (ss : List (P → ℕ)) → Apart ls → (p : P) {q : P} → In q (nest ls p) → Resumes ls ss p q
        → behind same q (nest ls p) ≡ resumed ls ss p
    unfolding nest resumed
    behind-nest [] ss a p h r = absurd r
    behind-nest (l ∷ ls) [] a p h r = absurd r
    behind-nest (l ∷ []) (s ∷ []) a p h r = behind_last l s a p h r
    behind-nest (l ∷ []) (s ∷ t ∷ ss) a p h r = absurd r
    behind-nest (l ∷ m ∷ ls) (s ∷ ss) a p {q} h r =
        behind-level (l.next p) (a.1 p) same l.get (λ i. nest (m ∷ ls) (l.put i p)) (λ i. resumed (m ∷ ls) ss (l.put i p)) (nest-keyed l (m ∷ ls) a p)
        (l.from p) (l.to p) q h
        (λ k. behind-nest (m ∷ ls) ss a.3 (l.put (l.get q) p) k r.1)
        ∙ rw r.0
