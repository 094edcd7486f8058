-- A loop that goes up by one may go on after numbers that list nothing, by whatever next was found. Assumes nothing.
use Rattle.std.specs.Prelude.{◌≡◌}
use Rattle.std.proofs.Math.Path.{sym, ap, fun_ext}
use Rattle.std.proofs.Common.{◌∙◌, ⊎_elim, eq-or-lt_of_le}
use mathlib.Core.List.{List, [], ◌∷◌, ◌++◌}
use Prim.Native.Nat.{ℕ, ◌+◌, ◌-◌, ◌≤◌, ◌<◌, min}
use native.Mathlib.Omega.{arith}
use Rattle.laws.specs.Gather.{gather}
use Rattle.laws.specs.Axis.{axis, span}
use Rattle.laws.specs.Spans.{span_head, span_end, by_span}
use Rattle.laws.specs.Nest.{Loop, nest, resumed, later, Fresh, turn_clip}

-- numbers that give nothing are passed over
pub span_skip : {B : Type 0} (f : ℕ → List B) (z b a : ℕ) → a ≤ z → ((k : ℕ) → a ≤ k → k < z → k < b → f k ≡ []) → gather f (span a b) ≡ gather f (span z b)
unfolding gather
span_skip f z b =
    by_span (λ a. a ≤ z → ((k : ℕ) → a ≤ k → k < z → k < b → f k ≡ []) → gather f (span a b) ≡ gather f (span z b)) b
    (λ a h p e. rw (span_end a b h, span_end z b (omega arith)))
    (λ a h ih p e.
    ⊎_elim
    (λ q. ap (λ (k : ℕ). gather f (span k b)) q)
    (λ q. rw (span_head a b h, e a (omega arith) q h) (ih (omega arith) (λ k i. e k (omega arith))))
    (eq-or-lt_of_le p))

module _ {P : Type 0} (l : Loop P) (ls : List (Loop P)) (p : P) (plain : (x : ℕ) → l.next p x ≡ x + 1) where
  -- what is left after i is what is left from z on, where nothing between them lists anything
  pub later_skip : (i z : ℕ) → i < z → ((k : ℕ) → i < k → k < z → k < l.to p → nest ls (l.put k p) ≡ []) → later l ls p i ≡ later l ls p (z - 1)
  unfolding later
  later_skip i z h e =
      let f : ℕ → List P = λ j. nest ls (l.put j p) in
      let up : (j : ℕ) → gather f (axis (l.next p) (l.next p j) (l.to p)) ≡ gather f (span (j + 1) (l.to p))
      = λ j. ap (λ (nx : ℕ → ℕ). gather f (axis nx (nx j) (l.to p))) (fun_ext plain) in
      let k : z - 1 + 1 ≡ z = omega arith in
      let passed : gather f (span (i + 1) (l.to p)) ≡ gather f (span (z - 1 + 1) (l.to p))
      = rw k (span_skip f z (l.to p) (i + 1) (omega arith) (λ j a. e j (omega arith))) in
      up i ∙ passed ∙ sym (up (z - 1))

  -- the turn at i is over, and the next one starts at z, clipped to the end, with the inner loops fresh
  pub turn_skip : (s : P → ℕ) (ss : List (P → ℕ)) (o : List P) → Fresh ls ss → (i z : ℕ) → i < z
      → ((k : ℕ) → i < k → k < z → k < l.to p → nest ls (l.put k p) ≡ []) → s p ≡ min z (l.to p)
      → later l ls p i ++ o ≡ resumed (l ∷ ls) (s ∷ ss) p ++ o
  turn_skip s ss o f i z h e k =
      let n : l.next p (z - 1) ≡ z = plain (z - 1) ∙ (omega arith) in
      ap (λ (r : List P). r ++ o) (later_skip i z h e) ∙ turn_clip l ls s ss p o f (z - 1) (rw n k)
