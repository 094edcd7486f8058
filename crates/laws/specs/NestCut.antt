-- A loop of a nest that ends earlier lists those of the positions whose number is below its end. Assumes nothing.
use Rattle.std.specs.Prelude.{◌≡◌, Bool, ltb}
use Rattle.std.proofs.Math.Path.{refl, sym, ap, fun_ext}
use Rattle.std.proofs.Common.{◌∙◌, ⊎_elim, arith, lt-ltb, le-ltb}
use mathlib.Core.List.{List, [], ◌∷◌, ◌++◌, append-nil, Memᴰ as In}
use Prim.Native.Nat.{ℕ, ◌+◌, ◌≤◌, ◌<◌, min}
use Rattle.laws.specs.Cases.{le_or_lt}
use Rattle.laws.specs.Gather.{gather, gather-append, keep}
use Rattle.laws.specs.Axis.{span, up, up_grows}
use Rattle.laws.specs.Spans.{span_end, span-append}
use Rattle.laws.specs.Axes.{axis-bounds}
use Rattle.laws.specs.Members.{gather-same, keep-all, keep_none}
use Rattle.laws.specs.Nest.{Loop, turns, nest}
use Rattle.laws.specs.NestOnce.{Kept, nest-kept, keep-inner}
use Rattle.laws.specs.NestSkip.{span_skip}

-- numbers from e on that give nothing need not be taken
span_cut : {B : Type 0} (f : ℕ → List B) (a e b : ℕ) → e ≤ b → ((k : ℕ) → e ≤ k → k < b → f k ≡ []) → gather f (span a b) ≡ gather f (span a e)
unfolding gather
span_cut f a e b h none =
    ⊎_elim
    (λ (k : a ≤ e).
    let rest : gather f (span e b) ≡ [] = span_skip f b b e h (λ i x y z. none i x z) ∙ rw (span_end b b (omega arith)) refl in
    ap (gather f) (sym (span-append b e a k h)) ∙ gather-append f (span a e) (span e b) ∙ rw rest (append-nil (gather f (span a e))))
    (λ (k : e < a).
    ⊎_elim
    (λ (j : a ≤ b). span_skip f b b a j (λ i x y z. none i (omega arith) z) ∙ rw (span_end b b (omega arith), span_end a e (omega arith)) refl)
    (λ (j : b < a). rw (span_end a b (omega arith), span_end a e (omega arith)) refl)
    (le_or_lt a b))
    (le_or_lt a e)

module _ {P : Type 0} (l : Loop P) (e : ℕ) where
  -- the loop with its end at e, if that is earlier
  abbrev pub ended : Loop P
  ended = record { get = l.get; put = l.put; from = l.from; to = λ p. min (l.to p) e; next = l.next }

  abbrev below : P → Bool
  below q = ltb (l.get q) e

  -- it goes up by one, and no inner loop sets its number
  module _ (ls : List (Loop P)) (own : (i : ℕ) (p : P) → l.get (l.put i p) ≡ i) (others : Kept l.get ls) (plain : (p : P) → l.next p ≡ up) where
    number_is : (i : ℕ) (p q : P) → In q (nest ls (l.put i p)) → l.get q ≡ i
    number_is i p q h = nest-kept l.get ls others (l.put i p) h ∙ own i p

    turn-kept : (i : ℕ) (p : P) → i < e → keep below (nest ls (l.put i p)) ≡ nest ls (l.put i p)
    turn-kept i p h = keep-all below (nest ls (l.put i p)) (λ q m. rw (number_is i p q m) (lt-ltb i e h))

    turn_lost : (i : ℕ) (p : P) → e ≤ i → keep below (nest ls (l.put i p)) ≡ []
    turn_lost i p h = keep_none below (nest ls (l.put i p)) (λ q m. rw (number_is i p q m) (le-ltb i e h))

    cut_here : (p : P) → nest (ended ∷ ls) p ≡ keep below (nest (l ∷ ls) p)
    unfolding nest
    cut_here p =
        let f : ℕ → List P = λ i. nest ls (l.put i p) in
        let g : ℕ → List P = λ i. keep below (nest ls (l.put i p)) in
        let b : ℕ = min (l.to p) e in
        let cut : gather g (span (l.from p) (l.to p)) ≡ gather g (span (l.from p) b)
        = span_cut g (l.from p) b (l.to p) (omega arith) (λ k x y. turn_lost k p (omega arith)) in
        let same : gather g (span (l.from p) b) ≡ gather f (span (l.from p) b)
        = gather-same g f (span (l.from p) b) (λ i m. turn-kept i p (omega (arith, axis-bounds up up_grows b (l.from p) b i (omega arith) m))) in
        let as-span : (c : ℕ) → turns (record { get = l.get; put = l.put; from = l.from; to = λ q. c; next = l.next }) p ≡ span (l.from p) c = λ c. rw (plain p) refl in
        ap (gather f) (as-span b) ∙ sym (ap (gather g) (as-span (l.to p)) ∙ cut ∙ same) ∙ sym (keep-inner below l ls p)

    -- .. inside other loops
    pub cut_nest : (ms : List (Loop P)) (p : P) → nest (ms ++ (ended ∷ ls)) p ≡ keep below (nest (ms ++ (l ∷ ls)) p)
    unfolding nest
    cut_nest [] p = cut_here p
    cut_nest (m ∷ ms) p = ap (λ f. gather f (turns m p)) (fun_ext (λ i. cut_nest ms (m.put i p))) ∙ sym (keep-inner below m (ms ++ (l ∷ ls)) p)
