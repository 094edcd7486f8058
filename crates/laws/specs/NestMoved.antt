-- A nest taken apart by the turns of its outermost loop: one turn, which may stand further in, and then the later ones. Assumes nothing.
use Rattle.std.specs.Prelude.{◌≡◌, ℕ, ◌+◌, ◌≤◌, ◌<◌}
use Rattle.std.proofs.Math.Path.{sym, ap, fun_ext}
use Rattle.std.proofs.Common.{◌∙◌, arith}
use mathlib.Core.List.{List, [], ◌∷◌, ◌++◌, append-nil}
use Rattle.laws.specs.Gather.{gather, headed}
use Rattle.laws.specs.Axis.{axis, axis_head, axis_end}
use Rattle.laws.specs.Nest.{Loop, turns, nest, resumed, Fresh, turn_in, turn_out, turn-next}

module _ {P : Type 0} (l : Loop P) (i : ℕ) where
  -- the loops ms, which start from ss, do not see that l's number is i, and set others
  abbrev pub Unseen : List (Loop P) → List (P → ℕ) → Type 0
  Unseen [] [] = Unit {0}
  Unseen [] (s ∷ ss) = ⊥
  Unseen (m ∷ ms) [] = ⊥
  Unseen (m ∷ ms) (s ∷ ss) =
      ((p : P) → (m.from (l.put i p) ≡ m.from p) × (m.to (l.put i p) ≡ m.to p) × (m.next (l.put i p) ≡ m.next p) × (s (l.put i p) ≡ s p))
      × ((j : ℕ) (p : P) → m.put j (l.put i p) ≡ l.put i (m.put j p)) × Unseen ms ss

  -- l takes the number i alone
  module _ (ls : List (Loop P)) (from : (p : P) → l.from p ≡ i) (to : (p : P) → l.to p ≡ i + 1) (grows : (p : P) (x : ℕ) → x < l.next p x) where
    one-turn : (p : P) → axis (l.next p) i (l.to p) ≡ i ∷ []
    one-turn p =
        axis_head (l.next p) (grows p) i (l.to p) (omega (arith, to p))
        ∙ ap (λ (t : List ℕ). i ∷ t) (axis_end (l.next p) (l.next p i) (l.to p) (omega (arith, to p, grows p i)))

    nest-moved : (ms : List (Loop P)) (ss : List (P → ℕ)) → Unseen ms ss → (p : P) → nest (ms ++ ls) (l.put i p) ≡ nest (ms ++ (l ∷ ls)) p
    unfolding nest gather
    nest-moved [] [] u p = sym (rw (from p, one-turn p) (append-nil (nest ls (l.put i p))))
    nest-moved [] (s ∷ ss) u p = absurd u
    nest-moved (m ∷ ms) [] u p = absurd u
    nest-moved (m ∷ ms) (s ∷ ss) u p =
        ap (λ f. gather f (turns m (l.put i p))) (fun_ext (λ j. ap (nest (ms ++ ls)) (u.1 j p) ∙ nest-moved ms ss u.2 (m.put j p)))
        ∙ rw ((u.0 p).0, (u.0 p).1, (u.0 p).2)

    -- a loop of one turn may stand further in
    pub resumed-moved : (ms : List (Loop P)) (ss ts : List (P → ℕ)) → Unseen ms ss → (p : P)
        → resumed (ms ++ ls) (ss ++ ts) (l.put i p) ≡ resumed (ms ++ (l ∷ ls)) (ss ++ ((λ q. i) ∷ ts)) p
    unfolding resumed gather headed
    resumed-moved [] [] ts u p = sym (rw (one-turn p) (append-nil (resumed ls ts (l.put i p))))
    resumed-moved [] (s ∷ ss) ts u p = absurd u
    resumed-moved (m ∷ ms) [] ts u p = absurd u
    resumed-moved (m ∷ ms) (s ∷ ss) ts u p =
        ap (λ f. headed f (λ j. nest (ms ++ ls) (m.put j (l.put i p))) (axis (m.next (l.put i p)) (s (l.put i p)) (m.to (l.put i p))))
        (fun_ext (λ j. ap (resumed (ms ++ ls) (ss ++ ts)) (u.1 j p) ∙ resumed-moved ms ss ts u.2 (m.put j p)))
        ∙ ap (λ f. headed (λ j. resumed (ms ++ (l ∷ ls)) (ss ++ ((λ q. i) ∷ ts)) (m.put j p)) f (axis (m.next (l.put i p)) (s (l.put i p)) (m.to (l.put i p))))
        (fun_ext (λ j. ap (nest (ms ++ ls)) (u.1 j p) ∙ nest-moved ms ss u.2 (m.put j p)))
        ∙ rw ((u.0 p).1, (u.0 p).2, (u.0 p).3)

-- THE OUTERMOST LOOP l, which starts from s in its first turn, and ls inside it from ss
module _ {P : Type 0} (l : Loop P) (ls : List (Loop P)) (s : P → ℕ) (ss : List (P → ℕ)) (p : P) where
  -- no turn is left
  pub no_turn : l.to p ≤ s p → resumed (l ∷ ls) (s ∷ ss) p ≡ []
  no_turn h = sym (append-nil (resumed (l ∷ ls) (s ∷ ss) p)) ∙ turn_out l ls s ss p [] h

  -- one turn, and then the later ones with the inner loops fresh
  pub one_and_later : ((x : ℕ) → x < l.next p x) → s p < l.to p → (t : P → ℕ) (ts : List (P → ℕ)) → t p ≡ l.next p (s p) → Fresh ls ts
      → resumed (l ∷ ls) (s ∷ ss) p ≡ resumed ls ss (l.put (s p) p) ++ resumed (l ∷ ls) (t ∷ ts) p
  one_and_later grows h t ts e f =
      sym (append-nil (resumed (l ∷ ls) (s ∷ ss) p))
      ∙ turn_in l ls s ss p [] grows h
      ∙ ap (λ (o : List P). resumed ls ss (l.put (s p) p) ++ o) (turn-next l ls t ts p [] f (s p) e ∙ append-nil (resumed (l ∷ ls) (t ∷ ts) p))
