-- A nest of loops over positions: what it lists, what is left of it from a place on, and the laws of a turn. Assumes nothing.
use Rattle.std.specs.Prelude.{◌≡◌, ℕ, min, ◌≤◌, ◌<◌}
use Rattle.std.proofs.Math.Path.{refl, sym, ap, fun_ext}
use Rattle.std.proofs.Common.{◌∙◌}
use mathlib.Core.List.{List, [], ◌∷◌, ◌++◌, append-nil}
use Rattle.laws.specs.Gather.{gather, headed, headed-same, gather-gather}
use Rattle.laws.specs.Axis.{axis, turn, done, fresh, fresh_clip}

-- one loop of a nest over positions P: the number of a position that it sets, where it starts, where it ends (the end left out), and its next
pub record Loop (P : Type 0) : Type 0 where
  pub get : P → ℕ
  pub put : ℕ → P → P
  pub from : P → ℕ
  pub to : P → ℕ
  pub next : P → ℕ → ℕ

module _ {P : Type 0} where
  -- the numbers that a loop takes, given the loops around it
  abbrev pub turns : Loop P → P → List ℕ
  turns l p = axis (l.next p) (l.from p) (l.to p)

  -- what a nest lists, outermost loop first
  unfoldable pub nest : List (Loop P) → P → List P
  nest [] p = p ∷ []
  nest (l ∷ ls) p = gather (λ i. nest ls (l.put i p)) (turns l p)

  -- what is left of a nest whose loops start from s in their first turns
  unfoldable pub resumed : List (Loop P) → List (P → ℕ) → P → List P
  resumed [] ss p = p ∷ []
  resumed (l ∷ ls) [] p = nest (l ∷ ls) p
  resumed (l ∷ ls) (s ∷ ss) p = headed (λ i. resumed ls ss (l.put i p)) (λ i. nest ls (l.put i p)) (axis (l.next p) (s p) (l.to p))

  -- what is left of a loop once its turn at i is over
  unfoldable pub later : Loop P → List (Loop P) → P → ℕ → List P
  later l ls p i = gather (λ j. nest ls (l.put j p)) (axis (l.next p) (l.next p i) (l.to p))

  -- a nest inside another: each position of the outer nest is where the inner one starts
  pub nest-append : (ls ms : List (Loop P)) (p : P) → nest (ls ++ ms) p ≡ gather (nest ms) (nest ls p)
  unfolding nest gather
  nest-append [] ms p = sym (append-nil (nest ms p))
  nest-append (l ∷ ls) ms p =
      ap (λ f. gather f (turns l p)) (fun_ext (λ i. nest-append ls ms (l.put i p)))
      ∙ sym (gather-gather (nest ms) (λ i. nest ls (l.put i p)) (turns l p))

  -- to a nest two places are alike: its loops start, end and go on the same from both, and in the end the positions are the same
  abbrev pub Alike : List (Loop P) → P → P → Type 0
  Alike [] p q = p ≡ q
  Alike (l ∷ ls) p q = (l.from p ≡ l.from q) × (l.to p ≡ l.to q) × (l.next p ≡ l.next q) × ((i : ℕ) → Alike ls (l.put i p) (l.put i q))

  -- a nest lists the same from places that are alike to it
  pub alike-nest : (ls : List (Loop P)) (p q : P) → Alike ls p q → nest ls p ≡ nest ls q
  unfolding nest
  alike-nest [] p q a = ap (λ (r : P). r ∷ []) a
  alike-nest (l ∷ ls) p q a =
      ap (λ f. gather f (turns l p)) (fun_ext (λ i. alike-nest ls (l.put i p) (l.put i q) (a.3 i)))
      ∙ rw (a.0, a.1, a.2)

  -- every start is its loop's own
  abbrev pub Fresh : List (Loop P) → List (P → ℕ) → Type 0
  Fresh [] ss = Unit {0}
  Fresh (l ∷ ls) [] = Unit {0}
  Fresh (l ∷ ls) (s ∷ ss) = ((p : P) → s p ≡ l.from p) × Fresh ls ss

  -- from the loops' own starts all is left
  pub resumed-fresh : (ls : List (Loop P)) (ss : List (P → ℕ)) → Fresh ls ss → (p : P) → resumed ls ss p ≡ nest ls p
  unfolding resumed nest
  resumed-fresh [] ss f p = refl
  resumed-fresh (l ∷ ls) [] f p = refl
  resumed-fresh (l ∷ ls) (s ∷ ss) f p =
      rw (f.0 p)
      (ap (λ g. headed g (λ i. nest ls (l.put i p)) (turns l p)) (fun_ext (λ i. resumed-fresh ls ss f.1 (l.put i p)))
      ∙ sym (headed-same (λ i. nest ls (l.put i p)) (turns l p)))

-- THE LAWS OF A TURN of the loop l around ls, which starts from s in its first turn, and ls from ss. `o` is what is left for the loops around it.
module _ {P : Type 0} (l : Loop P) (ls : List (Loop P)) (s : P → ℕ) (ss : List (P → ℕ)) (p : P) (o : List P) where
  -- a turn starts: what is left of the inner loops, and then the later turns
  pub turn_in : ((x : ℕ) → x < l.next p x) → s p < l.to p
      → resumed (l ∷ ls) (s ∷ ss) p ++ o ≡ resumed ls ss (l.put (s p) p) ++ (later l ls p (s p) ++ o)
  unfolding resumed later
  turn_in grows h =
      turn (l.next p) (λ i. resumed ls ss (l.put i p)) (λ i. nest ls (l.put i p)) (s p) (l.to p) o grows h

  -- the loop is left by its test
  pub turn_out : l.to p ≤ s p → resumed (l ∷ ls) (s ∷ ss) p ++ o ≡ o
  unfolding resumed
  turn_out h = done (l.next p) (λ i. resumed ls ss (l.put i p)) (λ i. nest ls (l.put i p)) (s p) (l.to p) o h

  -- what is left from s, with the inner loops fresh
  resumed_outer : Fresh ls ss → resumed (l ∷ ls) (s ∷ ss) p ≡ headed (λ i. nest ls (l.put i p)) (λ i. nest ls (l.put i p)) (axis (l.next p) (s p) (l.to p))
  unfolding resumed
  resumed_outer f =
      ap (λ g. headed g (λ i. nest ls (l.put i p)) (axis (l.next p) (s p) (l.to p))) (fun_ext (λ i. resumed-fresh ls ss f (l.put i p)))

  -- the turn at i is over, and the next one starts with the inner loops fresh
  pub turn-next : Fresh ls ss → (i : ℕ) → s p ≡ l.next p i → later l ls p i ++ o ≡ resumed (l ∷ ls) (s ∷ ss) p ++ o
  unfolding later
  turn-next f i e =
      rw (resumed_outer f, e) (fresh (l.next p) (λ j. nest ls (l.put j p)) (l.next p i) (l.to p) o)

  -- the same where the next is clipped to the end
  pub turn_clip : Fresh ls ss → (i : ℕ) → s p ≡ min (l.next p i) (l.to p) → later l ls p i ++ o ≡ resumed (l ∷ ls) (s ∷ ss) p ++ o
  unfolding later
  turn_clip f i e =
      rw (resumed_outer f, e) (fresh_clip (l.next p) (λ j. nest ls (l.put j p)) (l.next p i) (l.to p) o)
