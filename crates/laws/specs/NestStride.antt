-- Changing a nest of loops without changing what it lists: another next for a loop, other loops inside it; and nests that list nothing. Assumes nothing.
use Rattle.std.specs.Prelude.{◌≡◌, ℕ, ◌+◌, ◌≤◌, ◌<◌}
use Rattle.std.proofs.Math.Path.{ap}
use Rattle.std.proofs.Common.{◌∙◌}
use mathlib.Core.List.{List, [], ◌∷◌, ◌++◌, Memᴰ as In}
use Rattle.laws.specs.Gather.{gather}
use Rattle.laws.specs.Stride.{next_suffices}
use Rattle.laws.specs.Members.{gather-same, gather_none}
use Rattle.laws.specs.Nest.{Loop, turns, nest, nest-append}
use Rattle.laws.specs.NestOnce.{turns-plain}

module _ {P : Type 0} where
  -- a loop with another next
  abbrev pub with_next : (P → ℕ → ℕ) → Loop P → Loop P
  with_next nx l = record { get = l.get; put = l.put; from = l.from; to = l.to; next = nx }

  -- a next that passes over no number that lists something lists the same as every number
  pub nest-stride : (l : Loop P) (ls : List (Loop P)) (nx : P → ℕ → ℕ) (p : P) → ((x : ℕ) → l.next p x ≡ x + 1) → ((x : ℕ) → x < nx p x)
      → ((x z : ℕ) → l.from p ≤ x → x < z → z < nx p x → z < l.to p → nest ls (l.put z p) ≡ [])
      → nest (l ∷ ls) p ≡ nest (with_next nx l ∷ ls) p
  unfolding nest
  nest-stride l ls nx p e grows h =
      ap (gather (λ i. nest ls (l.put i p))) (turns-plain l p e)
      ∙ next_suffices (λ i. nest ls (l.put i p)) (nx p) grows (l.from p) (l.to p) h

  -- inner loops that list the same in every turn
  pub nest-inner : (l : Loop P) (ls ms : List (Loop P)) (p : P) → ((i : ℕ) → In i (turns l p) → nest ls (l.put i p) ≡ nest ms (l.put i p))
      → nest (l ∷ ls) p ≡ nest (l ∷ ms) p
  unfolding nest
  nest-inner l ls ms p = gather-same (λ i. nest ls (l.put i p)) (λ i. nest ms (l.put i p)) (turns l p)

  -- the same, deeper inside
  pub nest-inside : (ls ms ns : List (Loop P)) (p : P) → ((q : P) → In q (nest ls p) → nest ms q ≡ nest ns q) → nest (ls ++ ms) p ≡ nest (ls ++ ns) p
  nest-inside ls ms ns p h = rw (nest-append ls ms p, nest-append ls ns p) (gather-same (nest ms) (nest ns) (nest ls p) h)

  -- inner loops that list nothing
  pub nest_none : (ls ms : List (Loop P)) (p : P) → ((q : P) → In q (nest ls p) → nest ms q ≡ []) → nest (ls ++ ms) p ≡ []
  nest_none ls ms p h = nest-append ls ms p ∙ gather_none (nest ms) (nest ls p) h
