-- Two nexts that agree up to a loop's end list the same, as one that is clipped to the end and one that is not. Assumes nothing.
use Rattle.std.specs.Prelude.{◌≡◌, List, [], ◌∷◌}
use Rattle.std.proofs.Math.Path.{refl, sym}
use Rattle.std.proofs.Common.{ap, ◌∙◌}
use Rattle.std.proofs.Math.Logic.{⊎_elim}
use Prim.Native.Nat.{ℕ, zero, suc, ◌-◌, ◌≤◌, ◌<◌, min}
use native.Mathlib.Omega.{arith}
use borrow.Author.Tests.{lt-ltb, le-ltb}
use Rattle.laws.specs.Cases.{le_or_lt}
use Rattle.laws.specs.Gather.{gather}
use Rattle.laws.specs.Axis.{axis, go_up}
use Rattle.laws.specs.Nest.{Loop, nest}
use Rattle.laws.specs.NestStride.{with_next}

go_end : (nx : ℕ → ℕ) (n a b : ℕ) → b ≤ a → go_up nx n a b ≡ []
unfolding go_up
go_end nx zero a b h = refl
go_end nx (suc n) a b h = rw (go_up, le-ltb a b h)

module _ (nx ny : ℕ → ℕ) (b : ℕ) (same : (x : ℕ) → x < b → min (nx x) b ≡ min (ny x) b) where
  go_same : (n a : ℕ) → go_up nx n a b ≡ go_up ny n a b
  unfolding go_up
  go_same zero a = refl
  go_same (suc n) a =
      ⊎_elim
      (λ h. go_end nx (suc n) a b h ∙ sym (go_end ny (suc n) a b h))
      (λ h.
      let e : min (nx a) b ≡ min (ny a) b = same a h in
      let rest : go_up nx n (nx a) b ≡ go_up ny n (ny a) b
      = ⊎_elim
      (λ k. go_end nx n (nx a) b k ∙ sym (go_end ny n (ny a) b (omega arith)))
      (λ k. let i : nx a ≡ ny a = omega arith in rw i (go_same n (ny a)))
      (le_or_lt b (nx a)) in
      rw (go_up, lt-ltb a b h, rest))
      (le_or_lt b a)

  -- an axis goes by its next up to its end alone
  pub axis-same : (a : ℕ) → axis nx a b ≡ axis ny a b
  unfolding axis
  axis-same a = go_same (b - a) a

-- so does a loop of a nest
pub nest_same_next : {P : Type 0} (l : Loop P) (ls : List (Loop P)) (nx ny : P → ℕ → ℕ) (p : P)
    → ((x : ℕ) → x < l.to p → min (nx p x) (l.to p) ≡ min (ny p x) (l.to p)) → nest (with_next nx l ∷ ls) p ≡ nest (with_next ny l ∷ ls) p
unfolding nest
nest_same_next l ls nx ny p same = ap (gather (λ i. nest ls (l.put i p))) (axis-same (nx p) (ny p) (l.to p) same (l.from p))
