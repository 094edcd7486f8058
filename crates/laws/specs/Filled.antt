-- An array that is filled from the front, element by element. Assumes nothing.
use Rattle.std.specs.Prelude.{◌≡◌, [], ◌∷◌, ◌++◌, map, ℕ, suc, ◌+◌, ◌-◌, ◌<◌, set, replicate}
use Rattle.std.proofs.lemmas.List.{map-append, set_at}
use Rattle.std.proofs.Common.{append_assoc, arith}
use Rattle.laws.specs.Axis.{span}
use Rattle.laws.specs.Spans.{span_end}
use Rattle.laws.specs.Indexing.{span_last}
use Rattle.laws.specs.Pointwise.{map-length}

module _ {A : Type 0} (m : ℕ) (blank : A) (f : ℕ → A) where
  -- blank at first
  pub filled_none : map f (span 0 0) ++ replicate (m - 0) blank ≡ replicate m blank
  filled_none = let e : m - 0 ≡ m = omega arith in rw (span_end 0 0 (omega arith), e)

  -- and f c put at place c, where f 0, .. f (c - 1) stand in front
  pub filled_more : (c : ℕ) → c < m → set (map f (span 0 c) ++ replicate (m - c) blank) c (f c) ≡ map f (span 0 (c + 1)) ++ replicate (m - (c + 1)) blank
  filled_more c h =
      let e : m - c ≡ suc (m - (c + 1)) = omega arith in
      let one : span 0 (c + 1) ≡ span 0 c ++ (c ∷ []) = span_last c in
      rw (e, one, map-append f (span 0 c) (c ∷ []), append_assoc (map f (span 0 c)) (f c ∷ []) (replicate (m - (c + 1)) blank))
      (set_at (map f (span 0 c)) blank (replicate (m - (c + 1)) blank) (f c) c (map-length f c))
