-- Passing over numbers that give nothing: any next that passes over no number that gives something lists the same as every number. A stride is one. Assumes nothing.
use Rattle.std.specs.Prelude.{◌≡◌}
use Rattle.std.proofs.Math.Path.{ap}
use Rattle.std.proofs.Common.{◌∙◌, mod-lt, mod-eq_of_lt, div-add-mod', add-mul}
use mathlib.Core.List.{List, []}
use Rattle.std.proofs.Math.Logic.{⊎_elim}
use Prim.Native.Nat.{ℕ, zero, suc, ◌+◌, ◌-◌, ◌*◌, ◌/◌, ◌%◌, ◌≤◌, ◌<◌}
use Rattle.std.proofs.Math.Nat.{mul-add-mod_self_right, mul-mod_left}
use native.Mathlib.Omega.{arith}
use Rattle.laws.specs.Cases.{le_or_lt}
use Rattle.laws.specs.Gather.{gather}
use Rattle.laws.specs.Axis.{axis, axis_head, axis_end, span}
use Rattle.laws.specs.Spans.{span_head, span_end}

module _ {B : Type 0} (f : ℕ → List B) where
  -- n numbers that give nothing are passed over
  skip : (n x b : ℕ) → ((z : ℕ) → x ≤ z → z < x + n → z < b → f z ≡ []) → gather f (span x b) ≡ gather f (span (x + n) b)
  unfolding gather
  skip zero x b e = ap (λ (k : ℕ). gather f (span k b)) (omega arith)
  skip (suc n) x b e =
      ⊎_elim
      (λ h. rw (span_end x b h, span_end (x + suc n) b (omega arith)))
      (λ h.
      let k : x + suc n ≡ x + 1 + n = omega arith in
      let empty : f x ≡ [] = e x (omega arith) (omega arith) h in
      rw (span_head x b h, empty, k) (skip n (x + 1) b (λ z p q r. e z (omega arith) (omega arith) r)))
      (le_or_lt b x)

  module _ (nx : ℕ → ℕ) (grows : (x : ℕ) → x < nx x) where
    sparse : (n a b : ℕ) → b - a ≤ n → ((x z : ℕ) → a ≤ x → x < z → z < nx x → z < b → f z ≡ []) → gather f (span a b) ≡ gather f (axis nx a b)
    unfolding gather
    sparse zero a b m e = rw (span_end a b (omega arith), axis_end nx a b (omega arith))
    sparse (suc n) a b m e =
        ⊎_elim
        (λ h. rw (span_end a b h, axis_end nx a b h))
        (λ h.
        let g : a < nx a = grows a in
        let k : a + 1 + (nx a - (a + 1)) ≡ nx a = omega arith in
        let passed : gather f (span (a + 1) b) ≡ gather f (span (a + 1 + (nx a - (a + 1))) b)
        = skip (nx a - (a + 1)) (a + 1) b (λ z p q r. e a z (omega arith) (omega arith) (omega arith) r) in
        let rest : gather f (span (nx a) b) ≡ gather f (axis nx (nx a) b) = sparse n (nx a) b (omega arith) (λ x z p. e x z (omega arith)) in
        rw (span_head a b h, axis_head nx grows a b h, passed, k, rest))
        (le_or_lt b a)

    -- THE LAW OF SKIPPING
    pub next_suffices : (a b : ℕ) → ((x z : ℕ) → a ≤ x → x < z → z < nx x → z < b → f z ≡ []) → gather f (span a b) ≡ gather f (axis nx a b)
    next_suffices a b e = sparse (b - a) a b (omega arith) e

-- the least multiple of s above x (01, 'The source strides')
abbrev pub stride : ℕ → ℕ → ℕ
stride s x = x + (s - x % s)

-- a, and the multiples of s above a and below b
abbrev pub points : ℕ → ℕ → ℕ → List ℕ
points s = axis (stride s)

module _ (s : ℕ) (pos : 1 ≤ s) where
  pub stride_grows : (x : ℕ) → x < stride s x
  stride_grows x = omega (arith, mod-lt x {m = s} pos)

  pub stride_multiple : (x : ℕ) → stride s x % s ≡ 0
  stride_multiple x =
      let m : x % s < s = mod-lt x pos in
      let e : stride s x ≡ (x / s + 1) * s = omega (arith, div-add-mod' x s, add-mul (x / s) 1 s) in
      rw e (mul-mod_left (x / s + 1) s)

  -- no multiple of s lies between x and the next
  pub between : (x z : ℕ) → x < z → z < stride s x → z % s ≡ 0 → ⊥
  between x z p q e =
      let w : ℕ = x % s + (z - x) in
      let small : w < s = omega (arith, mod-lt x {m = s} pos) in
      let split : z ≡ x / s * s + w = omega (arith, div-add-mod' x s) in
      let same : z % s ≡ w = ap (λ (n : ℕ). n % s) split ∙ mul-add-mod_self_right (x / s) s w ∙ mod-eq_of_lt small in
      omega arith

  -- a stride gives the list of all the points, where every point that it leaves out gives nothing
  pub points_suffice : {B : Type 0} (f : ℕ → List B) (a b : ℕ) → ((z : ℕ) → a < z → z < b → (z % s ≡ 0 → ⊥) → f z ≡ []) → gather f (span a b) ≡ gather f (points s a b)
  points_suffice f a b e = next_suffices f (stride s) stride_grows a b (λ x z p q r h. e z (omega arith) h (between x z q r))
