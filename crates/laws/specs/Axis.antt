-- An axis: the numbers that a loop's variable takes, from a start, by a next, to an end; and the laws by which a loop over it takes one turn. Assumes nothing.
use Rattle.std.specs.Prelude.{◌≡◌, true, false, ltb}
use Rattle.std.proofs.Math.Path.{refl, ap}
use Rattle.std.proofs.Common.{sym, ◌∙◌, ⊎_elim, arith}
use mathlib.Core.List.{List, [], ◌∷◌, ◌++◌, append_assoc}
use Prim.Native.Nat.{ℕ, zero, suc, ◌+◌, ◌-◌, min, ◌≤◌, ◌<◌}
use borrow.Author.Tests.{lt-ltb, le-ltb}
use Rattle.laws.specs.Cases.{le_or_lt}
use Rattle.laws.specs.Gather.{gather, headed, headed-same}

-- one more: the step of an axis that has every number
abbrev pub up : ℕ → ℕ
up n = n + 1

pub up_grows : (n : ℕ) → n < up n
up_grows n = omega arith

-- at most `n` numbers: a, nx a, nx (nx a), .., while they are below b
unfoldable pub go_up : (ℕ → ℕ) → ℕ → ℕ → ℕ → List ℕ
go_up nx zero a b = []
go_up nx (suc n) a b = elim (ltb a b) [ true ↦ a ∷ go_up nx n (nx a) b | false ↦ [] ]

-- a, nx a, nx (nx a), .., while they are below b
unfoldable pub axis : (ℕ → ℕ) → ℕ → ℕ → List ℕ
axis nx a b = go_up nx (b - a) a b

-- every number from a to b, b left out
abbrev pub span : ℕ → ℕ → List ℕ
span = axis up

module _ (nx : ℕ → ℕ) where
  go_in : (n a b : ℕ) → a < b → go_up nx (suc n) a b ≡ a ∷ go_up nx n (nx a) b
  unfolding go_up
  go_in n a b h = rw (go_up, lt-ltb a b h)

  go_out : (n a b : ℕ) → b ≤ a → go_up nx n a b ≡ []
  unfolding go_up
  go_out zero a b h = refl
  go_out (suc n) a b h = rw (go_up, le-ltb a b h)

module _ (nx : ℕ → ℕ) (grows : (x : ℕ) → x < nx x) where
  go_enough : (n m a b : ℕ) → b - a ≤ n → b - a ≤ m → go_up nx n a b ≡ go_up nx m a b
  go_enough zero m a b p q = go_out nx zero a b (omega arith) ∙ sym (go_out nx m a b (omega arith))
  go_enough (suc n) zero a b p q = go_out nx (suc n) a b (omega arith) ∙ sym (go_out nx zero a b (omega arith))
  go_enough (suc n) (suc m) a b p q =
      ⊎_elim
      (λ h. go_out nx (suc n) a b h ∙ sym (go_out nx (suc m) a b h))
      (λ h.
      go_in nx n a b h
      ∙ ap (λ (l : List ℕ). a ∷ l) (go_enough n m (nx a) b (omega (arith, grows a)) (omega (arith, grows a)))
      ∙ sym (go_in nx m a b h))
      (le_or_lt b a)

  pub axis_head : (a b : ℕ) → a < b → axis nx a b ≡ a ∷ axis nx (nx a) b
  unfolding axis
  axis_head a b h =
      go_enough (b - a) (suc (b - a)) a b (omega arith) (omega arith)
      ∙ go_in nx (b - a) a b h
      ∙ ap (λ (l : List ℕ). a ∷ l) (go_enough (b - a) (b - nx a) (nx a) b (omega (arith, grows a)) (omega arith))

pub axis_end : (nx : ℕ → ℕ) (a b : ℕ) → b ≤ a → axis nx a b ≡ []
unfolding axis
axis_end nx a b h = go_out nx (b - a) a b h

-- an axis whose next point is clipped to the end goes on as one whose next point is not
pub axis_clip : (nx : ℕ → ℕ) (a b : ℕ) → axis nx (min a b) b ≡ axis nx a b
axis_clip nx a b =
    ⊎_elim
    (λ h. axis_end nx (min a b) b (omega arith) ∙ sym (axis_end nx a b h))
    (λ h. ap (λ (x : ℕ). axis nx x b) (omega arith))
    (le_or_lt b a)

-- THE LAWS OF A TURN. A loop over `axis nx x b` has done all before x, with `out` left for the loops around it.
module _ {B : Type 0} (nx : ℕ → ℕ) (g f : ℕ → List B) (x b : ℕ) (out : List B) where
  -- the turn at x starts: what x gives, and then the rest of the axis
  pub turn : ((y : ℕ) → y < nx y) → x < b → headed g f (axis nx x b) ++ out ≡ g x ++ (gather f (axis nx (nx x) b) ++ out)
  unfolding headed
  turn grows h = rw (axis_head nx grows x b h, append_assoc)

  -- the loop is left by its test
  pub done : b ≤ x → headed g f (axis nx x b) ++ out ≡ out
  unfolding headed
  done h = rw (axis_end nx x b h)

module _ {B : Type 0} (nx : ℕ → ℕ) (f : ℕ → List B) (x b : ℕ) (out : List B) where
  -- the turn at x is over, and the next one starts fresh
  pub fresh : gather f (axis nx x b) ++ out ≡ headed f f (axis nx x b) ++ out
  fresh = rw (headed-same f (axis nx x b))

  pub fresh_clip : gather f (axis nx x b) ++ out ≡ headed f f (axis nx (min x b) b) ++ out
  fresh_clip = rw (axis_clip nx x b) fresh
