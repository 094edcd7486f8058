-- What stands after a point of an axis, and after an element of a level of a nest of loops. Assumes nothing.
use Rattle.std.specs.Prelude.{◌≡◌, ◌⊎◌, ℕ, zero, suc, ◌-◌, ◌≤◌, ◌<◌}
use Rattle.std.proofs.Common.{sym, ◌∙◌, ⊎_elim, arith}
use Rattle.std.proofs.Math.Path.{ap}
use mathlib.Core.List.Memᴰ.{cases_cons as in_cons}
use mathlib.Core.List.Memᴰ.{not-nil as not_in_nil}
use mathlib.Core.List.{List, ◌++◌, Memᴰ as In}
use Rattle.std.proofs.Math.Decide.{ℕ_discrete}
use Rattle.laws.specs.Cases.{le_or_lt}
use Rattle.laws.specs.Gather.{gather, headed}
use Rattle.laws.specs.Axis.{axis, axis_head, axis_end}
use Rattle.laws.specs.Lists.{NoRepeats, none, more, behind, behind_here, behind-there}
use Rattle.laws.specs.Gathered.{Keyed, keyed_from, behind-gather}

-- AN AXIS: what is after a point of it is the axis from the next point on
module _ (nx : ℕ → ℕ) (grows : (x : ℕ) → x < nx x) where
  -- a point of an axis is the first, or on the axis from the next
  record Point (a b x : ℕ) : Type 0 where
    below : a < b
    which : (x ≡ a) ⊎ In x (axis nx (nx a) b)

  point : (a b x : ℕ) → In x (axis nx a b) → Point a b x
  point a b x q =
      ⊎_elim
      (λ h. absurd (not_in_nil (rw (axis_end nx a b h) at q)))
      (λ h. record { below = h; which = in_cons (rw (axis_head nx grows a b h) at q) })
      (le_or_lt b a)

  pub axis-bounds : (n a b x : ℕ) → b - a ≤ n → In x (axis nx a b) → (a ≤ x) × (x < b)
  axis-bounds zero a b x h q = let p = point a b x q in let k = p.below in omega arith
  axis-bounds (suc n) a b x h q =
      let p = point a b x q in
      let k = p.below in
      let g = grows a in
      ⊎_elim
      (λ e. (omega arith, omega arith))
      (λ r. let w = axis-bounds n (nx a) b x (omega arith) r in (omega arith, omega arith))
      p.which

  behind_axis_by : (n a b x : ℕ) → b - a ≤ n → In x (axis nx a b) → behind ℕ_discrete x (axis nx a b) ≡ axis nx (nx x) b
  behind_axis_by zero a b x h q = let p = point a b x q in let k = p.below in absurd (let z : ⊥ = omega arith in z)
  behind_axis_by (suc n) a b x h q =
      let p = point a b x q in
      let k = p.below in
      let g = grows a in
      ap (behind ℕ_discrete x) (axis_head nx grows a b k)
      ∙ ⊎_elim
      (λ e. behind_here ℕ_discrete x a _ e ∙ ap (λ (y : ℕ). axis nx (nx y) b) (sym e))
      (λ r.
      let w = axis-bounds (b - nx a) (nx a) b x (omega arith) r in
      behind-there ℕ_discrete x a _ (λ e. let z : ⊥ = omega arith in z) ∙ behind_axis_by n (nx a) b x (omega arith) r)
      p.which

  pub behind-axis : (a b x : ℕ) → In x (axis nx a b) → behind ℕ_discrete x (axis nx a b) ≡ axis nx (nx x) b
  behind-axis a b x = behind_axis_by (b - a) a b x (omega arith)

  -- an axis has no repeats
  axis_no_repeats_by : (n a b : ℕ) → b - a ≤ n → NoRepeats (axis nx a b)
  axis_no_repeats_by zero a b h = rw (axis_end nx a b (omega arith)) none
  axis_no_repeats_by (suc n) a b h =
      let g = grows a in
      ⊎_elim
      (λ k. rw (axis_end nx a b k) none)
      (λ k.
      rw (axis_head nx grows a b k)
      (more
      (λ q. let w = axis-bounds (b - nx a) (nx a) b a (omega arith) q in omega arith)
      (axis_no_repeats_by n (nx a) b (omega arith))))
      (le_or_lt b a)

  pub axis-no_repeats : (a b : ℕ) → NoRepeats (axis nx a b)
  axis-no_repeats a b = axis_no_repeats_by (b - a) a b (omega arith)

  -- A LEVEL OF THE NEST: after p among all that the axis gives is what is after it in its own turn, and then the other turns
  pub behind-level : {B : Type 0} (same : Discrete B) (key : B → ℕ) (f g : ℕ → List B) → Keyed key f → (a b : ℕ) (p : B)
      → In p (gather f (axis nx a b)) → (In p (f (key p)) → behind same p (f (key p)) ≡ g (key p))
      → behind same p (gather f (axis nx a b)) ≡ headed g f (axis nx (key p) b)
  unfolding headed
  behind-level same key f g keyed a b p q e =
      let k = keyed_from key f keyed (axis nx a b) p q in
      let w = axis-bounds (b - a) a b (key p) (omega arith) k.0 in
      behind-gather key f keyed ℕ_discrete same p (axis nx a b) q
      ∙ ap (λ l. l ++ gather f (behind ℕ_discrete (key p) (axis nx a b))) (e k.1)
      ∙ ap (λ l. g (key p) ++ gather f l) (behind-axis a b (key p) k.0)
      ∙ ap (headed g f) (sym (axis_head nx grows (key p) b w.1))
