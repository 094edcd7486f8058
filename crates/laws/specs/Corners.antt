-- The points of an axis at which a precinct starts, for a sample of D points and a precinct of P samples. Assumes nothing.
use Rattle.std.specs.Prelude.{◌≡◌, Bool, not, ◌&&◌, ◌||◌, ◌⊎◌, eqb, ltb}
use Rattle.std.proofs.Math.Path.{refl}
use Rattle.std.proofs.Common.{sym, ap, ◌∙◌, inl, inr, add-mul, suc-mul, mul_assoc, mul_comm, mul-pos, mul-div_cancel, mul-le-mul_right, div-add-mod', div-mul-le_self, le-div_iff_mul-le, mod-lt, arith}
use Rattle.std.proofs.Math.Bool.{true, false}
use Rattle.std.proofs.lemmas.Bool.{false≢true}
use mathlib.Core.List.{List, ◌∷◌, map}
use Rattle.std.proofs.Math.Logic.{⊎_elim}
use Prim.Native.Nat.{ℕ, ◌+◌, ◌-◌, ◌*◌, ◌/◌, ◌%◌, max, ◌≤◌, ◌<◌}
use Rattle.std.proofs.Math.Nat.{div-eq_of_lt-le}
use borrow.Author.Tests.{eq-eqb, ne_eqb, eqb-true, eqb-false, lt-ltb, le-ltb}
use Rattle.laws.specs.Cases.{le_or_lt, and_false}
use Rattle.laws.specs.Gather.{gather, only, keep, map-map}
use Rattle.laws.specs.Axis.{span}
use Rattle.laws.specs.Ceiling.{ceil_div, ceil_le, ceil_below, below_ceil, ceil_mono, ceil_next, ceil_off, ceil_on, ceil_times, ceil_ceil}
use Rattle.laws.specs.Spans.{span_head, span_end, by_span, gather_on, map_on, span_shift}

-- the multiples of s among the numbers from a to b
pub multiples : (s : ℕ) → 1 ≤ s → (b a : ℕ) → keep (λ x. eqb (x % s) 0) (span a b) ≡ map (λ k. k * s) (span (ceil_div a s) (ceil_div b s))
unfolding gather
multiples s pos b =
    by_span (λ a. keep (λ x. eqb (x % s) 0) (span a b) ≡ map (λ k. k * s) (span (ceil_div a s) (ceil_div b s))) b
    (λ a h. rw (span_end a b h, span_end (ceil_div a s) (ceil_div b s) (ceil_mono s pos b a h)))
    (λ a h ih. at a h ih (eqb (a % s) 0) refl)
  where
    at : (a : ℕ) → a < b → keep (λ x. eqb (x % s) 0) (span (a + 1) b) ≡ map (λ k. k * s) (span (ceil_div (a + 1) s) (ceil_div b s))
        → (t : Bool) → eqb (a % s) 0 ≡ t → keep (λ x. eqb (x % s) 0) (span a b) ≡ map (λ k. k * s) (span (ceil_div a s) (ceil_div b s))
    at a h ih true e =
        let m : a / s * s ≡ a = omega (arith, eqb-true (a % s) 0 e, div-add-mod' a s) in
        rw (
          span_head a b h,
          e,
          ih,
          ceil_next s pos a,
          ceil_on s pos a (eqb-true (a % s) 0 e),
          span_head (a / s) (ceil_div b s) (below_ceil s pos b (a / s) (omega arith)),
          m,
        )
    at a h ih false e = rw (span_head a b h, e, ih, ceil_next s pos a, ceil_off s pos a (eqb-false (a % s) 0 e))

-- x starts a precinct: on a multiple of s, or where the axis starts, if that is inside a precinct
abbrev pub starts : ℕ → ℕ → Bool → ℕ → Bool
starts s t whole x = eqb (x % s) 0 || (eqb x t && not whole)

starts-whole : (a b : Bool) → (a || (b && not true)) ≡ a
starts-whole true b = refl
starts-whole false true = refl
starts-whole false false = refl

starts_here : (a : Bool) → (a || (true && not false)) ≡ true
starts_here true = refl
starts_here false = refl

starts-later : (a : Bool) → (a || (false && not false)) ≡ a
starts-later true = refl
starts-later false = refl

-- which of the two it is
pub starts_either : (s t : ℕ) (whole : Bool) (x : ℕ) → starts s t whole x ≡ true → (x % s ≡ 0) ⊎ ((x ≡ t) × (whole ≡ false))
starts_either s t whole x h = by (eqb (x % s) 0) (eqb x t) whole refl refl refl h
  where
    by : (a b c : Bool) → eqb (x % s) 0 ≡ a → eqb x t ≡ b → whole ≡ c → (a || (b && not c)) ≡ true → (x % s ≡ 0) ⊎ ((x ≡ t) × (whole ≡ false))
    by true b c p q r e = inl (eqb-true (x % s) 0 p)
    by false true true p q r e = absurd (false≢true e)
    by false true false p q r e = inr (eqb-true x t q, r)
    by false false c p q r e = absurd (false≢true e)

pub starts_multiple : (s t : ℕ) (whole : Bool) (x : ℕ) → x % s ≡ 0 → starts s t whole x ≡ true
starts_multiple s t whole x e = rw (eq-eqb (x % s) 0 e)

module _ (D P : ℕ) (pos_d : 1 ≤ D) (posP : 1 ≤ P) where
  pos_s : 1 ≤ D * P
  pos_s = mul-pos pos_d posP

  turned : (k : ℕ) → k * (D * P) ≡ k * P * D
  turned k = rw (mul_comm D P, ← (mul_assoc k P D))

  module _ (t0 t1 : ℕ) where
    -- where the axis starts on a precinct
    pub starts_on : ceil_div t0 D % P ≡ 0
        → keep (starts (D * P) t0 true) (span t0 t1) ≡ map (λ k. k * (D * P)) (span (ceil_div t0 D / P) (ceil_div (ceil_div t1 D) P))
    starts_on e =
        gather_on t1 _ (λ x. only (eqb (x % (D * P)) 0) x) t0 (λ z p q. rw (starts-whole (eqb (z % (D * P)) 0) (eqb z t0)))
        ∙ multiples (D * P) pos_s t1 t0
        ∙ rw (← (ceil_ceil D P pos_d posP t0), ← (ceil_ceil D P pos_d posP t1), ceil_on P posP (ceil_div t0 D) e)

    -- the start of the axis lies inside the precinct of its first sample
    pub inside : (ceil_div t0 D % P ≡ 0 → ⊥) → t0 / (D * P) ≡ ceil_div t0 D / P
    inside n =
        let r : ℕ = ceil_div t0 D in
        let m : r % P < P = mod-lt r posP in
        let low : r / P * P < r = omega (arith, div-add-mod' r P) in
        let high : r < (r / P + 1) * P = omega (arith, div-add-mod' r P, add-mul (r / P) 1 P) in
        let over : t0 ≤ r * D = ceil_le D pos_d t0 r (omega arith) in
        div-eq_of_lt-le (D * P)
        (rw (turned (r / P)) (omega (arith, ceil_below D pos_d t0 (r / P * P) low)))
        (rw (turned (r / P + 1)) (omega (arith, mul-le-mul_right D high, suc-mul r D)))

    -- where the axis starts inside a precinct
    pub starts_off : (ceil_div t0 D % P ≡ 0 → ⊥) → t0 < t1
        → keep (starts (D * P) t0 false) (span t0 t1)
        ≡ t0 ∷ map (λ k. k * (D * P)) (span (ceil_div t0 D / P + 1) (ceil_div (ceil_div t1 D) P))
    unfolding gather
    starts_off n h =
        rw (span_head t0 t1 h, eq-eqb t0 t0 refl, starts_here (eqb (t0 % (D * P)) 0))
        (ap (λ (l : List ℕ). t0 ∷ l)
        (gather_on t1 _ (λ x. only (eqb (x % (D * P)) 0) x) (t0 + 1)
        (λ z p q. rw (ne_eqb z t0 (λ e. omega arith), starts-later (eqb (z % (D * P)) 0)))
        ∙ multiples (D * P) pos_s t1 (t0 + 1)
        ∙ rw (ceil_next (D * P) pos_s t0, inside n, ← (ceil_ceil D P pos_d posP t1))))

  -- the first point of the precinct k on an axis that starts at t0
  abbrev pub corner : ℕ → ℕ → ℕ
  corner t0 k = max t0 (k * (D * P))

  pub column_times : (q : ℕ) → ceil_div (q * (D * P)) D / P ≡ q
  column_times q = rw (turned q, ceil_times D pos_d (q * P)) (mul-div_cancel q posP)

  pub column_corner : (t0 k : ℕ) → ceil_div t0 D / P ≤ k → ceil_div (corner t0 k) D / P ≡ k
  column_corner t0 k h =
      ⊎_elim
      (λ p. let e : corner t0 k ≡ k * (D * P) = omega arith in rw e (column_times k))
      (λ (p : k * (D * P) < t0).
      let e : corner t0 k ≡ t0 = omega arith in
      let b : k * P < ceil_div t0 D = below_ceil D pos_d t0 (k * P) (rw (turned k) at p) in
      let c : k ≤ ceil_div t0 D / P = (le-div_iff_mul-le posP).1 (omega arith) in
      rw e (omega arith))
      (le_or_lt t0 (k * (D * P)))

  module _ (t0 t1 : ℕ) where
    below_end : ceil_div t0 D < ceil_div t1 D → (ceil_div t0 D / P < ceil_div (ceil_div t1 D) P) × (t0 < t1)
    below_end h = (
      below_ceil P posP (ceil_div t1 D) (ceil_div t0 D / P) (omega (arith, div-mul-le_self (ceil_div t0 D) P)),
      ⊎_elim (λ p. omega (arith, ceil_mono D pos_d t1 t0 p)) (λ p. p) (le_or_lt t1 t0),
    )

    -- THE POINTS THAT START PRECINCTS are the corners of the precincts, in order
    pub corners : (t : Bool) → eqb (ceil_div t0 D % P) 0 ≡ t → ceil_div t0 D < ceil_div t1 D
        → keep (starts (D * P) t0 t) (span t0 t1) ≡ map (corner t0) (span (ceil_div t0 D / P) (ceil_div (ceil_div t1 D) P))
    corners true e h =
        starts_on t0 t1 (eqb-true (ceil_div t0 D % P) 0 e)
        ∙ map_on (ceil_div (ceil_div t1 D) P) _ _ (ceil_div t0 D / P)
        (λ z p q. let m : t0 ≤ z * (D * P) = ceil_le (D * P) pos_s t0 z (rw (← (ceil_ceil D P pos_d posP t0), ceil_on P posP (ceil_div t0 D) (eqb-true (ceil_div t0 D % P) 0 e)) p) in omega arith)
    corners false e h =
        let n : ceil_div t0 D % P ≡ 0 → ⊥ = eqb-false (ceil_div t0 D % P) 0 e in
        let c : corner t0 (ceil_div t0 D / P) ≡ t0 = rw (← (inside t0 t1 n)) (omega (arith, div-mul-le_self t0 (D * P))) in
        starts_off t0 t1 n (below_end h).1
        ∙ rw (span_head (ceil_div t0 D / P) (ceil_div (ceil_div t1 D) P) (below_end h).0, c)
        (ap (λ (l : List ℕ). t0 ∷ l)
        (map_on (ceil_div (ceil_div t1 D) P) _ _ (ceil_div t0 D / P + 1)
        (λ z p q. let m : t0 + 1 ≤ z * (D * P) = ceil_le (D * P) pos_s (t0 + 1) z (rw (ceil_next (D * P) pos_s t0, inside t0 t1 n) p) in omega arith)))

    -- their columns are 0, 1, 2, ..
    pub columns : (t : Bool) → eqb (ceil_div t0 D % P) 0 ≡ t → ceil_div t0 D < ceil_div t1 D
        → map (λ x. ceil_div x D / P - ceil_div t0 D / P) (keep (starts (D * P) t0 t) (span t0 t1)) ≡ span 0 (ceil_div (ceil_div t1 D) P - ceil_div t0 D / P)
    columns t e h =
        let f : ℕ = ceil_div t0 D / P in
        let z : f - f ≡ 0 = omega arith in
        rw (corners t e h, map-map (λ x. ceil_div x D / P - f) (corner t0) (span f (ceil_div (ceil_div t1 D) P)))
        (map_on (ceil_div (ceil_div t1 D) P) _ (λ k. k - f) f (λ k p q. rw (column_corner t0 k p))
        ∙ rw (← z) (span_shift f (ceil_div (ceil_div t1 D) P) f (omega arith)))

    -- an axis with no sample has no such point but where it starts
    pub no_sample : (t : Bool) → eqb (ceil_div t0 D % P) 0 ≡ t → ceil_div t0 D ≡ ceil_div t1 D
        → keep (starts (D * P) t0 t) (span t0 t1) ≡ only (ltb t0 t1 && not t) t0
    unfolding gather
    no_sample true e h =
        let f : ℕ = ceil_div t0 D / P in
        rw (and_false (ltb t0 t1)) (starts_on t0 t1 (eqb-true (ceil_div t0 D % P) 0 e)
        ∙ rw (← h, ceil_on P posP (ceil_div t0 D) (eqb-true (ceil_div t0 D % P) 0 e), span_end f f (omega arith)))
    no_sample false e h =
        let n : ceil_div t0 D % P ≡ 0 → ⊥ = eqb-false (ceil_div t0 D % P) 0 e in
        let f : ℕ = ceil_div t0 D / P + 1 in
        ⊎_elim
        (λ p. rw (le-ltb t0 t1 p, span_end t0 t1 p))
        (λ p. rw (lt-ltb t0 t1 p) (starts_off t0 t1 n p ∙ rw (← h, ceil_off P posP (ceil_div t0 D) n, span_end f f (omega arith))))
        (le_or_lt t1 t0)

    -- a point that starts a precinct is the corner of its column
    pub corner_column : (x : ℕ) → t0 ≤ x → starts (D * P) t0 (eqb (ceil_div t0 D % P) 0) x ≡ true → x ≡ corner t0 (ceil_div x D / P)
    corner_column x h e =
        ⊎_elim
        (λ (m : x % (D * P) ≡ 0). let q : x / (D * P) * (D * P) ≡ x = omega (arith, div-add-mod' x (D * P)) in rw (← q, column_times (x / (D * P))) (omega arith))
        (λ (m : (x ≡ t0) × (eqb (ceil_div t0 D % P) 0 ≡ false)). rw (m.0, ← (inside t0 t1 (eqb-false (ceil_div t0 D % P) 0 m.1))) (omega (arith, div-mul-le_self t0 (D * P))))
        (starts_either (D * P) t0 _ x e)

    -- its column is the quotient by the step
    pub column_quotient : (x : ℕ) → starts (D * P) t0 (eqb (ceil_div t0 D % P) 0) x ≡ true → ceil_div x D / P ≡ x / (D * P)
    column_quotient x e =
        ⊎_elim
        (λ (m : x % (D * P) ≡ 0).
        let q : x ≡ x / (D * P) * (D * P) = omega (arith, div-add-mod' x (D * P)) in
        ap (λ (n : ℕ). ceil_div n D / P) q ∙ column_times (x / (D * P)))
        (λ (m : (x ≡ t0) × (eqb (ceil_div t0 D % P) 0 ≡ false)). rw m.0 (sym (inside t0 t1 (eqb-false (ceil_div t0 D % P) 0 m.1))))
        (starts_either (D * P) t0 _ x e)
