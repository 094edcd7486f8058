-- The hits theorem: the points of an axis that pass the standard's test, in upward order, are met at columns 0, 1, .., count - 1, each exactly once;
-- and the next hit after a point is at the next multiple of the step. Assumes nothing.
use Rattle.std.specs.Prelude.{◌≡◌, ℕ, zero, suc, ◌+◌, ◌-◌, ◌*◌, ◌/◌, ◌%◌, ◌^◌, ◌<◌, ◌≤◌, Bool, true, false, not, ◌&&◌, [], map, ◌==◌, ◌≢◌, nat_lt}
use Rattle.std.proofs.Math.Path.{refl}
use Rattle.std.proofs.Common.{sym, ap, ◌∙◌, mul_assoc, mul_comm, mul-pos, mul-div_cancel, zero-mul, mul-zero, le-mul_of_pos_right, div-mul-le_self, arith, pow_pos, pow-add, eq-eqb, ne_eqb, eqb-true, lt-ltb, le-ltb}
use Rattle.std.proofs.Math.Logic.{⊎_elim}
use Rattle.std.proofs.Math.Nat.{mul-mod_left, mod-eq-zero_of_dvd, dvd_of_mod-eq-zero, dvd_trans}
use Rattle.std.proofs.Math.Arith.{mod-mul}
use Rattle.std.proofs.Math.Pow.{shr_mono}
use Rattle.std.proofs.lemmas.Bool.{eqb-false}
use Rattle.laws.specs.Cases.{le_or_lt}
use Rattle.laws.specs.Gather.{only, keep}
use Rattle.laws.specs.Axis.{span}
use Rattle.laws.specs.Stride.{stride, stride_multiple, between, points, points_suffice}
use Rattle.laws.specs.Ceiling.{ceil_div, ceil_ceil, ceil_mono, ceil_one, ceil_none, below_ceil, ceil_small}
use Rattle.laws.specs.Corners
use Rattle.geometry.specs.Precinct.{across}
use Rattle.geometry.specs.Line.{Line, bound_of, low, high, step, count, first, whole, hit_at, column_of, hits}
use Rattle.geometry.specs.Hits.{corner_of, Proper, Ordered}

pub bound_law : (t d level : ℕ) → bound_of t d level ≡ ceil_div t (d * 2 ^ level)
unfolding bound_of
bound_law t zero level = rw (zero-mul (2 ^ level), ← (ceil_none t)) (ceil_one (2 ^ level) (pow_pos level) 0 (omega arith))
bound_law t (suc d) level = ceil_ceil (suc d) (2 ^ level) (omega arith) (pow_pos level) t

pub step_law : (d level pd : ℕ) → d * 2 ^ (pd + level) ≡ d * 2 ^ level * 2 ^ pd
step_law d level pd = rw (pow-add 2 pd level, mul_comm (2 ^ pd) (2 ^ level), mul_assoc d (2 ^ level) (2 ^ pd))

-- a multiple of m * c by a multiple of c
times_zero : (r m c : ℕ) → 1 ≤ m → 1 ≤ c → (r * c % (m * c) == 0) ≡ (r % m == 0)
times_zero r m c p q = rw (mod-mul (r * c) p q, mul-div_cancel r q, mul-mod_left r c) (by (r % m == 0) refl)
  where
    by : (t : Bool) → (r % m == 0) ≡ t → (r % m * c + 0 == 0) ≡ (r % m == 0)
    by true e = let z : r % m ≡ 0 = eqb-true (r % m) 0 e in rw e (eq-eqb (r % m * c + 0) 0 (rw (z, zero-mul c)))
    by false e = rw e (ne_eqb (r % m * c + 0) 0 (λ z. eqb-false (r % m) 0 e (omega (arith, le-mul_of_pos_right (r % m) q))))

pub whole_law : (s : Line) → whole s ≡ (low s % 2 ^ s.pd == 0)
whole_law s = rw (pow-add 2 s.pd s.level) (times_zero (low s) (2 ^ s.pd) (2 ^ s.level) (pow_pos s.pd) (pow_pos s.level))

pub count_law : (s : Line) → Proper s → count s ≡ ceil_div (high s) (2 ^ s.pd) - first s
unfolding count across
count_law s h = rw (lt-ltb (low s) (high s) h.apart)

pub count_none : (s : Line) → high s ≤ low s → count s ≡ 0
unfolding count across
count_none s h = rw (le-ltb (low s) (high s) h)

module _ (s : Line) (h : Proper s) where
  pos_d : 1 ≤ s.d * 2 ^ s.level
  pos_d = mul-pos h.positive (pow_pos s.level)

  apart : ceil_div s.t0 (s.d * 2 ^ s.level) < ceil_div s.t1 (s.d * 2 ^ s.level)
  apart = rw (bound_law s.t0 s.d s.level, bound_law s.t1 s.d s.level) at h.apart

  -- THE HITS ARE THE CORNERS of the precincts, in order
  pub hits-corners : hits s ≡ map (corner_of s) (span (first s) (ceil_div (high s) (2 ^ s.pd)))
  unfolding hits hit_at
  hits-corners =
      rw (corner_of, whole_law s, step_law s.d s.level s.pd, bound_law s.t0 _ s.level, bound_law s.t1 _ s.level)
      (Corners.corners _ _ pos_d (pow_pos s.pd) s.t0 s.t1 _ refl apart)

  -- THEOREM A. The hits in upward order are the columns 0, 1, .., each once.
  pub hits-columns : map (column_of s) (hits s) ≡ span 0 (count s)
  unfolding hits hit_at column_of
  hits-columns =
      rw (count_law s h) (rw (whole_law s, step_law s.d s.level s.pd) (simp (column_of, bound_law) (Corners.columns _ _ pos_d (pow_pos s.pd) s.t0 s.t1 _ refl apart)))

-- an axis with no sample has no hit, but for its start where that is inside a precinct
pub hits_idle : (s : Line) → 1 ≤ s.d → low s ≡ high s → hits s ≡ only (nat_lt s.t0 s.t1 && not (whole s)) s.t0
unfolding hits hit_at
hits_idle s h e =
    rw (whole_law s, step_law s.d s.level s.pd, bound_law s.t0 s.d s.level)
    (Corners.no_sample _ _ (mul-pos h (pow_pos s.level)) (pow_pos s.pd) s.t0 s.t1 _ refl
    (rw (bound_law s.t0 s.d s.level, bound_law s.t1 s.d s.level) at e))

pub bound_mono : (x z d level : ℕ) → 1 ≤ d → x ≤ z → bound_of x d level ≤ bound_of z d level
bound_mono x z d level h p = rw (bound_law x d level, bound_law z d level) (ceil_mono (d * 2 ^ level) (mul-pos h (pow_pos level)) x z p)

-- it has samples if it has precincts
pub proper : (s : Line) → Ordered s → 0 < count s → Proper s
proper s h c =
    record {
      positive = h.positive;
      apart =
          ⊎_elim
          (λ g. omega (arith, count_none s g))
          (λ g. g)
          (le_or_lt (high s) (low s));
    }

pub factors : (a b : ℕ) → 0 < a * b → (0 < a) × (0 < b)
factors zero b h = omega (arith, zero-mul b)
factors (suc a) zero h = omega (arith, mul-zero (suc a))
factors (suc a) (suc b) h = omega arith

module _ (s : Line) (h : 1 ≤ s.d) where
  pos_d' : 1 ≤ s.d * 2 ^ s.level
  pos_d' = mul-pos h (pow_pos s.level)

  -- columns do not fall
  pub col_mono : (x z : ℕ) → x ≤ z → column_of s x ≤ column_of s z
  unfolding column_of
  col_mono x z p = omega (arith, shr_mono s.pd (ceil_mono (s.d * 2 ^ s.level) pos_d' x z p))

  -- the first column is at most that of any point
  first-least : (x : ℕ) → s.t0 ≤ x → first s ≤ ceil_div x (s.d * 2 ^ s.level) / 2 ^ s.pd
  first-least x p = rw (bound_law s.t0 s.d s.level) (shr_mono s.pd (ceil_mono (s.d * 2 ^ s.level) pos_d' s.t0 x p))

  -- a hit is the corner of its column
  pub hit-corner : (x : ℕ) → s.t0 ≤ x → hit_at s x ≡ true → x ≡ corner_of s (first s + column_of s x)
  unfolding hit_at column_of
  hit-corner x p e =
      let f : first s + column_of s x ≡ ceil_div x (s.d * 2 ^ s.level) / 2 ^ s.pd = omega (arith, first-least x p) in
      rw (f, step_law s.d s.level s.pd)
      (Corners.corner_column _ _ pos_d' (pow_pos s.pd) s.t0 s.t1 x p
      (rw (whole_law s, step_law s.d s.level s.pd, bound_law s.t0 s.d s.level) at e))

  -- the column of a hit is the quotient by the step, from the first
  pub hit_quotient : (x : ℕ) → s.t0 ≤ x → hit_at s x ≡ true → (column_of s x ≡ x / step s - first s) × (first s ≤ x / step s)
  unfolding hit_at column_of
  hit_quotient x p e =
      let q : ceil_div x (s.d * 2 ^ s.level) / 2 ^ s.pd ≡ x / step s
      = rw (step_law s.d s.level s.pd)
      (Corners.column_quotient _ _ pos_d' (pow_pos s.pd) s.t0 s.t1 x
      (rw (whole_law s, step_law s.d s.level s.pd, bound_law s.t0 s.d s.level) at e)) in
      (ap (λ (n : ℕ). n - first s) q, rw q at (first-least x p))

  -- two hits of one column are one
  pub hit_unique : (x z : ℕ) → s.t0 ≤ x → s.t0 ≤ z → hit_at s x ≡ true → hit_at s z ≡ true → column_of s x ≡ column_of s z → x ≡ z
  hit_unique x z p q e f g = hit-corner x p e ∙ ap (λ (k : ℕ). corner_of s (first s + k)) g ∙ sym (hit-corner z q f)

  pub pos_step : 1 ≤ step s
  pos_step = mul-pos h (pow_pos (s.pd + s.level))

  -- a hit above the start is a multiple of the step
  hit_multiple : (z : ℕ) → s.t0 < z → hit_at s z ≡ true → z % step s ≡ 0
  unfolding hit_at
  hit_multiple z p e = ⊎_elim (λ m. m) (λ m. omega (arith, m.0)) (Corners.starts_either (step s) s.t0 (whole s) z e)

  -- THE NEXT HIT after x is at the least multiple of the step above x
  pub next-hit : (x : ℕ) → hit_at s (stride (step s) x) ≡ true
  unfolding hit_at
  next-hit x = Corners.starts_multiple (step s) s.t0 (whole s) (stride (step s) x) (stride_multiple (step s) pos_step x)

  pub no_hit_between : (x z : ℕ) → s.t0 ≤ x → x < z → hit_at s z ≡ true → stride (step s) x ≤ z
  no_hit_between x z p q e =
      ⊎_elim (λ m. m) (λ m. absurd (between (step s) pos_step x z q m (hit_multiple z (omega arith) e))) (le_or_lt (stride (step s) x) z)

  -- a stride that divides the step gives every hit
  pub hits-stride : (q : ℕ) → 1 ≤ q → step s % q ≡ 0 → hits s ≡ keep (hit_at s) (points q s.t0 s.t1)
  unfolding hits
  hits-stride q p e = points_suffice q p (λ x. only (hit_at s x) x) s.t0 s.t1 (λ z a b n. by z a n (hit_at s z) refl)
    where
      by : (z : ℕ) → s.t0 < z → (z % q ≢ 0) → (t : Bool) → hit_at s z ≡ t → only t z ≡ []
      by z a n true t = absurd (n (mod-eq-zero_of_dvd q (dvd_trans q (dvd_of_mod-eq-zero q e) (dvd_of_mod-eq-zero (step s) (hit_multiple z a t)))))
      by z a n false t = refl

-- the column of a hit is below the count
pub col_below : (s : Line) → Proper s → (x : ℕ) → s.t0 ≤ x → x < s.t1 → hit_at s x ≡ true → column_of s x < count s
col_below s h x p q e =
    let k : ℕ = first s + column_of s x in
    let D : ℕ = s.d * 2 ^ s.level in
    let turned : k * step s ≡ k * 2 ^ s.pd * D = rw (step_law s.d s.level s.pd, mul_comm D (2 ^ s.pd), mul_assoc k (2 ^ s.pd) D) in
    let a : k * 2 ^ s.pd * D < s.t1 = omega (arith, hit-corner s h.positive x p e) in
    let b : k * 2 ^ s.pd < high s = rw (bound_law s.t1 s.d s.level) (below_ceil D (pos_d s h) s.t1 (k * 2 ^ s.pd) a) in
    omega (arith, below_ceil (2 ^ s.pd) (pow_pos s.pd) (high s) k b, count_law s h)

-- an axis with samples has a precinct
pub count_pos : (s : Line) → Proper s → 1 ≤ count s
count_pos s h =
    let k : first s * 2 ^ s.pd < high s = omega (arith, div-mul-le_self (low s) (2 ^ s.pd), h.apart) in
    omega (arith, below_ceil (2 ^ s.pd) (pow_pos s.pd) (high s) (first s) k, count_law s h)

-- a count is at most the tile's end, so that it fits 32 bits where that does
pub count-small : (s : Line) → Ordered s → count s ≤ s.t1
count-small s h =
    ⊎_elim
    (λ z. omega arith)
    (λ z.
    let p : Proper s = proper s h z in
    let D : ℕ = s.d * 2 ^ s.level in
    let a : high s ≤ s.t1 = rw (bound_law s.t1 s.d s.level) (ceil_small D (pos_d s p) s.t1) in
    omega (arith, count_law s p, ceil_small (2 ^ s.pd) (pow_pos s.pd) (high s)))
    (le_or_lt (count s) 0)
