-- Where a walk meets a precinct of an axis, it starts. Assumes nothing.
use Rattle.std.specs.Prelude.{◌≡◌, ℕ, ◌+◌, ◌*◌, ◌^◌, ◌<◌, ◌≤◌, max, true}
use Rattle.std.proofs.Common.{ap, ◌∙◌, mul_comm, mul_assoc, mul-pos}
use Rattle.std.proofs.Math.Logic.{⊎_elim}
use native.Mathlib.Omega.{arith}
use Rattle.std.proofs.Math.Pow.{pow_pos}
use Rattle.laws.specs.Cases.{le_or_lt}
use Rattle.laws.specs.Ceiling.{ceil_div, ceil_mono, ceil_times}
use Rattle.geometry.specs.Precinct.{cell_from}
use Rattle.geometry.specs.Line.{Line, low, step, first, cell_low, hit_at, column_of}
use Rattle.geometry.proofs.Hits.{bound_law, step_law, hit-corner}

-- THE CORNER: the point at which a walk meets a precinct is, as a sample of the resolution, where the precinct starts
pub hit-cell : (s : Line) → 1 ≤ s.d → (x : ℕ) → s.t0 ≤ x → hit_at s x ≡ true → ceil_div x (s.d * 2 ^ s.level) ≡ cell_low s (column_of s x)
unfolding cell_from
hit-cell s h x p e =
    let D : ℕ = s.d * 2 ^ s.level in
    let d : 1 ≤ D = mul-pos h (pow_pos s.level) in
    let k : ℕ = first s + column_of s x in
    let turned : k * step s ≡ k * 2 ^ s.pd * D = rw (step_law s.d s.level s.pd, mul_comm D (2 ^ s.pd), mul_assoc k (2 ^ s.pd) D) in
    let start : low s ≡ ceil_div s.t0 D = bound_law s.t0 s.d s.level in
    let there : ceil_div (k * step s) D ≡ k * 2 ^ s.pd = rw turned (ceil_times D d (k * 2 ^ s.pd)) in
    ap (λ (n : ℕ). ceil_div n D) (hit-corner s h x p e)
    ∙ ⊎_elim
    (λ (l : s.t0 ≤ k * step s).
    let m : max s.t0 (k * step s) ≡ k * step s = omega arith in
    rw (m, there) (omega (arith, start, there, ceil_mono D d s.t0 (k * step s) l)))
    (λ (l : k * step s < s.t0).
    let m : max s.t0 (k * step s) ≡ s.t0 = omega arith in
    rw m (omega (arith, start, there, ceil_mono D d (k * step s) s.t0 (omega arith))))
    (le_or_lt s.t0 (k * step s))
