-- The precincts of an axis of a resolution, cell by cell: every sample lies in one and in no other, and none is empty.
-- Assumes nothing.
use Rattle.std.specs.Prelude.{◌≡◌, ℕ, ◌+◌, ◌-◌, ◌*◌, ◌/◌, ◌^◌, ◌<◌, ◌≤◌, min, max, nat_lt}
use Rattle.std.proofs.Common.{add-mul, lt-ltb, ltb-true}
use Rattle.std.proofs.Math.Logic.{⊎_elim}
use Rattle.std.proofs.Math.Nat.{div-mul-le_self, lt-div-mul-add, div-eq_of_lt-le}
use native.Mathlib.Omega.{arith}
use Rattle.std.proofs.Math.Pow.{pow_pos, shr_mono}
use Rattle.laws.specs.Cases.{le_or_lt, cond_some}
use Rattle.laws.specs.Ceiling.{ceil_div, ceil_below, below_ceil, ceil_le, ceil_small}
use Rattle.geometry.specs.Precinct.{across, cell_from, cell_to}
use Rattle.geometry.specs.Fitted.{fitted, least_of, fitted-small, fitted-least}

module _ (r0 r1 pd : ℕ) where
  abbrev size : ℕ
  size = 2 ^ pd

  -- the cell in which the resolution starts
  abbrev cell : ℕ
  cell = r0 / size

  -- a cell ends where the next one starts
  next : (k : ℕ) → (k + 1) * size ≡ k * size + size
  next k = let e : 1 * size ≡ size = omega arith in omega (arith, add-mul k 1 size, e)

  -- an axis with a precinct has samples, and so many cells up to its end
  pub cells : (i : ℕ) → i < across r0 r1 pd → (r0 < r1) × (cell + i < ceil_div r1 size)
  unfolding across
  cells i h =
      let c = cond_some (nat_lt r0 r1) (ceil_div r1 size - cell) h in
      (ltb-true r0 r1 c.0, omega (arith, c.1))

  -- a precinct starts before the end of the resolution, and ends after its start
  pub cell_before : (i : ℕ) → i < across r0 r1 pd → (cell + i) * size < r1
  cell_before i h = ceil_below size (pow_pos pd) r1 (cell + i) (cells i h).1

  pub cell-inside : (i : ℕ) → i < across r0 r1 pd → min r1 (cell_from r0 pd i) ≡ cell_from r0 pd i
  unfolding cell_from
  cell-inside i h = omega (arith, (cells i h).0, cell_before i h)

  pub cell-after : (i : ℕ) → r0 < (cell + i + 1) * size
  cell-after i = omega (arith, next (cell + i), add-mul cell i size, lt-div-mul-add {a = r0} (pow_pos pd))

  -- beyond the last there is nothing left
  pub cell_beyond : (i : ℕ) → across r0 r1 pd ≤ i → r0 < r1 → r1 ≤ (cell + i) * size
  unfolding across
  cell_beyond i h k = ceil_le size (pow_pos pd) r1 (cell + i) (let e : ceil_div r1 size - cell ≤ i = rw (lt-ltb r0 r1 k) at h in omega arith)

  pub none_left : (i : ℕ) → across r0 r1 pd ≤ i → (r1 ≡ min r1 (cell_from r0 pd i)) × (r1 ≡ cell_to r0 r1 pd i)
  unfolding cell_from cell_to
  none_left i h =
      ⊎_elim
      (λ (k : r1 ≤ r0). (omega arith, omega (arith, cell-after i)))
      (λ (k : r0 < r1). (omega (arith, cell_beyond i h k), omega (arith, cell_beyond i h k, next (cell + i))))
      (le_or_lt r1 r0)

  -- the number of a cell is at most the end of the resolution, so that it fits 32 bits where that does
  pub cell-small : (i : ℕ) → i < across r0 r1 pd → cell + i + 1 ≤ r1
  cell-small i h = omega (arith, (cells i h).1, ceil_small size (pow_pos pd) r1)

  -- and so does where it starts; where it ends may not, and is then beyond the resolution
  pub cell-fits : (i : ℕ) → i < across r0 r1 pd → r1 ≤ 4294967295
      → (max r0 (fitted ((cell + i) * size)) ≡ min r1 (cell_from r0 pd i)) × (least_of r1 (fitted ((cell + i + 1) * size)) ≡ cell_to r0 r1 pd i)
  unfolding cell_from cell_to
  cell-fits i h k = (
    rw (fitted-small ((cell + i) * size) (omega (arith, cell_before i h))) (omega (arith, (cells i h).0, cell_before i h)),
    fitted-least ((cell + i + 1) * size) (omega (arith, cell-after i)) r1 k,
  )

  -- NONE IS EMPTY
  pub cell_some : (i : ℕ) → i < across r0 r1 pd → cell_from r0 pd i < cell_to r0 r1 pd i
  unfolding cell_from cell_to
  cell_some i h = omega (arith, (cells i h).0, cell_before i h, cell-after i, next (cell + i), pow_pos pd)

  -- EVERY SAMPLE of the resolution lies in a precinct
  pub sample_in : (u : ℕ) → r0 ≤ u → u < r1
      → (u / size - cell < across r0 r1 pd) × (cell_from r0 pd (u / size - cell) ≤ u) × (u < cell_to r0 r1 pd (u / size - cell))
  unfolding across cell_from cell_to
  sample_in u p q =
      let e : cell + (u / size - cell) ≡ u / size = omega (arith, shr_mono pd p) in
      let k : u / size < ceil_div r1 size = below_ceil size (pow_pos pd) r1 (u / size) (omega (arith, div-mul-le_self u size)) in
      rw (lt-ltb r0 r1 (omega arith), e)
      (omega (arith, shr_mono pd p), omega (arith, div-mul-le_self u size), omega (arith, next (u / size), lt-div-mul-add {a = u} (pow_pos pd)))

  -- AND IN NO OTHER; and the samples of a precinct are the resolution's
  pub in_sample : (i u : ℕ) → cell_from r0 pd i ≤ u → u < cell_to r0 r1 pd i → (r0 ≤ u) × (u < r1) × (u / size ≡ cell + i)
  unfolding cell_from cell_to
  in_sample i u p q = (omega arith, omega arith, div-eq_of_lt-le {k = cell + i} size (omega arith) (omega arith))
