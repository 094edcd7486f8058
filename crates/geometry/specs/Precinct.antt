-- Bounds and precincts on one axis: T.800 B.3 (components), B.5 (resolutions), B.6 (precincts); 01, 'Geometry'.
use Rattle.std.specs.Prelude.{ℕ, ◌+◌, ◌-◌, ◌*◌, ◌/◌, ◌^◌, min, max, cond, [], ◌∷◌, nat_lt}
use Rattle.laws.specs.Ceiling.{ceil_div}
use Rattle.geometry.specs.Math.{ceildiv_of, ceildivpow2_of}
use Rattle.geometry.specs.Said.{Said, value, refusal}

-- T.800 B.3: tcx0 = ⌈tx0 / XRsiz⌉; -22 for a step of 0
abbrev pub component_bound_of : ℕ → ℕ → Said
component_bound_of t d = ceildiv_of t d

-- T.800 B.5: trx0 = ⌈tcx0 / 2^(N_L - r)⌉; -22 for a level of 64 or more
abbrev pub resolution_bound_of : ℕ → ℕ → Said
resolution_bound_of c level = ceildivpow2_of c level

-- T.800 B.6: ⌈trx1 / 2^PPx⌉ - ⌊trx0 / 2^PPx⌋ if trx1 > trx0, else 0
unfoldable pub across : ℕ → ℕ → ℕ → ℕ
across r0 r1 pd = cond (nat_lt r0 r1) (ceil_div r1 (2 ^ pd) - r0 / 2 ^ pd) 0

-- T.800 B.6: precincts are the cells of a grid of 2^PPx samples that starts at 0. Of precinct i, counted from that in which trx0 lies, the first sample and
-- the end, both of the resolution
unfoldable pub cell_from : ℕ → ℕ → ℕ → ℕ
cell_from r0 pd i = max r0 ((r0 / 2 ^ pd + i) * 2 ^ pd)

unfoldable pub cell_to : ℕ → ℕ → ℕ → ℕ → ℕ
cell_to r0 r1 pd i = min r1 ((r0 / 2 ^ pd + i + 1) * 2 ^ pd)

-- the number of precincts; -22 for an exponent of 32 or more
unfoldable pub precincts_of : ℕ → ℕ → ℕ → Said
precincts_of r0 r1 pd = cond (nat_lt pd 32) (value (across r0 r1 pd ∷ [])) (refusal 22)
