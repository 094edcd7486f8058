-- The ranges of a sheet's fields (01, 'The sheet': "Ranges").
use Rattle.std.specs.Prelude.{◌≡◌, ℕ, Bool, true, false, ◌&&◌, ◌||◌, leb, eqb}
use Rattle.std.proofs.Common.{eqb-true}
use Rattle.laws.specs.Cases.{split}

abbrev pub within : ℕ → ℕ → ℕ → Bool
within lo hi x = leb lo x && leb x hi

-- 01, the ranges, field by field
abbrev pub tile_range : ℕ → ℕ → ℕ → ℕ → ℕ → ℕ → ℕ → Bool
tile_range tx0 ty0 tx1 ty1 layers components progressions =
    leb tx0 tx1 && (leb ty0 ty1 && (within 1 65535 layers && (within 1 16 components && within 1 32 progressions)))

abbrev pub component_range : ℕ → ℕ → ℕ → Bool
component_range dx dy resolutions = within 1 255 dx && (within 1 255 dy && within 1 33 resolutions)

abbrev pub exponent_range : ℕ → ℕ → Bool
exponent_range pdx pdy = leb pdx 15 && leb pdy 15

-- 01: kind 4 has the ranges of the loops; 02, P6: kind 6 has the words of kind 4
abbrev pub is_volume : ℕ → Bool
is_volume kind = eqb kind 4 || eqb kind 6

-- neither is the kind of the whole tile
pub not-whole : (kind : ℕ) → is_volume kind ≡ true → eqb kind 5 ≡ false
not-whole kind e = split (eqb kind 4) (λ t. rw (eqb-true kind 4 t)) (λ t. rw (eqb-true kind 6 (rw t at e)))

abbrev pub progression_range : ℕ → ℕ → ℕ → Bool
progression_range resno0 layno1 resno1 = leb resno0 32 && (leb layno1 65535 && leb resno1 33)
