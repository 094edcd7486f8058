-- A value for each resolution of each component.
use Rattle.std.specs.Prelude.{◌≡◌, ℕ, [], get_or}
use Rattle.walks.specs.declared.by_resolution.ByResolution.{ByResolution}

-- that of component c at resolution r; where there is no such place, d
abbrev pub place : {T : Type 0} → T → ByResolution T → ℕ → ℕ → T
place d all r c = get_or (get_or all.places r []) c d

-- nothing is put yet
abbrev pub IsBlank : {T : Type 0} → T → ByResolution T → Type 0
IsBlank blank all = (r c : ℕ) → place blank all r c ≡ blank
