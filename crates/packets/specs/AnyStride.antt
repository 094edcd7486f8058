-- A stride that divides all the steps of a progression on an axis.
use Rattle.std.specs.Prelude.{◌≡◌, ℕ, ◌%◌, ◌≤◌, ◌<◌}
use Rattle.packets.specs.Tile.{Sheet, res_of}
use Rattle.packets.specs.Strided.{For, one_resolution, one_component, everything}
use Rattle.types.specs.declared.cursor.Position.{Position}

-- component c is one whose steps a stride has to divide where the loops outside stand at p: any, or in CPRL the one
abbrev pub Concerned : Sheet → For → Position → ℕ → Type 0
Concerned s one_resolution p c = c < s.st.components
Concerned s one_component p c = (c ≡ p.compno) × (c < s.st.components)
Concerned s everything p c = c < s.st.components

-- m divides all the steps on one axis, f
pub record DividesAll (s : Sheet) (w : For) (f : ℕ → ℕ → ℕ) (m : Position → ℕ) : Type 0 where
  pub positive : (p : Position) (c : ℕ) → Concerned s w p c → 1 ≤ m p
  pub divides : (p : Position) (c r : ℕ) → Concerned s w p c → r < res_of s.st c → f c r % m p ≡ 0
