-- A resolution that a sound state has, as the calls hold it.
use Rattle.std.specs.Prelude.{ℕ, ◌<◌, List}
use Rattle.packets.specs.Tile.{Sheet, dx_of, dy_of, res_of, level_of}
use Rattle.packets.specs.Table.{entry_of}
use Rattle.packets.specs.Meaning.{Fit}
use Rattle.types.specs.declared.state.State.{State}
use Rattle.soundness.specs.declared.sides.Sides.{Sides}

-- resolution r of component c of a sound state and table
pub record Reached (st : State) (table : List ℕ) (c r : ℕ) : Type 0 where
  pub fit : Fit st table
  pub component : c < st.components
  pub resolution : r < res_of st c

-- its entry, and the tile's two axes as it sees them
abbrev pub sides_of : Sheet → ℕ → ℕ → Sides
sides_of s c r =
    record {
      entry = entry_of s c r;
      x = record { t0 = s.st.tx0; t1 = s.st.tx1; d = dx_of s.st c; level = level_of s.st c r; pd = s.pdx c r };
      y = record { t0 = s.st.ty0; t1 = s.st.ty1; d = dy_of s.st c; level = level_of s.st c r; pd = s.pdy c r };
    }
