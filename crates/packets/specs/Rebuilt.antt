-- A state whose fields are of the widths that a sheet's words have.
use Rattle.std.specs.Prelude.{◌≡◌, ℕ, ◌^◌, ◌<◌, length}
use Rattle.packets.specs.Tile.{component_of}
use Rattle.packets.specs.Grid.{change_of}
use Rattle.packets.specs.Rows.{Signed}
use Rattle.types.specs.declared.state.Component.{Component}
use Rattle.types.specs.declared.state.Progression.{Progression}
use Rattle.types.specs.declared.state.State.{State}

-- a component, a progression and a state as the code holds them: every number fits its word, every array has its length
pub record FormedComponent (c : Component) : Type 0 where
  pub dx : c.dx < 2 ^ 32
  pub dy : c.dy < 2 ^ 32
  pub resolutions : c.resolutions < 2 ^ 32

pub record FormedProgression (q : Progression) : Type 0 where
  pub kind : q.kind < 2 ^ 32
  pub prg : Signed q.prg
  pub resno0 : q.resno0 < 2 ^ 32
  pub compno0 : q.compno0 < 2 ^ 32
  pub layno1 : q.layno1 < 2 ^ 32
  pub resno1 : q.resno1 < 2 ^ 32
  pub compno1 : q.compno1 < 2 ^ 32

pub record Formed (st : State) : Type 0 where
  pub tx0 : st.tx0 < 2 ^ 32
  pub ty0 : st.ty0 < 2 ^ 32
  pub tx1 : st.tx1 < 2 ^ 32
  pub ty1 : st.ty1 < 2 ^ 32
  pub layers : st.layers < 2 ^ 32
  pub components : st.components < 2 ^ 32
  pub progressions : st.progressions < 2 ^ 32
  pub comps : (length st.comps ≡ 16) × ((c : ℕ) → FormedComponent (component_of st c))
  pub changes : (length st.changes ≡ 32) × ((k : ℕ) → FormedProgression (change_of st k))
