-- A place of the arrays of a state: what stands there is in range, or is nothing, by whether the place is taken.
use Rattle.std.specs.Prelude.{Bool, cond, ◌&&◌, ◌||◌, eqb}
use Rattle.types.specs.Ranges.{component_range, is_volume, progression_range}
use Rattle.types.specs.Signed.{is_zero}
use Rattle.packets.specs.Sound.{no_range}
use Rattle.types.specs.declared.state.Component.{Component}
use Rattle.types.specs.declared.state.Progression.{Progression}

-- a component, or none
unfoldable pub component_fits : Bool → Component → Bool
component_fits there c = cond there (component_range c.dx c.dy c.resolutions) (eqb c.dx 0 && (eqb c.dy 0 && eqb c.resolutions 0))

-- a progression, which may stand alone, or none
unfoldable pub progression_fits : Bool → Bool → Progression → Bool
progression_fits there alone q =
    cond there
    ((is_volume q.kind && progression_range q.resno0 q.layno1 q.resno1) || (eqb q.kind 5 && (alone && no_range q)))
    (eqb q.kind 0 && (is_zero q.prg && no_range q))
