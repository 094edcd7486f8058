-- HOW MANY PACKETS SOME PROGRESSION ADMITS (02, P8), without a walk.
use Rattle.std.specs.Prelude.{ℕ, ◌*◌, Bool, cond, ◌&&◌, ltb, leb}
use Rattle.laws.specs.Below.{sum_below, max_below}
use Rattle.types.specs.Orders.{order_of, range_of}
use Rattle.types.specs.declared.order.Range.{Range}
use Rattle.types.specs.declared.state.Progression.{Progression}
use Rattle.packets.specs.Tile.{Sheet, res_of, precincts}
use Rattle.packets.specs.Grid.{change_of}
use Rattle.packets.specs.Positions.{has_positions}

-- a range goes over resolution r of component c
abbrev pub ranges_over : Range → ℕ → ℕ → Bool
ranges_over g c r = leb g.resno0 r && (ltb r g.resno1 && (leb g.compno0 c && ltb c g.compno1))

-- the layers in which a progression admits packets there: they start at 0, and there are none if it has no positions
abbrev pub layers_by : Sheet → ℕ → ℕ → Progression → ℕ
layers_by s c r q = let g : Range = range_of s.st q in cond (has_positions s g (order_of q.prg) && ranges_over g c r) g.layno1 0

-- those in which some progression does: all below the largest number
unfoldable pub layers_admitted : Sheet → ℕ → ℕ → ℕ
layers_admitted s c r = max_below (λ k. layers_by s c r (change_of s.st k)) s.st.progressions

-- the packets that some progression admits: each precinct in so many layers
unfoldable pub total : Sheet → ℕ
total s = sum_below (λ c. sum_below (λ r. precincts s c r * layers_admitted s c r) (res_of s.st c)) s.st.components
