-- What the total is counted by: the ranges of the progressions and the entries of the table.
use Rattle.std.specs.Prelude.{ℕ, ◌+◌, ◌-◌, ◌*◌, ◌≤◌, ◌<◌, max, ◌≡◌, Bool, true, false, cond, ◌&&◌, List, length, get_or, ltb, leb}
use Rattle.laws.specs.Below.{sum_below, max_below}
use Rattle.types.specs.Orders.{order_of, range_of, components_good}
use Rattle.types.specs.Entries.{entry_at}
use Rattle.types.specs.declared.order.Order.{Order}
use Rattle.types.specs.declared.order.Order.TheVariants.{NoPositions}
use Rattle.types.specs.declared.order.Range.{Range}
use Rattle.types.specs.declared.state.Progression.{Progression}
use Rattle.types.specs.declared.state.State.{State}
use Rattle.packets.specs.Grid.{change_of}

-- one of the five orders, which have positions
abbrev pub is_order : Order → Bool
is_order NoPositions = false
is_order o = true

-- the layers of a progression's range; none if the progression has no positions
unfoldable pub layers_for : State → Progression → Range → ℕ
layers_for st q g = cond (is_order (order_of q.prg) && components_good st g) g.layno1 0

-- RANGES KEPT IN A LIST. Range k; beyond the list there is nothing in it
abbrev pub range_at : List Range → ℕ → Range
range_at kept k = get_or kept k (record { layno1 = 0; resno0 = 0; resno1 = 0; compno0 = 0; compno1 = 0 })

-- a range with so many layers
abbrev pub with_layers : Range → ℕ → Range
with_layers g l = record { layno1 = l; resno0 = g.resno0; resno1 = g.resno1; compno0 = g.compno0; compno1 = g.compno1 }

-- the first n are those of the progressions, with the layers that these admit
abbrev pub Ranged : State → List Range → ℕ → Type 0
Ranged st kept n =
    (k : ℕ) → k < n → range_at kept k ≡ with_layers (range_of st (change_of st k)) (layers_for st (change_of st k) (range_of st (change_of st k)))

-- THE LAYERS OF A COMPONENT, by resolution. From a up to b, which is not included
abbrev pub between : ℕ → ℕ → ℕ → Bool
between a b x = leb a x && ltb x b

-- there they are raised to l
pub record Raised (held : List ℕ) (a b l : ℕ) (most : List ℕ) : Type 0 where
  pub long : length most ≡ 33
  pub each : (r : ℕ) → get_or most r 0 ≡ max (get_or held r 0) (cond (between a b r) l 0)

-- those that a range has over resolution r of component c, the most that one of the first k has, and of all
abbrev pub layers_in : Range → ℕ → ℕ → ℕ
layers_in g c r = cond (between g.compno0 g.compno1 c) (cond (between g.resno0 g.resno1 r) g.layno1 0) 0

unfoldable pub layers_to : List Range → ℕ → ℕ → ℕ → ℕ
layers_to kept c r k = max_below (λ i. layers_in (range_at kept i) c r) k

abbrev pub layers_over : List Range → ℕ → ℕ → ℕ
layers_over kept c r = layers_to kept c r (length kept)

-- THE PACKETS OF A COMPONENT. The precincts that entry i of a table counts
abbrev pub precincts_at : List ℕ → ℕ → ℕ
precincts_at table i = (entry_at table i).width * (entry_at table i).height

-- the packets of component c of m resolutions, whose entries are those from number e on
unfoldable pub packets_of : List Range → List ℕ → ℕ → ℕ → ℕ → ℕ
packets_of kept table e c m = sum_below (λ r. precincts_at table (e + r) * layers_over kept c r) m

-- they are few
pub record Few (kept : List Range) (table : List ℕ) (e c m : ℕ) : Type 0 where
  pub resolutions : m ≤ 33
  pub entry : e ≤ 528
  pub precincts : (r : ℕ) → r < m → precincts_at table (e + r) ≤ 65536
  pub packets : packets_of kept table e c m ≤ 65536

-- THE PRECINCTS OF ONE RANGE. Those that the entries from number a up to b count
unfoldable pub precincts_from : List ℕ → ℕ → ℕ → ℕ
precincts_from table a b = sum_below (λ i. precincts_at table (a + i)) (b - a)

-- they are few
pub record FewFrom (table : List ℕ) (a b : ℕ) : Type 0 where
  pub entries : b ≤ 528
  pub precincts : (i : ℕ) → a ≤ i → i < b → precincts_at table i ≤ 65536
