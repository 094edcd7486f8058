-- The packets of a whole tile, by layer, resolution, component and precinct.
use Rattle.std.specs.Prelude.{ℕ, ◌<◌}
use mathlib.Core.List.{List, map}
use Rattle.laws.specs.Gather.{gather}
use Rattle.laws.specs.Axis.{span}
use Rattle.packets.specs.Tile.{Sheet, res_of, precincts}
use Rattle.types.specs.declared.cursor.Position.{Position}

-- a packet, whichever order lists it
pub record Packet : Type 0 where
  pub layno : ℕ
  pub resno : ℕ
  pub compno : ℕ
  pub precno : ℕ

-- the packet of a position
abbrev pub packet_of : Position → Packet
packet_of p = record { layno = p.layno; resno = p.resno; compno = p.compno; precno = p.precno }

-- the position of a packet at a point
abbrev pub position_of : Packet → ℕ → ℕ → Position
position_of a x y = record { layno = a.layno; resno = a.resno; compno = a.compno; precno = a.precno; x = x; y = y }

-- the packets of a resolution, of a component, of a layer
abbrev pub packets_of_resolution : Sheet → ℕ → ℕ → ℕ → List Packet
packets_of_resolution s l c r = map (λ k. record { layno = l; resno = r; compno = c; precno = k }) (span 0 (precincts s c r))

abbrev pub packets_of_component : Sheet → ℕ → ℕ → List Packet
packets_of_component s l c = gather (packets_of_resolution s l c) (span 0 (res_of s.st c))

abbrev pub packets_of_layer : Sheet → ℕ → List Packet
packets_of_layer s l = gather (packets_of_component s l) (span 0 s.st.components)

-- EVERY PACKET OF THE TILE: of every layer, component, resolution and precinct
unfoldable pub packets_of : Sheet → List Packet
packets_of s = gather (packets_of_layer s) (span 0 s.st.layers)

-- what a packet of the tile is
pub record Holds (s : Sheet) (a : Packet) : Type 0 where
  pub layer : a.layno < s.st.layers
  pub component : a.compno < s.st.components
  pub resolution : a.resno < res_of s.st a.compno
  pub precinct : a.precno < precincts s a.compno a.resno
