-- Every position of a progression is a packet of the tile. Assumes nothing.
use Rattle.std.specs.Prelude.{◌≡◌, true, ◌<◌, ltb}
use Rattle.std.proofs.Math.Path.{refl}
use Rattle.std.proofs.Common.{arith, leb-true}
use Rattle.std.proofs.lemmas.Bool.{false≢true}
use mathlib.Core.List.{Memᴰ as In}
use Rattle.laws.specs.Cases.{and_true}
use Rattle.laws.specs.NestOnce.{Within}
use Rattle.packets.specs.Tile.{Sheet, precincts}
use Rattle.types.specs.declared.order.Order.{Order}
use Rattle.types.specs.declared.order.Order.TheVariants.{Lrcp as lrcp, Rlcp as rlcp, Rpcl as rpcl, Pcrl as pcrl, Cprl as cprl, NoPositions as other}
use Rattle.types.specs.declared.order.Range.{Range}
use Rattle.packets.specs.Positions.{loops_of, has_positions, positions_in}
use Rattle.packets.specs.Good.{Good}
use Rattle.packets.proofs.MetOnce.{precincts_in, met-small}
use Rattle.types.specs.declared.cursor.Position.{Position}
use Rattle.packets.specs.Inside.{pointed, ranged, has-good, in_positions, Inside}

module _ (s : Sheet) (g : Range) (good : Good s) where
  small : (o : Order) → has_positions s g o ≡ true → (p : Position) → p.compno < s.st.components → Within (loops_of s g o) p → p.precno < precincts s p.compno p.resno
  small lrcp h p c w = omega arith
  small rlcp h p c w = omega arith
  small rpcl h p c w = met-small s good p c (pointed s g rpcl refl p w)
  small pcrl h p c w = met-small s good p c (pointed s g pcrl refl p w)
  small cprl h p c w = met-small s good p c (pointed s g cprl refl p w)
  small other h p c w = absurd (false≢true h)

  -- every position of a progression is a packet of the tile
  pub inside : (o : Order) (p : Position) → In p (positions_in s g o) → Inside s p
  inside o p m =
      let w = (in_positions s g o p).0 m in
      let c : p.compno < s.st.components = omega (arith, leb-true g.compno1 _ (and_true (ltb g.compno0 _) _ (has-good s g o w.0)).1, (ranged s g o w.0 p w.1).component_to) in
      let k = small o w.0 p c w.1 in
      record { component = c; resolution = precincts_in s p.compno p.resno (omega arith); precinct = k }
