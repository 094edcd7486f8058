-- The loops of every order set different numbers, depend on outer loops only, and go up by one: what the laws of nests ask. Assumes nothing.
use Rattle.std.specs.Prelude.{refl}
use Rattle.laws.specs.Axis.{up_grows}
use Rattle.laws.specs.NestOnce.{Apart, Steady, Plain, Back}
use Rattle.packets.specs.Tile.{Sheet}
use Rattle.types.specs.declared.order.Order.{Order}
use Rattle.types.specs.declared.order.Order.TheVariants.{Lrcp as lrcp, Rlcp as rlcp, Rpcl as rpcl, Pcrl as pcrl, Cprl as cprl, NoPositions as other}
use Rattle.types.specs.declared.order.Range.{Range}
use Rattle.packets.specs.Positions.{loops_of, met, number_at}

module _ (s : Sheet) (g : Range) where
  -- every loop sets a number that the loops inside it leave alone
  pub loops_apart : (o : Order) → Apart (loops_of s g o)
  loops_apart lrcp = search (refl, up_grows) depth 24
  loops_apart rlcp = search (refl, up_grows) depth 24
  loops_apart rpcl = search (refl, up_grows) depth 24
  loops_apart pcrl = search (refl, up_grows) depth 24
  loops_apart cprl = search (refl, up_grows) depth 24
  loops_apart other = tt

  -- where a loop starts and ends depends on the loops around it only
  pub loops_steady : (o : Order) → Steady (loops_of s g o)
  unfolding met number_at
  loops_steady lrcp = search (refl, up_grows) depth 24
  loops_steady rlcp = search (refl, up_grows) depth 24
  loops_steady rpcl = search (refl, up_grows) depth 24
  loops_steady pcrl = search (refl, up_grows) depth 24
  loops_steady cprl = search (refl, up_grows) depth 24
  loops_steady other = tt

  -- every loop goes up by one
  pub loops_plain : (o : Order) → Plain (loops_of s g o)
  loops_plain lrcp = search (refl, up_grows) depth 24
  loops_plain rlcp = search (refl, up_grows) depth 24
  loops_plain rpcl = search (refl, up_grows) depth 24
  loops_plain pcrl = search (refl, up_grows) depth 24
  loops_plain cprl = search (refl, up_grows) depth 24
  loops_plain other = tt

  -- to set a number to what it is changes nothing
  pub loops_back : (o : Order) → Back (loops_of s g o)
  loops_back lrcp = search (refl, up_grows) depth 24
  loops_back rlcp = search (refl, up_grows) depth 24
  loops_back rpcl = search (refl, up_grows) depth 24
  loops_back pcrl = search (refl, up_grows) depth 24
  loops_back cprl = search (refl, up_grows) depth 24
  loops_back other = tt
