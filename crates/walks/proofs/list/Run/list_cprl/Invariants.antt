-- `list_cprl`: what is left where the loop stands. A turn is the law `one-left` of specs/Cprl: one component is listed by PCRL. Assumes nothing.
use Rattle.walks.specs.Listing.{Listing, ReadyBy}
use Rattle.walks.specs.Cprl.{wholly, on_from}
use Rattle.walks.proofs.list.Run.list_cprl.Given as goal

abbrev pub invariant-cs : goal.invariant-cs
invariant-cs l = Listing (ReadyBy l.prep l.w) l.fn.self (wholly l.w) l.self (on_from l.w l.c)
