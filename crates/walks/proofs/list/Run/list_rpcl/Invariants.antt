-- `list_rpcl`: what is left where the loop stands. A turn is the law `one-left` of specs/Rpcl: one resolution is listed by PCRL. Assumes nothing.
use Rattle.walks.specs.Listing.{Listing, ReadyBy}
use Rattle.walks.specs.Rpcl.{wholly, on_from}
use Rattle.walks.proofs.list.Run.list_rpcl.Given as goal

abbrev pub invariant-rs : goal.invariant-rs
invariant-rs l = Listing (ReadyBy l.prep l.w) l.fn.self (wholly l.w) l.self (on_from l.w l.r)
